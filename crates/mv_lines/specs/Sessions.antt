-- What may come of a line, and what it is answered. What is open is the state of the list machine; nothing, before an opening succeeds.
use Rattle.std.specs.Prelude.{◌≡◌, ℕ, List, length, Option, Some, None, Result, Ok, Err, MatchResult}
use Rattle.serde_json.specs.Written.{compact_text}
use Rattle.mv_hub.specs.Parties.{parties_of}
use Rattle.mv_json.specs.Reading.{map_err}
use Rattle.mv_machine.specs.declared.reply.Reply.{Reply}
use Rattle.mv_machine.specs.Limits.{Bounds, limits_of}
use Rattle.mv_machine.specs.State.{State, opening}
use Rattle.mv_machine.specs.Runs.{Allows}
use Rattle.mv_format.specs.declared.answered.Answered.{Answered}
use Rattle.mv_format.specs.declared.answered.Answered.TheVariants.{Unread, NotTaken, Opened, Stepped}
use Rattle.mv_format.specs.declared.open_fault.OpenFault.{OpenFault}
use Rattle.mv_format.specs.declared.open_fault.OpenFault.TheVariants.{NotOpen, AlreadyOpen, Parties, Limits}
use Rattle.mv_format.specs.declared.request.Request.{Request}
use Rattle.mv_format.specs.declared.request.Request.TheVariants as requests
use Rattle.mv_engine.specs.Lines.{Line}
use Rattle.mv_format.specs.ReplyLines.{answer_value}
use Rattle.mv_format.specs.Requests.{read_line}

-- what is open, and nothing before the first opening
abbrev pub Open : Type 0
Open = Option State

-- what comes of a line that opens, and what is open after it: C2 where something is open; H1 to H3, O1 to O4; else the system opens
abbrev pub opened_by : Open → Result (List (List (List ℕ))) OpenFault → Result Bounds OpenFault → Answered × Open
opened_by (Some st) parties limits = (NotTaken AlreadyOpen, Some st)
opened_by None (Err fault) limits = (NotTaken fault, None)
opened_by None (Ok parties) (Err fault) = (NotTaken fault, None)
opened_by None (Ok parties) (Ok limits) = (Opened (length parties), Some (opening parties limits))

-- what comes of what a line asks: of a step C1 where nothing is open, else a reply that the list machine allows
abbrev pub IsRequestTaken : Open → Request → Answered → Open → Type 0
IsRequestTaken before (requests.Open parties submissions uplink window wire) answered after =
    (answered, after) ≡ opened_by before (map_err Parties (parties_of parties)) (map_err Limits (limits_of window wire uplink submissions))
IsRequestTaken None (requests.Step step) answered after = (answered ≡ NotTaken NotOpen) × (after ≡ None)
IsRequestTaken (Some old) (requests.Step step) answered after =
    (reply : Reply) × (new : State) × Allows old step reply new × (answered ≡ Stepped step reply) × (after ≡ Some new)

-- what comes of a line: what is open before it, its bytes, what came, and what is open after it
abbrev pub IsTaken : Open → List ℕ → Answered → Open → Type 0
IsTaken before line answered after =
    MatchResult (read_line line)
    (λ request. IsRequestTaken before request answered after)
    (λ fault. (answered ≡ Unread fault) × (after ≡ before))

-- the reply to a line: the text of what came of it
abbrev pub IsReply : Open → Line → Option (List ℕ) → Open → Type 0
IsReply before line text after =
    (answered : Answered) × IsTaken before line.bytes answered after × (text ≡ Some (compact_text (answer_value answered)))
