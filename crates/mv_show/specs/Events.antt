-- What a line did, as an audit trail tells it (Regulation (EU) 2016/161, Article 35(1)).
use Rattle.std.specs.Prelude.{ℕ, ◌-◌, ◌==◌, List, length, slice_get, if◌then◌else◌, Option, Some, None, option_map}
use Rattle.mv_show.specs.Words.{Message, Query, Entry, Effect, LogEntry, Verdict, State, submissions_of, log_of, Open, Answered}
use Rattle.mv_pack.specs.declared.key.PackKey.{PackKey}
use Rattle.mv_hub.specs.declared.entry.Entry.TheVariants as entries
use Rattle.mv_repository.specs.declared.verdict.Joint.TheVariants.{Decided}
use Rattle.mv_machine.specs.declared.step.Step.{Step}
use Rattle.mv_machine.specs.declared.step.Step.TheVariants as steps
use Rattle.mv_machine.specs.declared.reply.Reply.{Reply}
use Rattle.mv_machine.specs.declared.reply.Reply.TheVariants as replies
use Rattle.mv_machine.specs.Limits.{Bounds}
use Rattle.mv_format.specs.declared.answered.Answered.TheVariants as answers

-- What a line did. Parties are counted from 0, all else from 1; a stamp is the place of an entry in the hub's record.
pub data Event : Type 0 where
  opened : List (List (List ℕ)) → Bounds → Event  -- a system: the markets of each party, the limits
  submitted : ℕ → ℕ → Message → Event  -- by a party, as its message of this number
  asked : ℕ → PackKey → ℕ → Event  -- by a party about a pack, as its message of this number
  verified : ℕ → PackKey → Verdict → Event  -- by a party, by its own repository
  routed : ℕ → ℕ → Message → List ℕ → ℕ → Event  -- from a party, its message of this number, to these parties, with this stamp
  applied : ℕ → ℕ → Effect → Option ℕ → LogEntry → Event  -- by a party, the frame of this number, what it did, and the answer's number
  closed : ℕ → ℕ → ℕ → Event  -- the link from a party to another, with this stamp
  decided : ℕ → ℕ → PackKey → Verdict → Event  -- for a party, on its query of this number, about this pack

-- the last of a list
abbrev pub last_of : {A : Type 0} → List A → Option A
last_of xs = slice_get xs (length xs - 1)

-- the pack that a message asks about
abbrev pub pack_asked : Option Message → Option PackKey
pack_asked (Some (Query key)) = Some key
pack_asked message = None

-- the pack that the message of this number asks about, counted from one
abbrev pub asked_about : List Message → ℕ → Option PackKey
asked_about messages q = if q == 0 then None else pack_asked (slice_get messages (q - 1))

-- the event of a routing to these parties, by the entry of the record that it made, the last of so many
abbrev pub routing : List ℕ → ℕ → Option Entry → Option Event
routing reach count (Some (entries.Routed from k message)) = Some (routed from k message reach count)
routing reach count entry = None

-- the event of a step, by its reply and the state that it left; none of a step that was refused or moved a frame alone
abbrev pub event_of_step : Step → Reply → State → Option Event
event_of_step (steps.Submit from message) (replies.Submitted k) st = Some (submitted from k message)
event_of_step (steps.Verify party key) (replies.Asked q) st = Some (asked party key q)
event_of_step (steps.Verify party key) (replies.Known verdict) st = Some (verified party key verdict)
event_of_step (steps.Route from) (replies.Routed k reach) st = routing reach (length st.hub.entries) (last_of st.hub.entries)
event_of_step (steps.Apply from to) (replies.Applied number effect answer) st =
    option_map (applied to number effect answer) (last_of (log_of st to))
event_of_step (steps.Close from to) replies.Closed st = Some (closed from to (length st.hub.entries))
event_of_step (steps.Verdict party q) (replies.Joint (Decided verdict)) st =
    option_map (λ key. decided party q key verdict) (asked_about (submissions_of st party) q)
event_of_step step reply st = None

-- the event of a line, by what came of it and what is open after it; none of a line that was refused
abbrev pub event_of : Answered → Open → Option Event
event_of (answers.Opened count) (Some st) = Some (opened st.hub.parties st.limits)
event_of (answers.Stepped step reply) (Some st) = event_of_step step reply st
event_of answered after = None
