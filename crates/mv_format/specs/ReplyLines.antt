-- The JSON value of each reply. Its text is the value's compact text: no blanks, the keys in byte order.
use Rattle.std.specs.Prelude.{ℕ, List, [], ◌∷◌, ◌++◌, map, codes, Bool, true, false, Option, Some, None}
use Rattle.mv_format.specs.Words.{Character, Data, Items, LineFault, MessageFault, PackFault, Reply, array, boolean, items_of, string, whole}
use Rattle.mv_pack.specs.Fault.{code_of as pack_code}
use Rattle.mv_json.specs.Fault.{code_of as message_code}
use Rattle.mv_json.specs.Fields.{field_name as message_field_name}
use Rattle.mv_repository.specs.Pack.{code_of as effect_code}
use Rattle.mv_repository.specs.declared.effect.Effect.{Effect}
use Rattle.mv_repository.specs.declared.effect.Effect.TheVariants.{Uploaded}
use Rattle.mv_repository.specs.declared.verdict.Joint.TheVariants.{NotAsked, Pending, Decided}
use Rattle.mv_repository.specs.declared.verdict.Verdict.{Verdict}
use Rattle.mv_repository.specs.declared.verdict.Verdict.TheVariants.{Authentic, NotAuthentic}
use Rattle.mv_machine.specs.declared.reply.Refusal.{Refusal}
use Rattle.mv_machine.specs.declared.reply.Refusal.TheVariants.{Busy, Memory}
use Rattle.mv_machine.specs.Replies.{code_of as refusal_code}
use Rattle.mv_format.specs.declared.answered.Answered.{Answered}
use Rattle.mv_format.specs.declared.answered.Answered.TheVariants.{Unread, NotTaken, Opened, Stepped}
use Rattle.mv_format.specs.Fields.{field_name}
use Rattle.mv_format.specs.Openings.{code_of as open_code}
use Rattle.mv_format.specs.Objects.{object_of}
use Rattle.mv_json.specs.declared.fault.MessageFault.TheVariants as message
use Rattle.mv_machine.specs.declared.reply.Reply.TheVariants as replies
use Rattle.mv_format.specs.declared.line_fault.LineFault.TheVariants as line

-- a list of whole numbers
abbrev pub wholes : List ℕ → Items
wholes ns = items_of (map whole ns)

-- an object with one whole number
abbrev pub numbered : List ℕ → ℕ → Data
numbered key n = object_of ((key, whole n) ∷ [])

-- a refusal by its number
abbrev pub refused : List ℕ → Data
refused code = object_of ((codes "refused", string code) ∷ [])

-- a whole number under a key, where there is one
abbrev pub number_where : List ℕ → Option ℕ → List (List ℕ × Data)
number_where key None = []
number_where key (Some n) = (key, whole n) ∷ []

-- a refusal that names a field
abbrev pub refused_field : Option ℕ → List ℕ → List ℕ → Data
refused_field line field code =
    object_of ((codes "field", string field) ∷ number_where (codes "line") line ++ (codes "refused", string code) ∷ [])

-- of a text with a wrong character (P6) the place of that
abbrev pub place_of : PackFault → Option ℕ
place_of (Character place) = Some place
place_of fault = None

-- the refusal of a text that is no value (M6): why it is none, and its field
abbrev pub refused_pack : Option ℕ → PackFault → List ℕ → Data
refused_pack line fault field = object_of (
    (codes "fault", string (pack_code fault)) ∷ (codes "field", string field) ∷ number_where (codes "line") line
    ++ number_where (codes "place") (place_of fault) ++ (codes "refused", string (codes "M6")) ∷ []
    )

-- the refusal of a fault of a message, with the number of its line, where that is said
abbrev pub message_fault_value : Option ℕ → MessageFault → Data
message_fault_value line (message.Missing field) = refused_field line (message_field_name field) (codes "M3")
message_fault_value line (message.Unknown key) = refused_field line key (codes "M4")
message_fault_value line (message.Kind field) = refused_field line (message_field_name field) (codes "M5")
message_fault_value line (message.Pack field fault) = refused_pack line fault (message_field_name field)
message_fault_value line (message.Count field) = refused_field line (message_field_name field) (codes "M7")
message_fault_value line (message.TextLength field) = refused_field line (message_field_name field) (codes "M8")
message_fault_value line fault = object_of (number_where (codes "line") line ++ (codes "refused", string (message_code fault)) ∷ [])

-- the refusal of a fault of a line
abbrev pub line_fault_value : LineFault → Data
line_fault_value line.NotJson = refused (codes "M1")
line_fault_value line.NotObject = refused (codes "M2")
line_fault_value (line.Missing field) = refused_field None (field_name field) (codes "M3")
line_fault_value (line.Unknown key) = refused_field None key (codes "M4")
line_fault_value (line.Kind field) = refused_field None (field_name field) (codes "M5")
line_fault_value (line.Pack field fault) = refused_pack None fault (field_name field)
line_fault_value (line.Message fault) = message_fault_value None fault
line_fault_value line.Memory = refused (codes "M9")

-- the refusal of a step: S6 names the party whose link has no room
abbrev pub refusal_value : Refusal → Data
refusal_value (Busy party) = object_of ((codes "party", whole party) ∷ (codes "refused", string (codes "S6")) ∷ [])
refusal_value refusal = refused (refusal_code refusal)

-- a verdict on a pack
abbrev pub verdict_value : Verdict → Data
verdict_value Authentic = object_of ((codes "verdict", string (codes "authentic")) ∷ [])
verdict_value (NotAuthentic falsification) =
    object_of ((codes "falsification", boolean falsification) ∷ (codes "verdict", string (codes "not authentic")) ∷ [])

-- of an upload (E12), how many packs were new and how many were there
abbrev pub counts_of : Effect → List (List ℕ × Data)
counts_of (Uploaded new old) = (codes "new", whole new) ∷ (codes "old", whole old) ∷ []
counts_of effect = []

-- the reply to a step
abbrev pub reply_value : Reply → Data
reply_value (replies.Submitted k) = numbered (codes "submitted") k
reply_value (replies.Routed k reach) = object_of ((codes "reach", array (wholes reach)) ∷ (codes "routed", whole k) ∷ [])
reply_value (replies.Relayed n) = numbered (codes "relayed") n
reply_value (replies.Known verdict) = verdict_value verdict
reply_value (replies.Asked q) = numbered (codes "asked") q
reply_value (replies.Applied n effect answer) =
    object_of (
    number_where (codes "answer") answer ++ (codes "applied", whole n) ∷ (codes "effect", string (effect_code effect)) ∷ counts_of effect
    )
reply_value (replies.Old n) = numbered (codes "old") n
reply_value (replies.Gap n expected) = object_of ((codes "expected", whole expected) ∷ (codes "gap", whole n) ∷ [])
reply_value (replies.Repeated n) = numbered (codes "repeated") n
reply_value replies.Closed = object_of ((codes "closed", boolean true) ∷ [])
reply_value (replies.Lost n) = numbered (codes "lost") n
reply_value (replies.Joint NotAsked) = object_of ((codes "verdict", string (codes "not asked")) ∷ [])
reply_value (replies.Joint (Pending left)) = object_of ((codes "left", whole left) ∷ (codes "verdict", string (codes "pending")) ∷ [])
reply_value (replies.Joint (Decided verdict)) = verdict_value verdict
reply_value (replies.Refused refusal) = refusal_value refusal

-- what a line is answered by what came of it
abbrev pub answer_value : Answered → Data
answer_value (Unread fault) = line_fault_value fault
answer_value (NotTaken fault) = refused (open_code fault)
answer_value (Opened parties) = numbered (codes "opened") parties
answer_value (Stepped step reply) = reply_value reply

-- a line that was refused for what it is or for want of memory: by an M, C, H or O, or by S14
abbrev pub is_refused : Answered → Bool
is_refused (Unread fault) = true
is_refused (NotTaken fault) = true
is_refused (Stepped step (replies.Refused Memory)) = true
is_refused answered = false
