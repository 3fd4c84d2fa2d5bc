-- The order of the keys in the objects that replies are.
use Rattle.std.specs.Prelude.{◌≡◌, ℕ, List, Option, codes}
use Rattle.mv_format.specs.Words.{Data, LineFault, Members, MessageFault, Reply, object}
use Rattle.mv_json.specs.Keys.{KeysAscend}
use Rattle.mv_format.specs.ReplyLines.{line_fault_value, message_fault_value, numbered, refused, reply_value}

-- an object, whose keys ascend
abbrev pub IsOrdered : Data → Type 0
IsOrdered value = (members : Members) × (value ≡ object members) × KeysAscend value

-- each reply is an object whose keys ascend
abbrev pub RepliesAreOrdered : Type 0
RepliesAreOrdered = ((reply : Reply) → IsOrdered (reply_value reply)) × ((fault : LineFault) → IsOrdered (line_fault_value fault))
    × ((line : Option ℕ) (fault : MessageFault) → IsOrdered (message_fault_value line fault)) × ((code : List ℕ) → IsOrdered (refused code))
    × ((count : ℕ) → IsOrdered (numbered (codes "opened") count))
