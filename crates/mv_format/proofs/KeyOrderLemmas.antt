-- The keys of replies ascend.
use Rattle.mv_format.proofs.Words.{◌≡◌, ℕ, true, List, [], ◌∷◌, refl, rules, Option, None, Some, Character, LineFault, Members, field_name, keys_of, object}
use Rattle.std.specs.Ordering.{nat_cmp}
use Rattle.std.specs.Cmp.Lexicographic.{slice_cmp}
use Rattle.mv_pack.specs.declared.fault.PackFault.{PackFault}
use Rattle.mv_json.specs.Fields.{field_name as message_field_name}
use Rattle.mv_json.specs.Keys.{ItemsKeysAscend, MembersKeysAscend}
use Rattle.mv_json.specs.declared.fault.MessageFault.{MessageFault}
use Rattle.mv_json.proofs.CallerLemmas.{rises, strictly_sorted}
use Rattle.mv_repository.specs.declared.effect.Effect.TheVariants.{Uploaded}
use Rattle.mv_repository.specs.declared.verdict.Joint.TheVariants.{Decided}
use Rattle.mv_repository.specs.declared.verdict.Verdict.TheVariants.{Authentic, NotAuthentic}
use Rattle.mv_machine.specs.declared.reply.Reply.{Reply}
use Rattle.mv_machine.specs.declared.reply.Refusal.TheVariants.{Busy}
use Rattle.mv_format.specs.KeyOrder.{IsOrdered, RepliesAreOrdered}
use Rattle.mv_format.specs.ReplyLines.{wholes, refused_pack, reply_value, message_fault_value, line_fault_value}
use Rattle.mv_json.specs.declared.fault.MessageFault.TheVariants as message
use Rattle.mv_machine.specs.declared.reply.Reply.TheVariants as replies
use Rattle.mv_format.specs.declared.line_fault.LineFault.TheVariants as line

-- there is no object in a list of numbers
pub wholes_ascend : (ns : List ℕ) → ItemsKeysAscend (wholes ns)
wholes_ascend [] = tt
wholes_ascend (n ∷ ns) = (tt, wholes_ascend ns)

-- an object is ordered whose keys rise, as those of the objects that it holds do
pub ordered : (members : Members) → rises (slice_cmp nat_cmp) (keys_of members) ≡ true → MembersKeysAscend members → IsOrdered (object members)
ordered members up each = (members, refl, (strictly_sorted (slice_cmp nat_cmp) (keys_of members) up, each))

pack_ordered : (line : Option ℕ) (fault : PackFault) (field : List ℕ) → IsOrdered (refused_pack line fault field)
unfolding rises
pack_ordered None (Character place) field = ordered _ refl (search rules)
pack_ordered None fault field = ordered _ refl (search rules)
pack_ordered (Some n) (Character place) field = ordered _ refl (search rules)
pack_ordered (Some n) fault field = ordered _ refl (search rules)

-- the value of the refusal of a message
message_fault_ordered : (line : Option ℕ) (fault : MessageFault) → IsOrdered (message_fault_value line fault)
unfolding rises
message_fault_ordered line (message.Pack field fault) = pack_ordered line fault (message_field_name field)
message_fault_ordered None fault = ordered _ refl (search rules)
message_fault_ordered (Some n) fault = ordered _ refl (search rules)

-- the value of the refusal of a line
line_fault_ordered : (fault : LineFault) → IsOrdered (line_fault_value fault)
unfolding rises
line_fault_ordered (line.Pack field fault) = pack_ordered None fault (field_name field)
line_fault_ordered (line.Message fault) = message_fault_ordered None fault
line_fault_ordered fault = ordered _ refl (search rules)

-- the value of a reply to a step
reply_ordered : (reply : Reply) → IsOrdered (reply_value reply)
unfolding rises
reply_ordered (replies.Known Authentic) = ordered _ refl (search rules)
reply_ordered (replies.Known (NotAuthentic falsification)) = ordered _ refl (search rules)
reply_ordered (replies.Applied n (Uploaded new old) None) = ordered _ refl (search rules)
reply_ordered (replies.Applied n (Uploaded new old) (Some answer)) = ordered _ refl (search rules)
reply_ordered (replies.Applied n effect None) = ordered _ refl (search rules)
reply_ordered (replies.Applied n effect (Some answer)) = ordered _ refl (search rules)
reply_ordered (replies.Joint (Decided Authentic)) = ordered _ refl (search rules)
reply_ordered (replies.Joint (Decided (NotAuthentic falsification))) = ordered _ refl (search rules)
reply_ordered (replies.Refused (Busy party)) = ordered _ refl (search rules)
reply_ordered (replies.Refused refusal) = ordered _ refl (search rules)
reply_ordered reply = ordered _ refl (search (rules, wholes_ascend))

-- each reply is an object whose keys ascend
pub replies_are_ordered : RepliesAreOrdered
unfolding rises
replies_are_ordered = (reply_ordered, line_fault_ordered, message_fault_ordered, λ code. ordered _ refl (search rules), λ count. ordered _ refl (search rules))
