use Rattle.mv_format.proofs.Words.{append_assoc, arith}
use Rattle.mv_format.proofs.WritingLemmas.{all_members}
use Rattle.mv_json.proofs.CallerLemmas.{named, ◌then◌}
use Rattle.std.proofs.lemmas.Grind.{common_steps}
use Rattle.mv_format.proofs.members.write_object.Goals as goal

-- one more member
pub loop-member-preserved : goal.loop-member-preserved
loop-member-preserved c = named (c.loop-member.invariant then c.in_ok-write_member.ensures) (grind (arith, common_steps, append_assoc))

-- all members, and the end of their object
pub returns : goal.returns
returns c = let l = c.loop-member in named (l.invariant then c.end_object.ensures) (all_members l.member-index c.args.members.now (omega arith))
