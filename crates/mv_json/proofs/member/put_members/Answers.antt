use Rattle.mv_json.proofs.Words.{PutsValue, append_assoc, arith, take_all}
use Rattle.mv_json.proofs.TokenLemmas.{◌then◌, named, nothing}
use Rattle.std.proofs.lemmas.Grind.{common_steps}
use Rattle.mv_json.proofs.member.put_members.Goals as goal

pub loop-field-init : goal.loop-field-init
loop-field-init c = nothing

-- one more member
pub loop-field-preserved : goal.loop-field-preserved
unfolding PutsValue
loop-field-preserved c =
    named (c.loop-field.invariant then c.in_ok-plain_key.ensures then c.in_ok-put_said.ensures) (grind (arith, common_steps, append_assoc))

-- all members
pub returns : goal.returns
returns c = search (named, take_all)
