use Rattle.std.proofs.Common.{append_assoc, arith}
use Rattle.std.proofs.lemmas.Grind.{common_steps}
use Rattle.mv_json.proofs.TokenLemmas.{◌then◌, named, whole_list}
use Rattle.mv_json.proofs.member.put_list.Goals as goal

-- one more value
pub loop-value-preserved : goal.loop-value-preserved
loop-value-preserved g c = named (c.loop-value.invariant then c.in_ok-string.ensures) (grind (arith, common_steps, append_assoc))

-- the list, and its end
pub returns : goal.returns
returns g c =
    let l = c.loop-value in named (l.invariant then c.end_array.ensures) (whole_list g.T.Listed.written l.value-index c.args.list.now (omega arith))
