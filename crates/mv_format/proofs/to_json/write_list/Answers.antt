use Rattle.mv_format.proofs.Words.{append_assoc, arith}
use Rattle.mv_format.proofs.WritingLemmas.{all_values}
use Rattle.mv_json.proofs.CallerLemmas.{named, ◌then◌}
use Rattle.std.proofs.lemmas.Grind.{common_steps}
use Rattle.mv_format.proofs.to_json.write_list.Goals as goal

-- one more value
pub loop-item-preserved : goal.loop-item-preserved
loop-item-preserved g c = named (c.loop-item.invariant then c.in_ok-write.ensures) (grind (arith, common_steps, append_assoc))

-- all values, and the end of the list
pub returns : goal.returns
returns g c = let l = c.loop-item in named (l.invariant then c.end_array.ensures) (all_values g.T.ToJson.value l.item-index c.args.items.now (omega arith))
