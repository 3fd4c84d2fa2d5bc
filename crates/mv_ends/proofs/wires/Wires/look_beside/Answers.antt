use Rattle.mv_ends.proofs.Words.{rules, inl, inr, cases_lt}
use Rattle.mv_ends.proofs.RingLemmas.{cell_same, cell_shown}
use Rattle.mv_ends.proofs.wires.Wires.look_beside.Goals as goal

-- one more link was looked at
pub loop-from-preserved : goal.loop-from-preserved
loop-from-preserved c = record {
  rings = search (rules, cell_same);
  put = search (rules, cell_same);
  inlets = search rules;
  taken = search rules;
  in_hand = search rules;
  front = λ from below. elim (cases_lt from c.loop-from.from) [
    | inl before ↦ c.loop-from.invariant.front from before
    | inr after ↦ search (rules, cell_shown)
  ];
}
