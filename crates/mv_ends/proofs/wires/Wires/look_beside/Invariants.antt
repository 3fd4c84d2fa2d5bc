use Rattle.mv_ends.proofs.Words.{◌≡◌, ◌<◌, ℕ, [], get_or, IsPrefix, cell, each_row, ring_put, sent}
use Rattle.mv_ends.proofs.wires.Wires.look_beside.Given as goal

-- the ends of the links so far were looked at, and show what they showed
abbrev pub invariant-loop-from : goal.invariant-loop-from
invariant-loop-from l = record {
  rings : each_row ring_put l.self-inside.rows.items ≡ l.fn.self.rings;
  put : each_row sent l.self-inside.rows.items ≡ l.fn.self.put;
  inlets : l.inlets.rings ≡ l.fn.inlets.rings;
  taken : l.inlets.taken ≡ l.fn.inlets.taken;
  in_hand : l.inlets.in_hand ≡ l.fn.inlets.in_hand;
  front : (from : ℕ) → from < l.from → IsPrefix (get_or l.fn.inlets.taken from []) (cell l.fn.self.put l.to from []);
}
