use Rattle.mv_json.proofs.Words.{◌≤◌, List, ◌++◌, length, vec_capacity, BeginWithTexts, Token}
use Rattle.mv_json.proofs.part_reading.take_list.Given as goal

-- whatever values come next stand behind those that were taken
abbrev pub invariant-loop-list : goal.invariant-loop-list
invariant-loop-list g l = record {
  list : (list : List g.row.T.Denot) (rest : List Token) → BeginWithTexts g.T.Listed.reads l.reader list rest
      → BeginWithTexts g.T.Listed.reads l.initial.reader (l.list.items ++ list) rest;
  count : length l.list.items ≤ l.most;
  room : l.most ≤ vec_capacity l.list;
}

abbrev pub decreases-loop-list : goal.decreases-loop-list
decreases-loop-list g l = length l.reader
