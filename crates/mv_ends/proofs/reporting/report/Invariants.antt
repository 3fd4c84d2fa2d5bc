use Rattle.mv_ends.proofs.Words.{flat_map, head_line, party_line, range_with_len, string_bytes, ◌++◌, ◌≡◌}
use Rattle.mv_ends.proofs.reporting.report.Given as goal

-- the head line and the lines of the parties before this one are written
abbrev pub invariant-loop-party : goal.invariant-loop-party
invariant-loop-party l = string_bytes l.text ≡ head_line ++ flat_map (party_line l.outcome) (range_with_len 0 l.party)
