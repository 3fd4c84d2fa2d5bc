use Rattle.mv_show.proofs.Words.{◌≡◌, ◌++◌, flat_map, length, link_rows, lines_text, party_rows, range_with_len}
use Rattle.mv_show.proofs.gathering.append_world.Given as goal

-- the lines of the first parties are added
abbrev pub invariant-loop-party : goal.invariant-loop-party
invariant-loop-party l = l.lines ≡ l.initial.lines ++ lines_text (flat_map (party_rows l.world) (range_with_len 0 l.party))

-- and those of the links from the first parties
abbrev pub invariant-loop-from : goal.invariant-loop-from
invariant-loop-from l =
    l.lines ≡ l.initial.lines
    ++ lines_text (flat_map (λ from. flat_map (link_rows l.world from) (range_with_len 0 (length l.world.hub.parties))) (range_with_len 0 l.from))
