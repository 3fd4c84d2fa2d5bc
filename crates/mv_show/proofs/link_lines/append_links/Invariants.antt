use Rattle.mv_show.proofs.Words.{◌≡◌, ◌++◌, flat_map, lines_text, link_rows, range_with_len}
use Rattle.mv_show.proofs.link_lines.append_links.Given as goal

-- the lines of the first links are added
abbrev pub invariant-loop-to : goal.invariant-loop-to
invariant-loop-to l = l.lines ≡ l.initial.lines ++ lines_text (flat_map (link_rows l.world l.from) (range_with_len 0 l.to))
