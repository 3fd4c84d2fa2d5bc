use Rattle.mv_show.proofs.Words.{◌≡◌, ◌++◌, flat_map, lines_text, subject_rows, take}
use Rattle.mv_show.proofs.gathering.append_party.Given as goal

-- the lines of the first subjects are added
abbrev pub invariant-loop-subject : goal.invariant-loop-subject
invariant-loop-subject l =
    l.lines ≡ l.initial.lines ++ flat_map (λ subject. lines_text (subject_rows l.world l.party subject)) (take l.subject-index l.subject-items)
