use Rattle.mv_show.proofs.Words.{◌≡◌, map, take, pack_key, insert_all, Pack, is_same_subject}
use Rattle.mv_show.proofs.naming.note_packs.Given as goal

-- the first packs are noted
abbrev pub invariant-loop-serial : goal.invariant-loop-serial
invariant-loop-serial l = l.subjects.keys
    ≡ insert_all is_same_subject l.initial.subjects.keys (map (λ serial. Pack (pack_key l.gtin serial)) (take l.serial-index l.serial-items))
