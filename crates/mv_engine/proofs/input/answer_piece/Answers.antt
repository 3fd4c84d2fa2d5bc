use Rattle.mv_engine.proofs.Words.{rules, arith, append-nil, append_assoc, take_at, nil_from_length}
use Rattle.mv_engine.proofs.RepliesLemmas.{reply_added}
use Rattle.mv_engine.proofs.input.answer_piece.Goals as goal

-- the line is empty
pub returns-then-is_empty-clause-ok : goal.returns-then-is_empty-clause-ok
returns-then-is_empty-clause-ok g c = search (rules, nil_from_length)

-- there is no reply
pub returns-then-not-branch-clause-ok : goal.returns-then-not-branch-clause-ok
returns-then-not-branch-clause-ok g c =
    let (text, grown, reply) = c.in_ok-answer.ensures.ok in
    reply_added g.S.Answering.replies _ _ _ _ _ _ _ _ c.requires.few c.requires.short c.without_return-line.ensures (search rules) reply
    (grind (arith, take_at, append-nil))

-- the reply is added
pub returns-clause-ok : goal.returns-clause-ok
returns-clause-ok g c =
    let (text, grown, reply) = c.in_ok-answer.ensures.ok in
    reply_added g.S.Answering.replies _ _ _ _ _ _ _ _ c.requires.few c.requires.short c.without_return-line.ensures (search rules) reply
    (grind (arith, append_assoc, append-nil))
