use Rattle.mv_engine.proofs.Words.{arith, rules, Consumes-kept, Consumes-whole, Consumes-trans, Appends-trans, err_from_is_err_and, IfErr-weaker, MatchResult-weaker}
use Rattle.mv_engine.proofs.RepliesLemmas.{taken_more, unread_at, halted_block, halted_last, served_whole, read_none}
use Rattle.mv_engine.proofs.engine.answer_lines.Goals as goal

-- the read failed
pub returns-in_err-count-clause-ended : goal.returns-in_err-count-clause-ended
returns-in_err-count-clause-ended g c =
    let p = err_from_is_err_and c.from_residual.result c.from_residual.ensures.1 in
    rw (p.1, p.2, c.in_err-count.ensures.fault) (c.loop.invariant.0, search (rules, Consumes-kept), search (rules, unread_at))

-- the bytes that were read stopped it
pub returns-in_err-answer_block-clause-ended : goal.returns-in_err-answer_block-clause-ended
returns-in_err-answer_block-clause-ended g c =
    let p = err_from_is_err_and c.from_residual-in_err-answer_block.result c.from_residual-in_err-answer_block.ensures.1 in
    rw (p.1, p.2) (_, Consumes-trans _ _ _ _ _ c.loop.invariant.1 c.in_ok-count.ensures.read, grind (arith, halted_block))

-- one more block is answered
pub loop-preserved : goal.loop-preserved
loop-preserved g c =
    search (
      rules,
      Appends-trans _ _ _ _ _ c.loop.invariant.3 c.in_ok-answer_block.ensures.ok.1,
      Consumes-trans _ _ _ _ _ c.loop.invariant.1 c.in_ok-count.ensures.read,
      taken_more g.S.Answering.replies c.loop.invariant.4 c.in_ok-answer_block.ensures.ok.2,
    )

-- the input ended, and the last line is answered
pub returns-then-count-eq0-clause-ok : goal.returns-then-count-eq0-clause-ok
returns-then-count-eq0-clause-ok g c =
    MatchResult-weaker c.answer_last.result c.answer_last.ensures.ok (λ u last. Consumes-whole _ _ c.loop.invariant.0 _
    (read_none _ _ _ _ _ _ c.loop.invariant.1 c.in_ok-count.ensures.read c.if-count-eq0.true)
    (c.in_ok-count.ensures.end c.if-count-eq0.true)
    (served_whole g.S.Answering.replies _ _ _ _ c.loop.invariant.3 c.loop.invariant.4 last.1 last.2)) (λ e t. t)

-- the input ended, and the answering of the last line failed
pub returns-then-count-eq0-clause-ended : goal.returns-then-count-eq0-clause-ended
returns-then-count-eq0-clause-ended g c =
    MatchResult-weaker c.answer_last.result c.answer_last.ensures.err (λ u t. t) (λ fault halted.
    (c.loop.invariant.0, read_none _ _ _ _ _ _ c.loop.invariant.1 c.in_ok-count.ensures.read c.if-count-eq0.true, grind (arith, halted, halted_last, c.in_ok-count.ensures.end c.if-count-eq0.true)))

-- no more reads are made
pub returns-clause-ended : goal.returns-clause-ended
returns-clause-ended g c = search (rules, unread_at)

-- and so it is known what was written
pub returns-in_err-count-clause-err : goal.returns-in_err-count-clause-err
returns-in_err-count-clause-err g c = search (rules, IfErr-weaker, returns-in_err-count-clause-ended g c)

pub returns-in_err-answer_block-clause-err : goal.returns-in_err-answer_block-clause-err
returns-in_err-answer_block-clause-err g c = search (rules, IfErr-weaker, returns-in_err-answer_block-clause-ended g c)

pub returns-then-count-eq0-clause-err : goal.returns-then-count-eq0-clause-err
returns-then-count-eq0-clause-err g c = search (rules, IfErr-weaker, returns-then-count-eq0-clause-ended g c)

pub returns-clause-err : goal.returns-clause-err
returns-clause-err g c = let (bytes, took, ended) = returns-clause-ended g c in (bytes, took, (_, ended))
