use Rattle.mv_engine.proofs.Words.{err_from_is_err_and}
use Rattle.mv_engine.proofs.RepliesLemmas.{broken}
use Rattle.mv_engine.proofs.input.Input.answer_last.Goals as goal

-- the write failed
pub returns-in_err-put_out-clause-err : goal.returns-in_err-put_out-clause-err
returns-in_err-put_out-clause-err g c =
    let p = err_from_is_err_and c.from_residual.result c.from_residual.ensures.1 in
    rw (p.1, p.2, c.in_err-put_out.ensures.fault)
    (broken g.S.Answering.replies c.finish-answered.result _ _ _ _ _ _ _ _ _ c.finish-answered.ensures.ok c.finish-answered.ensures.err
    (rw c.as_slice.ensures.value at (c.in_err-put_out.ensures.err)))
