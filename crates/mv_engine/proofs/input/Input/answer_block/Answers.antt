use Rattle.mv_engine.proofs.Words.{err_from_is_err_and, on_ok_weaker}
use Rattle.mv_engine.proofs.RepliesLemmas.{broken}
use Rattle.mv_engine.proofs.input.Input.answer_block.Goals as goal

-- the write failed
pub returns-in_err-put_out-clause-err : goal.returns-in_err-put_out-clause-err
returns-in_err-put_out-clause-err g c =
    let p = err_from_is_err_and c.from_residual.result c.from_residual.ensures.1 in
    rw (p.1, p.2, c.in_err-put_out.ensures.fault)
    (broken g.S.Answering.replies c.take_all-taken.result _ _ _ _ _ _ _ _ _
    (on_ok_weaker c.take_all-taken.result (λ took. took.answered) c.take_all-taken.ensures.ok) c.take_all-taken.ensures.err (rw c.as_slice.ensures.value at (c.in_err-put_out.ensures.err)))
