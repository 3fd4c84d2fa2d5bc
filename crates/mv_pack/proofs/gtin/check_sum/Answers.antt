use Rattle.mv_pack.proofs.Words.{arith, get_or, is_digit}
use Rattle.mv_pack.proofs.TextLemmas.{digit_bounds, weight_times_digit, weighted_sum-drop, passes_at}
use Rattle.mv_pack.proofs.gtin.check_sum.Goals as goal

-- one digit more, with its weight
pub loop-byte-preserved : goal.loop-byte-preserved
loop-byte-preserved c =
    let x = get_or c.args.digits.now c.loop-byte.byte-index 0 in
    let digit = passes_at is_digit c.args.digits.now c.loop-byte.byte-index 0 c.requires.digits c.loop-byte-test.true in
    let step = weighted_sum-drop c.loop-byte.weight c.args.digits.now c.loop-byte.byte-index c.loop-byte-test.true in
    let most = weight_times_digit c.loop-byte.weight x c.loop-byte.invariant.weight (digit_bounds x digit).1 in
    record { rest = omega arith; positive = omega arith; weight = omega arith; bound = omega arith }
