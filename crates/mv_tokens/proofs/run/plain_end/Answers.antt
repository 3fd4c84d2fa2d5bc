use Rattle.mv_tokens.proofs.Words.{arith, length, ◌-◌}
use Rattle.mv_tokens.proofs.RunLemmas.{more_plain}
use Rattle.mv_tokens.proofs.run.plain_end.Goals as goal

pub returns-then-plain-lt-LANES-clause-plain : goal.returns-then-plain-lt-LANES-clause-plain
returns-then-plain-lt-LANES-clause-plain c =
    more_plain c.args.bytes.now c.args.from c.loop-at.at c.loop-at.at 0 c.plain_count-plain.result (omega arith) (omega arith) (omega arith) (omega arith) c.loop-at.invariant.2

pub loop-at-preserved : goal.loop-at-preserved
loop-at-preserved c =
    (omega arith, omega arith, more_plain c.args.bytes.now c.args.from c.loop-at.at c.loop-at.at 0 16 (omega arith) (omega arith) (omega arith) (omega arith) c.loop-at.invariant.2)

pub returns-clause-plain : goal.returns-clause-plain
returns-clause-plain c =
    more_plain c.args.bytes.now c.args.from c.loop-at.at (length c.args.bytes.now - 16) (c.loop-at.at - (length c.args.bytes.now - 16)) c.plain_count.result (omega arith) (omega arith) (omega arith) (omega arith) c.loop-at.invariant.2
