use Rattle.mv_engine.proofs.Words.{◌-◌, Keeps}
use Rattle.mv_engine.proofs.engine.read_block.Given as goal

-- no byte has come
abbrev pub invariant-loop-interruptions : goal.invariant-loop-interruptions
invariant-loop-interruptions g l = Keeps (g.R.Read.remaining l.fn.reader) (g.R.Read.remaining l.reader)

abbrev pub decreases-loop-interruptions : goal.decreases-loop-interruptions
decreases-loop-interruptions g l = 1000 - l.interruptions
