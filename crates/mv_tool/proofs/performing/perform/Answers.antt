use Rattle.mv_tool.proofs.Words.{arith}
use Rattle.mv_tool.proofs.CommandLemmas.{ran_strict}
use Rattle.mv_tool.proofs.performing.perform.Goals as goal

-- steps were answered
pub returns-in-Steps-clause-ran : goal.returns-in-Steps-clause-ran
returns-in-Steps-clause-ran g c = grind arith

-- and the lines that were not taken counted
pub returns-in-Strict-clause-ran : goal.returns-in-Strict-clause-ran
returns-in-Strict-clause-ran g c =
    rw c.in-Strict.is (ran_strict _ _ _ _ _ _ _ _ _ c.status_of_strict.ensures c.serve_strict.ensures.ok c.serve_strict.ensures.err)

-- and the events of the lines written
pub returns-in-Trail-clause-ran : goal.returns-in-Trail-clause-ran
returns-in-Trail-clause-ran g c = grind arith

-- and what stands behind them
pub returns-in-Show-clause-ran : goal.returns-in-Show-clause-ran
returns-in-Show-clause-ran g c = grind arith

-- messages were answered
pub returns-in-Canon-clause-ran : goal.returns-in-Canon-clause-ran
returns-in-Canon-clause-ran g c = grind arith

-- and checked
pub returns-in-Check-clause-ran : goal.returns-in-Check-clause-ran
returns-in-Check-clause-ran g c = grind arith

-- a plan was carried out
pub returns-in-Work-clause-ran : goal.returns-in-Work-clause-ran
returns-in-Work-clause-ran g c = grind arith

-- codes were explained
pub returns-in-Explain-clause-ran : goal.returns-in-Explain-clause-ran
returns-in-Explain-clause-ran g c = grind arith
