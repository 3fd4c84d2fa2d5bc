use Rattle.mv_words.proofs.Names.{arith}
use Rattle.mv_words.proofs.words.with_taking.Goals as goal

-- the command took the argument, and the line took the command
pub returns : goal.returns
returns c rule is = grind (arith, c.in_ok-arg.ensures.shape c.requires, c.in_ok-arg.ensures.globals, c.subcommand.ensures)
