use Rattle.mv_tool.proofs.Words.{arith}
use Rattle.mv_tool.proofs.CommandLemmas.{kind_mistaken}
use Rattle.mv_tool.proofs.command_line.command.Goals as goal

-- what the words ask for was carried out
pub returns-in-Ok-Some-clause-ran : goal.returns-in-Ok-Some-clause-ran
returns-in-Ok-Some-clause-ran g c asked asks = grind (arith, c.in-Ok-Some.ensures.task asked)

-- they ask for something, or are mistaken
pub returns-in-Ok-None-clause-ran : goal.returns-in-Ok-None-clause-ran
returns-in-Ok-None-clause-ran g c asked asks = grind (arith, c.in-Ok-None.ensures.task asked)

-- the words are mistaken
pub returns-clause-mistaken : goal.returns-clause-mistaken
returns-clause-mistaken g c mistaken = grind (arith, kind_mistaken)
