use Rattle.std.proofs.Common.{rules}
use Rattle.mv_tool.specs.Telling.{untaken_line}
use Rattle.mv_tool.proofs.telling.status_of_strict.Goals as goal

pub returns-in-Some : goal.returns-in-Some
returns-in-Some g c = search (rules, c.tell.ensures (untaken_line c.in-Some.untaken) c.untaken_line.ensures)
