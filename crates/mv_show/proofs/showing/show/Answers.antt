use Rattle.std.proofs.Common.{rules}
use Rattle.mv_show.proofs.GatheringLemmas.{memory_refused}
use Rattle.mv_show.proofs.showing.show.Goals as goal

-- the input was taken, and then there was no memory for what stands
pub returns-in_err-lines-clause-err : goal.returns-in_err-lines-clause-err
returns-in_err-lines-clause-err g c =
    let contents = g.W.Write.contents c.args.writer.now in
    memory_refused c.from_residual-in_err-lines.result (g.R.Read.remaining c.args.reader.now) (g.R.Read.remaining c.take_lines.new.reader) contents
    (search rules) c.take_lines.new.passing c.in_ok-take_lines.ensures.ok
