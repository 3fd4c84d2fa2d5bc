use Rattle.std.proofs.Common.{None, rules}
use Rattle.mv_show.proofs.GatheringLemmas.{not_shown, refused_at_once, taken_whole}
use Rattle.mv_show.proofs.showing.take_lines.Goals as goal

pub returns-in-Ok-clause-ok : goal.returns-in-Ok-clause-ok
returns-in-Ok-clause-ok g c = taken_whole _ _ _ None None c.requires c.in-Ok.ensures.ok

pub returns-in-Err-Write-clause-err : goal.returns-in-Err-Write-clause-err
returns-in-Err-Write-clause-err g c contents = refused_at_once _ _ contents c.in-Err-Write.ensures.err.0 c.in-Err-Write.ensures.err.1

pub returns-in-Err-clause-err : goal.returns-in-Err-clause-err
returns-in-Err-clause-err g c contents = not_shown c.in-Err.fault _ _ _ _ _ contents (search rules) c.requires c.in-Err.ensures.err
