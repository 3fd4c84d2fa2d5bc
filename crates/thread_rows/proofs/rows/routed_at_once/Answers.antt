use Rattle.mv_ends.specs.Whole.{AreEnds}
use Rattle.thread_rows.proofs.rows.routed_at_once.Goals as goal

pub gather-requires : goal.gather-requires
gather-requires c =
    let opened : AreEnds c.in-Ok.hub c.in-Ok.repos.items = c.in-Ok.ensures.ends in
    c.ends_stay_ends.ensures c.in-Ok.hub c.route.new.self c.in-Ok.repos.items c.submit_first.new.repos.items
    c.route.ensures.same c.submit_first.ensures opened
