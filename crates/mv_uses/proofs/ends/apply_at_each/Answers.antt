use Rattle.std.proofs.Common.{rules, vec_items}
use Rattle.mv_uses.proofs.ends.apply_at_each.Goals as goal

pub loop-end-preserved : goal.loop-end-preserved
loop-end-preserved c =
    let was = c.loop-end in
    c.repo_ends_stay.ensures.one (vec_items c.args.repos.now) was.end-items was.end-index c.end-item.result c.apply.new.self
    was.invariant (search rules) (search rules) (search rules)
