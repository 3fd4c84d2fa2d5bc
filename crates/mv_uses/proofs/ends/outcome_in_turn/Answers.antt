use Rattle.mv_uses.proofs.ends.outcome_in_turn.Goals as goal

pub gather-requires : goal.gather-requires
gather-requires c =
    let opened = c.in-Ok.repos.items in
    let after = c.apply_at_each.new.repos.items in
    let same = c.repo_ends_stay.ensures.further opened c.submit_at_each.new.repos.items after c.submit_at_each.ensures c.apply_at_each.ensures in
    c.ends_stay_ends.ensures c.in-Ok.hub c.carry_from.new.hub opened after c.carry_from.ensures same c.in-Ok.ensures.ends
