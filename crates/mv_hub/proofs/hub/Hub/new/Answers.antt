use Rattle.mv_hub.proofs.HubLemmas.{kept-new, view-new}
use Rattle.mv_hub.proofs.hub.Hub.new.Goals as goal

pub invariant_of-result : goal.invariant_of-result
invariant_of-result c =
    let count = c.len-count.ensures in
    let zeros = c.in_ok-routed_counts.ensures.items_if_clones_equal (λ y e. e) in
    rw (c.new.ensures, c.new-2.ensures.empty, zeros, c.in_ok-open_links.ensures.items_if_clones_equal (λ y e. e), count.value)
    (kept-new c.args.parties c.args.window c.all.result _ count.some count.few c.all.ensures (rw count.value at c.in_ok-links.ensures.square) c.in_ok-links.ensures.each)

pub returns : goal.returns
returns c = rw c.new.ensures (view-new _ c.args.window _ (rw c.len-count.ensures.value at c.in_ok-links.ensures.square) c.in_ok-links.ensures.each)
