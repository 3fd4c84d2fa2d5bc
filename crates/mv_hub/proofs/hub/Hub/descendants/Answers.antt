use Rattle.mv_hub.proofs.Words.{Contains, IfOk-weaker, IsAscendingList, IsDescendant, arith}
use Rattle.mv_hub.proofs.TrailLemmas.{listed-same, searching_end}
use Rattle.mv_hub.proofs.hub.Hub.descendants.Goals as goal

pub returns : goal.returns
returns c =
    let reached = c.loop-next.reached.keys in
    let all = searching_end _ c.args.batch.now _ reached c.loop-next.invariant (omega (arith, c.len.ensures.len, c.loop-next-test.false)) in
    IfOk-weaker c.ascending.result (λ list. IsAscendingList list.items (Contains reached))
    (λ list. IsAscendingList list.items (IsDescendant c.args.self.now.entries c.args.batch.now))
    (λ list. listed-same all) (rw c.as_slice-2.ensures.keys at c.ascending.ensures)
