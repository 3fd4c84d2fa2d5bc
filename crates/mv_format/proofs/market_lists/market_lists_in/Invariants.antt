use Rattle.mv_format.proofs.Words.{◌≡◌, drop, map, items_view, market_list, read_all, with_front}
use Rattle.mv_format.proofs.market_lists.market_lists_in.Given as goal

-- the lists so far stand before those that are left
abbrev pub invariant-loop-value : goal.invariant-loop-value
invariant-loop-value l =
    with_front (map (λ list. list.items) l.lists.items) (read_all (market_list l.field) (items_view (drop l.value-index l.list)))
    ≡ read_all (market_list l.field) (items_view l.list)
