use Rattle.mv_format.proofs.Words.{◌≡◌, drop, items_view, market_item, read_all, with_front}
use Rattle.mv_format.proofs.market_lists.markets_in.Given as goal

-- the markets so far stand before those that are left
abbrev pub invariant-loop-value : goal.invariant-loop-value
invariant-loop-value l =
    with_front l.markets.items (read_all (market_item l.field) (items_view (drop l.value-index l.list)))
    ≡ read_all (market_item l.field) (items_view l.list)
