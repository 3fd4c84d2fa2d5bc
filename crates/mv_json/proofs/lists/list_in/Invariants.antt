use Rattle.mv_json.proofs.Words.{Ok, ◌++◌, ◌and_then◌, ◌≡◌, ◌≤◌, drop, length, vec_capacity, vec_len, items_view, read_items}
use Rattle.mv_json.proofs.lists.list_in.Given as goal

abbrev pub invariant-loop-value : goal.invariant-loop-value
invariant-loop-value g l =
    ((read_items g.T.Listed.reads l.field (items_view (drop l.value-index l.list)) and_then λ rest. Ok (l.all.items ++ rest))
    ≡ read_items g.T.Listed.reads l.field (items_view l.list))
    × (vec_len l.all ≡ l.value-index) × (length l.list ≤ vec_capacity l.all)
