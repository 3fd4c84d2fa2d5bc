-- What the record says was put on each link, in order.
use Rattle.std.specs.Prelude.{ℕ, List, [], ◌∷◌, ◌++◌, ◌+◌, length, ◌==◌, ◌&&◌, if◌then◌else◌}
use Rattle.mv_hub.specs.Words.{Carried, Closed, Entry, Item, Receipt, Routed}
use Rattle.mv_hub.specs.Record.{is_open}
use Rattle.mv_hub.specs.Targets.{is_reached, reach, is_query}

-- what one entry puts on a link, where these entries stand before it: a receipt on the link of the sender to itself while
-- that is open, and then the message on each link that it reaches over, under its place in the record as stamp
unfoldable pub gained : List (List (List ℕ)) → List Entry → Entry → ℕ → ℕ → List Item
gained parties before (Routed sender k message) from to =
    if sender == from
    then (if to == from && is_open before from from
    then Receipt k (reach parties before from message) (is_query message) ∷ [] else [])
    ++ (if is_reached parties before from message to then Carried k (length before + 1) message ∷ [] else [])
    else []
gained parties before (Closed sender receiver) from to = []

-- what entries put on a link, where others stand before them
abbrev pub link_items_after : List (List (List ℕ)) → List Entry → List Entry → ℕ → ℕ → List Item
link_items_after parties before [] from to = []
link_items_after parties before (entry ∷ entries) from to =
    gained parties before entry from to ++ link_items_after parties (before ++ entry ∷ []) entries from to

-- all that a record puts on the link from one party to another, in order
unfoldable pub link_items : List (List (List ℕ)) → List Entry → ℕ → ℕ → List Item
link_items parties entries from to = link_items_after parties [] entries from to
