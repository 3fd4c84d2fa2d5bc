-- Whom a message is for, by the record that stands before it (Articles 33 to 35).
use Rattle.std.specs.Prelude.{ℕ, List, [], length, nat_lt, Bool, true, false, ◌==◌, ◌&&◌, ◌||◌, not, filter, unwrap_or}
use Rattle.mv_hub.specs.Words.{Answer, Entry, Master, Message, Query, Recall, Repack, Status, Upload, Withdraw, range_with_len}
use Rattle.mv_hub.specs.Record.{last_markets, is_open}
use Rattle.mv_hub.specs.Parties.{serves_one, served_by}

-- a party serves a market of a product: one of those of its last routed master
abbrev pub serves_product : List (List (List ℕ)) → List Entry → List ℕ → ℕ → Bool
serves_product parties entries gtin party = serves_one (served_by parties party) (unwrap_or (last_markets entries gtin) [])

-- A party is a target of a message that another sends: of a master, who serves a market that the product had or now has; of a
-- repack, who serves a market of one of its products; of a query, who serves a market of its product and did not send it; of an
-- answer, who asked; of any other message, who serves a market of its product.
unfoldable pub is_target : List (List (List ℕ)) → List Entry → ℕ → Message → ℕ → Bool
is_target parties entries from (Master gtin product) party =
    serves_product parties entries gtin party || serves_one (served_by parties party) product.markets
is_target parties entries from (Upload gtin batch expiry national serials) party = serves_product parties entries gtin party
is_target parties entries from (Status key to user at) party = serves_product parties entries key.gtin party
is_target parties entries from (Recall key at) party = serves_product parties entries key.gtin party
is_target parties entries from (Repack before before_serials after after_serials at) party =
    serves_product parties entries before.gtin party || serves_product parties entries after.gtin party
is_target parties entries from (Withdraw gtin at) party = serves_product parties entries gtin party
is_target parties entries from (Query key) party = serves_product parties entries key.gtin party && not (party == from)
is_target parties entries from (Answer asker q key found) party = party == asker

-- a message from a party reaches another: that is one of the parties and a target, and the link between them is open
unfoldable pub is_reached : List (List (List ℕ)) → List Entry → ℕ → Message → ℕ → Bool
is_reached parties entries from message to =
    nat_lt to (length parties) && is_target parties entries from message to && is_open entries from to

-- the parties that a message from a party reaches, ascending
unfoldable pub reach : List (List (List ℕ)) → List Entry → ℕ → Message → List ℕ
reach parties entries from message = filter (is_reached parties entries from message) (range_with_len 0 (length parties))

-- the message asks about a pack
abbrev pub is_query : Message → Bool
is_query (Query key) = true
is_query message = false
