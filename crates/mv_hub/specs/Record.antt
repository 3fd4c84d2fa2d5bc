-- The hub's record, its audit trail (Regulation (EU) 2016/161, Article 35(1)): the oldest entry stands first.
use Rattle.std.specs.Prelude.{ℕ, List, [], ◌∷◌, length, Bool, true, ◌==◌, ◌&&◌, not, Option, Some, None, option_map, if◌then◌else◌, bytes_eq}
use Rattle.mv_hub.specs.Words.{Closed, Entry, Master, Message, Product, Routed, filter_map, last_or}

-- the messages that were routed from a party, in order
abbrev pub routed_from : List Entry → ℕ → List Message
routed_from [] party = []
routed_from (Routed from k message ∷ entries) party =
    if from == party then message ∷ routed_from entries party else routed_from entries party
routed_from (Closed from to ∷ entries) party = routed_from entries party

-- how many messages were routed from a party
abbrev pub routed_count : List Entry → ℕ → ℕ
routed_count entries party = length (routed_from entries party)

-- the product that a message gives: that of a master
abbrev pub product_of : Message → Option Product
product_of (Master gtin product) = Some product
product_of message = None

-- the product that an entry gives under a code: that of a routed master of the code
abbrev pub product_in : List ℕ → Entry → Option Product
product_in gtin (Routed from k (Master named product)) = if bytes_eq named gtin then Some product else None
product_in gtin entry = None

-- the product of the last routed master of a code, none where there is no master
unfoldable pub last_product : List Entry → List ℕ → Option Product
last_product entries gtin = last_or None (filter_map (product_in gtin) entries)

-- the markets that the last routed master of a product names, none where there is no master
abbrev pub last_markets : List Entry → List ℕ → Option (List (List ℕ))
last_markets entries gtin = option_map (λ product. product.markets) (last_product entries gtin)

-- no entry closes the link between two parties
abbrev pub is_open : List Entry → ℕ → ℕ → Bool
is_open [] sender receiver = true
is_open (Routed from k message ∷ entries) sender receiver = is_open entries sender receiver
is_open (Closed from to ∷ entries) sender receiver =
    not (from == sender && to == receiver) && is_open entries sender receiver
