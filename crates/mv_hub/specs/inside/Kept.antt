-- What the hub keeps beside its record, how that follows from the record, how an entry changes its tables, and what a routing puts on
-- the links of its sender.
use Rattle.std.specs.Prelude.{List, [], ◌∷◌, ◌++◌, ◌+◌, ◌==◌, option_to_list, ◌≡◌, ◌↔◌, ◌⊎◌, Contains, Option, Some, None, Bool, true, false, if◌then◌else◌, ℕ, bytes_eq, length, slice_index, unwrap_or, ◌≢◌, ◌<◌, ◌≤◌, ◌&&◌, not, map, slice_index_or, take, is_some, nat_lt}
use Rattle.mv_hub.specs.Words.{Global, IsMarket, MARKETS_LIMIT, PartySet, Vec, lookup, place_of, BatchKey, IsEquivalence, Message, Product, Master, Routed, Upload, and_equiv, insert_all, is_same_batch, nat_eq_equiv, nat_list_eq_equiv, on_equiv, option_map_or, option_or, Carried, EndsWithHeld, Entry, HasRoom, IsSquare, Item, PARTIES_LIMIT, Receipt, Sending, cell, has_party, new_sending, parties_in}
use Rattle.mv_hub.specs.declared.catalogue.Catalogue.{Catalogue}
use Rattle.mv_hub.specs.Record.{product_in, product_of, routed_count, is_open}
use Rattle.mv_hub.specs.Listing.{Listing, is_same_listing}
use Rattle.mv_hub.specs.Parties.{has_market, has_twice, served_by, serves_one, all_markets}
use Rattle.mv_hub.specs.Catalogue.{catalogue_of}
use Rattle.mv_hub.specs.BatchLinks.{linked_to}
use Rattle.mv_hub.specs.Links.{link_items}
use Rattle.mv_hub.specs.declared.hub.routing.Routing.{Routing}
use Rattle.mv_hub.specs.Targets.{is_reached, is_query, serves_product}
use Rattle.mv_hub.specs.Hub.{HubState}

-- the batches after, by the batch before
abbrev pub LinkTable : Type 0
LinkTable = List (BatchKey × Vec BatchKey Global)

-- what a table of the batches after says of a batch
abbrev pub linked_in : LinkTable → BatchKey → List BatchKey
linked_in table batch = option_map_or (λ batches. batches.items) (lookup (is_same_batch batch) table) []

-- more batches were put behind those of a list, each unless it was there
pub record Gathers (old more new : List BatchKey) : Type 0 where
  pub behind : take (length old) new ≡ old
  pub members : (batch : BatchKey) → Contains new batch ↔ (Contains old batch ⊎ Contains more batch)

-- nothing is known of a product
abbrev pub no_catalogue : Catalogue
no_catalogue = record { product = None; batches = [] }

-- what is known of a product once a message gives it a description or lists a batch of it
abbrev pub catalogue_after : Catalogue → Option Product → Option Listing → Catalogue
catalogue_after catalogue product listing =
    record { product = option_or product catalogue.product; batches = insert_all is_same_listing catalogue.batches (option_to_list listing) }

-- the batch and its expiry that a message lists: those of an upload
abbrev pub listing_of : Message → Option Listing
listing_of (Upload gtin batch expiry national serials) = Some (batch, expiry)
listing_of message = None

-- what a table says of a product
abbrev pub catalogue_in : List (List ℕ × Catalogue) → List ℕ → Option Catalogue
catalogue_in table gtin = lookup (bytes_eq gtin) table

pub listing_equiv : IsEquivalence is_same_listing
listing_equiv =
    and_equiv (and_equiv (and_equiv (on_equiv (λ (p : Listing). p.0) nat_list_eq_equiv) (on_equiv (λ (p : Listing). p.1.year) nat_eq_equiv))
    (on_equiv (λ (p : Listing). p.1.month) nat_eq_equiv)) (on_equiv (λ (p : Listing). p.1.day) nat_eq_equiv)

-- in a table of products what a message says of one was noted
abbrev pub Notes : List (List ℕ × Catalogue) → List (List ℕ × Catalogue) → List ℕ → Message → Type 0
Notes old new gtin message = (other : List ℕ) → catalogue_in new other
    ≡ (if bytes_eq gtin other
    then Some (catalogue_after (unwrap_or (catalogue_in old gtin) no_catalogue) (product_of message) (listing_of message))
    else catalogue_in old other)

-- a look-up found this party
abbrev pub is_found : Option ℕ → ℕ → Bool
is_found None party = false
is_found (Some found) party = party == found

-- whether a market stands twice in lists was seen, and of lists in which none does a table has at the place of each market one more than the
-- number of its party, and 0 where no list has it
pub record AreNoted (lists : List (List (List ℕ))) (noted : List ℕ) (once : Bool) : Type 0 where
  pub long : length noted ≡ MARKETS_LIMIT
  pub twice : has_twice (all_markets lists) ≡ not once
  pub known : (market : List ℕ) → IsMarket market → has_market (all_markets lists) market ≡ not (slice_index noted (place_of market) == 0)
  pub parties : (market : List ℕ) (party : ℕ) → once ≡ true → IsMarket market
      → has_market (served_by lists party) market ≡ (slice_index noted (place_of market) == (party + 1))

-- the sending end of a link, by sender and receiver
abbrev pub link_at : List (List Sending) → ℕ → ℕ → Sending
link_at links from to = cell links from to (new_sending 0)

-- how many items of each link were relayed, by sender and receiver
abbrev pub sent_table : List (List Sending) → List (List ℕ)
sent_table links = map (map (λ v. v.sent)) links

-- what the record says of each product and each batch
pub record AreTables (entries : List Entry) (catalogues : List (List ℕ × Catalogue)) (batch_links : LinkTable) : Type 0 where
  pub are_catalogues : (gtin : List ℕ) → catalogue_in catalogues gtin ≡ catalogue_of entries gtin
  pub are_links : (batch : BatchKey) → linked_in batch_links batch ≡ linked_to entries batch

-- a sending end with this window, on which these items were pushed
pub record Carries (size : ℕ) (items : List Item) (link : Sending) : Type 0 where
  pub window : link.window ≡ size
  pub ends : EndsWithHeld link items
  pub fits : HasRoom link 0

-- a table says that a product is sold to a party
abbrev pub sold_to : List (List ℕ × PartySet) → List ℕ → ℕ → Bool
sold_to sold gtin party = option_map_or (λ parties. has_party parties party) (lookup (bytes_eq gtin) sold) false

-- it has a place for the product of a master
abbrev pub HasSold : List (List ℕ × PartySet) → Message → Type 0
HasSold sold message = (gtin : List ℕ) (product : Product) → message ≡ Master gtin product → is_some (lookup (bytes_eq gtin) sold) ≡ true

-- the product of a master is sold to those who serve a market of it from now on, and any other as before
abbrev pub Sells : List (List (List ℕ)) → List (List ℕ × PartySet) → List (List ℕ × PartySet) → Message → Type 0
Sells parties old new message = (from k : ℕ) (gtin : List ℕ) (party : ℕ) → sold_to new gtin party
    ≡ option_map_or (λ product. nat_lt party (length parties) && serves_one (served_by parties party) product.markets) (product_in gtin (Routed from k message)) (sold_to old gtin party)

-- all that the hub keeps follows from the record: how many messages of each party were routed, to which parties a link of it is open, what
-- was pushed on each link, and to whom each product is sold
pub record IsKept (parties : List (List (List ℕ))) (window : ℕ) (entries : List Entry) (routed_counts : List ℕ)
    (open_links : List PartySet) (links : List (List Sending)) (sold : List (List ℕ × PartySet)) : Type 0 where
  pub some : 1 ≤ length parties
  pub few : length parties ≤ PARTIES_LIMIT
  pub counted : length routed_counts ≡ length parties
  pub counts : (party : ℕ) → party < length parties → slice_index_or routed_counts party 0 ≡ routed_count entries party
  pub opened : length open_links ≡ length parties
  pub opens : (from to : ℕ) (none : PartySet) → from < length parties → to < length parties
      → has_party (slice_index_or open_links from none) to ≡ is_open entries from to
  pub square : IsSquare (length parties) links
  pub carries : (from to : ℕ) → from < length parties → to < length parties
      → Carries window (link_items parties entries from to) (link_at links from to)
  pub sells : (gtin : List ℕ) (party : ℕ) → sold_to sold gtin party ≡ (nat_lt party (length parties) && serves_product parties entries gtin party)

-- a routing is that of the next message of its party
pub record IsRouting (hub : HubState) (routing : Routing) : Type 0 where
  pub party : routing.from < length hub.parties
  pub few : length hub.parties ≤ PARTIES_LIMIT
  pub number : routing.k ≡ routed_count hub.entries routing.from + 1
  pub place : routing.stamp ≡ length hub.entries + 1
  pub own : routing.receipted ≡ is_open hub.entries routing.from routing.from
  pub reaches : (to : ℕ) → has_party routing.reached to ≡ is_reached hub.parties hub.entries routing.from routing.message.now to

-- the receipt, on the link of its sender to itself while that is open
abbrev pub receipt_to : Routing → ℕ → List Item
receipt_to routing to =
    if (to == routing.from) && routing.receipted
    then Receipt routing.k (parties_in routing.reached) (is_query routing.message.now) ∷ [] else []

-- the item that a routing puts on the link to each party that is reached
abbrev pub carried_by : Routing → Item
carried_by routing = Carried routing.k routing.stamp routing.message.now

-- what a link to a party gains: the receipt, and then the item, where the party is reached
abbrev pub gain_of : Routing → ℕ → List Item
gain_of routing to = receipt_to routing to ++ (if has_party routing.reached to then carried_by routing ∷ [] else [])

-- these items were pushed on a sending end, and nothing else changed
pub record PushesItems (items : List Item) (old new : Sending) : Type 0 where
  pub window : new.window ≡ old.window
  pub total : new.total ≡ old.total + length items
  pub sent : new.sent ≡ old.sent
  pub ends : (list : List Item) → EndsWithHeld old list → EndsWithHeld new (list ++ items)

-- on the link from one party to each of so many there was pushed what that gains, and no other link changed
pub record PushesRow (count from : ℕ) (gains : ℕ → List Item) (old new : List (List Sending)) : Type 0 where
  pub square : IsSquare count new
  pub gained : (to : ℕ) → to < count → PushesItems (gains to) (link_at old from to) (link_at new from to)
  pub others : (party to : ℕ) → party ≢ from → link_at new party to ≡ link_at old party to
  pub sent : sent_table new ≡ sent_table old
