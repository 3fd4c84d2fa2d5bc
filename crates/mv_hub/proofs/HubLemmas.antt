-- What one more entry at the end of a record changes, links that gain items, and what the hub keeps, through a routing and a relay.
use Rattle.mv_hub.proofs.Words.{All, Carries, Closed, Entry, HasRoom, HubState, IsKept, IsRouting, IsSquare, Item, List, Message, None, PARTIES_LIMIT, PartySet, PushesItems, PushesRow, Routed, Sending, [], ap, append-nil, append_assoc, arith, busy_party, cases_eq, cell, cell-map, cell-put_other, cell-put_same, common_steps, cond, elements, eqb, false, find, find-none_at, find-those, gain_of, gained, get_or, get_or-replicate, get_or_default, has_party, inl, inr, is_busy, is_open, is_reached, is_target, items_on, lookup, bytes_eq, bytes_eq-Decides, unwrap_or, Option, Some, last_product, filter_map-append, product_in, length, length-replicate, link_at, link_items, link_items_after, listed-in, nat_lt, nat_tests, new_hub, new_sending, next_items, not, parties_in, put, put-map, put-map_same, reach, refl, replicate, routed_count, routed_from, sent_of, sent_table, set, square-put, sym, table-all, true, ℕ, ◌&&◌, ◌++◌, ◌+◌, ◌<◌, ◌==◌, ◌||◌, ◌↔◌, ◌∷◌, ◌≡◌, ◌≤◌}
use Rattle.mv_hub.specs.declared.hub.routing.Routing.{Routing}
use Rattle.mv_hub.proofs.TrailLemmas.{last_or-append}
use Rattle.std.specs.Option.{option_map_or}
use Rattle.mv_hub.specs.inside.Kept.{Sells, sold_to}
use Rattle.mv_hub.specs.Parties.{served_by, serves_one}
use Rattle.mv_hub.specs.Targets.{serves_product}
use Rattle.mv_message.specs.declared.message.Product.{Product}

pub routed_from-append : (before after : List Entry) (party : ℕ) → routed_from (before ++ after) party ≡ routed_from before party ++ routed_from after party
routed_from-append [] after party = refl
routed_from-append (entry ∷ before) after party = grind (arith, routed_from-append before after party)

-- what no entry of two records closes is open
pub is_open-append : (before after : List Entry) (from to : ℕ) → is_open (before ++ after) from to ≡ (is_open before from to && is_open after from to)
is_open-append [] after from to = refl
is_open-append (entry ∷ before) after from to = grind (arith, is_open-append before after from to)

link_items_after-append : (parties : List (List (List ℕ))) (before entries more : List Entry) (from to : ℕ)
    → link_items_after parties before (entries ++ more) from to
    ≡ link_items_after parties before entries from to ++ link_items_after parties (before ++ entries) more from to
link_items_after-append parties before [] more from to = grind (arith, append-nil)
link_items_after-append parties before (e ∷ entries) more from to = grind (arith, link_items_after-append parties (before ++ e ∷ []) entries more from to, append_assoc)

-- one more entry puts on a link just what it gains
pub link_items-push : (parties : List (List (List ℕ))) (entries : List Entry) (entry : Entry) (from to : ℕ)
    → link_items parties (entries ++ entry ∷ []) from to ≡ link_items parties entries from to ++ gained parties entries entry from to
unfolding link_items
link_items-push parties entries entry from to = grind (arith, link_items_after-append parties [] entries (entry ∷ []) from to, append-nil)

-- a place for a product that had none says that it is sold to nobody, as before
pub sold-same : (old new left : List (List ℕ × PartySet)) (gtin : List ℕ) (kept : Option PartySet) (none was : PartySet)
    → ((other : List ℕ) → lookup (bytes_eq other) new ≡ cond (bytes_eq gtin other) (Some was) (lookup (bytes_eq other) old)) → left ≡ new
    → kept ≡ lookup (bytes_eq gtin) old → was ≡ unwrap_or kept none → ((party : ℕ) → has_party none party ≡ false)
    → (other : List ℕ) (party : ℕ) → sold_to left other party ≡ sold_to old other party
sold-same old new left gtin kept none was looks same there is nobody other party = grind (arith, nat_tests, looks other, nobody party, bytes_eq-Decides gtin other)

-- a party serves a market of a product by its newest master
pub serves-push : (parties : List (List (List ℕ))) (entries : List Entry) (entry : Entry) (gtin : List ℕ) (party : ℕ) → serves_product parties (entries ++ entry ∷ []) gtin party
    ≡ option_map_or (λ product. serves_one (served_by parties party) product.markets) (product_in gtin entry) (serves_product parties entries gtin party)
unfolding last_product
serves-push parties entries entry gtin party = grind (arith, filter_map-append (product_in gtin) entries (entry ∷ []), last_or-append {A = Product})

-- a table says where products are sold once one more entry stands at the end, where it changed by what that says
pub sells-push : (parties : List (List (List ℕ))) (entries : List Entry) (entry : Entry) (old new : List (List ℕ × PartySet))
    → ((gtin : List ℕ) (party : ℕ) → sold_to old gtin party ≡ (nat_lt party (length parties) && serves_product parties entries gtin party))
    → ((gtin : List ℕ) (party : ℕ) → sold_to new gtin party ≡ option_map_or (λ product. nat_lt party (length parties) && serves_one (served_by parties party) product.markets) (product_in gtin entry) (sold_to old gtin party))
    → (gtin : List ℕ) (party : ℕ) → sold_to new gtin party ≡ (nat_lt party (length parties) && serves_product parties (entries ++ entry ∷ []) gtin party)
sells-push parties entries entry old new sells is gtin party = by (product_in gtin entry) (serves-push parties entries entry gtin party) (is gtin party)
  where
    by : (product : Option Product) → serves_product parties (entries ++ entry ∷ []) gtin party ≡ option_map_or (λ product. serves_one (served_by parties party) product.markets) product (serves_product parties entries gtin party)
        → sold_to new gtin party ≡ option_map_or (λ product. nat_lt party (length parties) && serves_one (served_by parties party) product.markets) product (sold_to old gtin party)
        → sold_to new gtin party ≡ (nat_lt party (length parties) && serves_product parties (entries ++ entry ∷ []) gtin party)
    by None serves sold = rw (serves, sold, sells gtin party) refl
    by (Some product) serves sold = rw (serves, sold) refl

-- a routed message of another party puts nothing on the link
pub gained_other : (parties : List (List (List ℕ))) (before : List Entry) (sender k : ℕ) (message : Message) (from to : ℕ)
    → eqb sender from ≡ false → gained parties before (Routed sender k message) from to ≡ []
unfolding gained
gained_other parties before sender k message from to e = rw e refl

-- no link gains anything
pub row-none : {n from : ℕ} {g : ℕ → List Item} {old : List (List Sending)} → IsSquare n old → ((to : ℕ) → to < n → g to ≡ []) → PushesRow n from g old old
row-none square none = grind (arith, append-nil)

-- one link gains these items more
pub row-push : {n from to : ℕ} {g h : ℕ → List Item} {items : List Item} {old now : List (List Sending)} {link : Sending} → PushesRow n from g old now
    → from < n → to < n → PushesItems items (link_at now from to) link → ((other : ℕ) → other < n → h other ≡ g other ++ cond (other == to) items [])
    → PushesRow n from h old (put now from to link)
row-push {n} {from} {to} {now = now} {link = link} row is_from is_to pushed are = record {
  square = search square-put;
  gained = λ other below. elim (cases_eq other to) [
    | inl same ↦ grind (arith, common_steps, cell-put_same n now from to link (new_sending 0), row.gained other below, are other below)
    | inr apart ↦
        grind (arith, append-nil, nat_tests, cell-put_other now from to from other link (new_sending 0), row.gained other below, are other below)
  ];
  others = grind (arith, cell-put_other);
  sent = grind (arith, put-map_same (λ v. v.sent) now from to link (new_sending 0) pushed.sent);
}

-- a row, said in other words
pub row-same : {n from : ℕ} {g h : ℕ → List Item} {old new : List (List Sending)} → ((to : ℕ) → to < n → g to ≡ h to) → PushesRow n from g old new
    → PushesRow n from h old new
row-same same row = grind arith

-- what the hub is seen as
abbrev pub view : List (List (List ℕ)) → ℕ → List Entry → List (List Sending) → HubState
view parties window entries links = record { parties = parties; window = window; entries = entries; sent = sent_table links }

-- no more messages of one party were routed than there are entries
pub routed_count_most : (entries : List Entry) (party : ℕ) → routed_count entries party ≤ length entries
routed_count_most [] party = omega arith
routed_count_most (entry ∷ entries) party = grind (arith, routed_count_most entries party)

-- a link is busy exactly where it has no room
pub busy_is : (hub : HubState) (from to : ℕ) (message : Message) (link : Sending) (count : ℕ)
    → Carries hub.window (items_on hub from to) link → link.sent ≡ sent_of hub from to → count ≡ length (next_items hub from message to)
    → is_busy hub from message to ≡ false ↔ HasRoom link count
unfolding is_busy
busy_is hub from to message link count carries sent e = grind arith

-- whom a message reaches, by a set of those that it is for, and one of those to which the link is open
pub reached_of : (parties : List (List (List ℕ))) (entries : List Entry) (from : ℕ) (message : Message) (targets opened : PartySet) (to : ℕ)
    → has_party targets to ≡ (nat_lt to (length parties) && is_target parties entries from message to)
    → (to < length parties → has_party opened to ≡ is_open entries from to)
    → (has_party targets to && has_party opened to) ≡ is_reached parties entries from message to
unfolding is_reached
reached_of parties entries from message targets opened to are is = grind arith

-- which are parties alone
pub reached_below : (parties : List (List (List ℕ))) (entries : List Entry) (from : ℕ) (message : Message) (to : ℕ)
    → is_reached parties entries from message to ≡ true → to < length parties
unfolding is_reached
reached_below parties entries from message to reached = grind (arith, reached, nat_tests)

-- so the list of the set of those that are reached is this
pub reach_listed : (parties : List (List (List ℕ))) (entries : List Entry) (from : ℕ) (message : Message) (reached : PartySet)
    → length parties ≤ 64 → ((to : ℕ) → has_party reached to ≡ is_reached parties entries from message to)
    → parties_in reached ≡ reach parties entries from message
unfolding reach
reach_listed parties entries from message reached few is = grind (arith, listed-in, reached_below)

-- what a link gains is what the record will put on it
pub next-gain : (hub : HubState) (routing : Routing) (to : ℕ) → IsRouting hub routing → gain_of routing to ≡ next_items hub routing.from routing.message.now to
unfolding gained
next-gain hub routing to is = grind (arith, nat_tests, reach_listed)

-- what was relayed of each link, once one link is another
pub sent_put : (links : List (List Sending)) (from to : ℕ) (new : Sending) → sent_table (put links from to new) ≡ put (sent_table links) from to new.sent
sent_put links from to new = put-map (λ v. v.sent) links from to new

-- how many items of a link were relayed
pub sent_at : (links : List (List Sending)) (from to : ℕ) → cell (sent_table links) from to 0 ≡ (link_at links from to).sent
sent_at links from to = cell-map (λ v. v.sent) links from to (new_sending 0)

carries-gain : (window : ℕ) (items more : List Item) (old new : Sending) → Carries window items old → PushesItems more old new
    → HasRoom old (length more) → Carries window (items ++ more) new
carries-gain window items more old new carries gains room = grind arith

module _ {parties : List (List (List ℕ))} {window : ℕ} {entries : List Entry} {routed_counts : List ℕ} {open_links : List PartySet}
    {links : List (List Sending)} {sold : List (List ℕ × PartySet)} (kept : IsKept parties window entries routed_counts open_links links sold) where
  -- a link that gains nothing is not busy, so the least busy party is the first of those whose links gain something
  pub busy_among : (from : ℕ) (message : Message) (gaining : PartySet) → from < length parties
      → ((to : ℕ) → has_party gaining to ≡ (is_reached parties entries from message to || ((to == from) && is_open entries from from)))
      → (busy_party (view parties window entries links) from message
      ≡ find (is_busy (view parties window entries links) from message) (parties_in gaining))
      × ((to : ℕ) → has_party gaining to ≡ true → to < length parties)
  unfolding busy_party gained
  busy_among from message gaining is_from gains =
      let hub = view parties window entries links in
      let within : (to : ℕ) → has_party gaining to ≡ true → to < length parties =
      λ to e. grind (arith, nat_tests, e, gains to, reached_below parties entries from message to) in
      let listed = listed-in gaining (has_party gaining) (length parties) kept.few (λ to lt. refl) (λ to beyond. grind (arith, within to)) in (
        rw listed (sym (find-those (is_busy hub from message) (has_party gaining) (length parties) (λ to lt nothing.
            grind (arith, nat_tests, nothing, gains to, kept.carries from to is_from lt, sent_at links from to, busy_is)))),
        within,
      )

  -- where no link is busy, each has room for its gain
  pub rooms : (from : ℕ) (message : Message) → from < length parties → busy_party (view parties window entries links) from message ≡ None
      → (to : ℕ) → to < length parties → HasRoom (link_at links from to) (length (next_items (view parties window entries links) from message to))
  unfolding busy_party
  rooms from message is_from none to is_to =
      let hub = view parties window entries links in
      let free = find-none_at (is_busy hub from message) to (length parties) is_to none in
      grind (arith, busy_is hub from to message (link_at links from to), kept.carries from to is_from is_to, sent_at links from to, free)

  -- all that the hub keeps, where its table says the same of where products are sold
  pub kept_reserved : (now : List (List ℕ × PartySet)) → ((gtin : List ℕ) (party : ℕ) → sold_to now gtin party ≡ sold_to sold gtin party)
      → IsKept parties window entries routed_counts open_links links now
  kept_reserved now same = record {
    some = kept.some;
    few = kept.few;
    counted = kept.counted;
    counts = kept.counts;
    opened = kept.opened;
    opens = kept.opens;
    square = kept.square;
    carries = kept.carries;
    sells = λ gtin party. rw (same gtin party) (kept.sells gtin party);
  }

  -- all that the hub keeps, once a message was routed
  pub kept-routed : (new : List (List Sending)) (now : List (List ℕ × PartySet)) (from : ℕ) (message : Message) → from < length parties
      → busy_party (view parties window entries links) from message ≡ None
      → PushesRow (length parties) from (next_items (view parties window entries links) from message) links new → Sells parties sold now message
      → IsKept parties window (entries ++ Routed from (routed_count entries from + 1) message ∷ []) (set routed_counts from (routed_count entries from + 1)) open_links new now
  kept-routed new now from message lt none row sells =
      grind (arith, elements, sells-push parties entries (Routed from (routed_count entries from + 1) message) sold now kept.sells (sells from (routed_count entries from + 1)), append-nil {A = Item}, routed_from-append, is_open-append, link_items-push, gained_other, carries-gain, rooms from message lt none)

  -- all that the hub keeps, once a link was closed
  pub kept_closed : (from to : ℕ) (opened rest : PartySet) → from < length parties → opened ≡ get_or open_links from opened
      → ((other : ℕ) → has_party rest other ≡ (has_party opened other && not (other == to)))
      → IsKept parties window (entries ++ Closed from to ∷ []) routed_counts (set open_links from rest) links sold
  unfolding gained
  kept_closed from to opened rest is_from at without = grind (arith, sells-push parties entries (Closed from to) sold sold kept.sells (λ gtin party. refl), get_or_default, routed_from-append, Closed, append-nil, elements, is_open-append, link_items-push)

  -- all that the hub keeps, once an item of a link was relayed
  pub kept_relayed : (from to : ℕ) (old new : Sending) → from < length parties → to < length parties → link_at links from to ≡ old
      → new ≡ record old { sent = old.sent + 1 } → IsKept parties window entries routed_counts open_links (put links from to new) sold
  kept_relayed from to old new is_from is_to at e = grind (arith, elements, square-put)

-- nobody serves a market of a product before its first master
serves-none : (parties : List (List (List ℕ))) (gtin : List ℕ) (party : ℕ) → serves_product parties [] gtin party ≡ false
unfolding last_product
serves-none parties gtin party = list_any-none (get_or parties party [])
  where
    list_any-none : (markets : List (List ℕ)) → serves_one markets [] ≡ false
    list_any-none [] = refl
    list_any-none (market ∷ markets) = list_any-none markets

sells-none : (parties : List (List (List ℕ))) (gtin : List ℕ) (party : ℕ) → sold_to [] gtin party ≡ (nat_lt party (length parties) && serves_product parties [] gtin party)
sells-none parties gtin party = grind (arith, serves-none parties gtin party)

-- a hub where nothing has happened keeps what it should
pub kept-new : (parties : List (List (List ℕ))) (window : ℕ) (all : PartySet) (links : List (List Sending))
    → 1 ≤ length parties → length parties ≤ PARTIES_LIMIT
    → ((party : ℕ) → party < PARTIES_LIMIT → has_party all party ≡ true)
    → IsSquare (length parties) links → All (All (λ v. v ≡ new_sending window)) links
    → IsKept parties window [] (replicate (length parties) 0) (replicate (length parties) all) links []
unfolding link_items last_product
kept-new parties window all links some few has square fresh = grind (arith, length-replicate, get_or-replicate, sells-none parties)

-- and is seen as such
pub view-new : (parties : List (List (List ℕ))) (window : ℕ) (links : List (List Sending))
    → IsSquare (length parties) links → All (All (λ v. v ≡ new_sending window)) links → view parties window [] links ≡ new_hub parties window
view-new parties window links square fresh = rw (table-all (λ (v : Sending). v.sent) 0 (length parties) links square (λ k d lt j e below. ap (λ (v : Sending). v.sent) (fresh k d lt j e below)))
