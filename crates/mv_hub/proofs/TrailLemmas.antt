-- When texts and batches are the same, what one more entry changes in what the record says of products and batches, and the search for the
-- batches that chains of links lead to.
use Rattle.mv_hub.proofs.Words.{Global, Vec, lookup, Product, insert_key, AreTables, BatchKey, Bool, Contains, Contains-from_any, Entry, Gathers, IsAscendingList, IsChain, LinkTable, List, Listing, None, Option, Some, [], append-nil, append_assoc, arith, bytes_eq-Decides, catalogue_after, catalogue_in, common_steps, cond, elements, false, filter_map-append, fold-append, get_or, get_or_default, inl, inr, insert_all, is_same_batch, is_same_listing, last_or, last_product, length, link_in, linked_in, linked_to, list_any, nat_eq, no_catalogue, option_or, option_to_list, pointwise, product_in, refl, rules, true, unwrap_or, ℕ, ◌++◌, ◌+◌, ◌<◌, ◌↔◌, ◌∷◌, ◌≡◌, ◌≤◌, ◌⊎◌}
use Rattle.mv_hub.specs.declared.catalogue.Catalogue.{Catalogue}
use Rattle.mv_hub.specs.Catalogue.{listing_in, batches_of}

-- a list of batches, said in other words
pub listed-same : {list : List BatchKey} {P Q : BatchKey → Type 0} → ((batch : BatchKey) → P batch ↔ Q batch) → IsAscendingList list P → IsAscendingList list Q
listed-same same listed = record { order = listed.order; members = λ batch. grind (arith, same batch, listed.members batch) }

pub batch-same : (a b : BatchKey) → is_same_batch a b ≡ true → a ≡ b
batch-same a b e = search rules

pub last_or-append : {A : Type 0} (o : Option A) (xs ys : List A) → last_or o (xs ++ ys) ≡ last_or (last_or o xs) ys
last_or-append o [] ys = refl
last_or-append o (x ∷ xs) ys = last_or-append (Some x) xs ys

-- what is known of a product once an entry gives it a description or a batch
abbrev pub known : Option Catalogue → Option Product → Option Listing → Option Catalogue
known catalogue None None = catalogue
known catalogue product listing = Some (catalogue_after (unwrap_or catalogue no_catalogue) product listing)

-- a table of batches after, once the list of one batch was written that has these more
pub linked-put : (old new : LinkTable) (before : BatchKey) (written : Vec BatchKey Global) (more : List BatchKey)
    → ((other : BatchKey) → lookup (is_same_batch other) new ≡ cond (is_same_batch before other) (Some written) (lookup (is_same_batch other) old))
    → written.items ≡ linked_in old before ++ more
    → (other : BatchKey) → linked_in new other ≡ linked_in old other ++ cond (is_same_batch before other) more []
linked-put old new before written more put is other = grind (arith, put other, batch-same before other, append-nil {A = BatchKey})

-- the tables once one more entry stands at the end, where they changed by what that says
pub tables_push : (entries : List Entry) (entry : Entry) (old new : List (List ℕ × Catalogue)) (old_links new_links : LinkTable)
    → ((gtin : List ℕ) → catalogue_in new gtin ≡ known (catalogue_in old gtin) (product_in gtin entry) (listing_in gtin entry))
    → ((batch : BatchKey) → linked_in new_links batch ≡ linked_in old_links batch ++ option_to_list (link_in batch entry))
    → AreTables entries old old_links → AreTables (entries ++ entry ∷ []) new new_links
unfolding last_product batches_of linked_to
tables_push entries entry old new old_links new_links products links tables = record {
  are_catalogues = λ gtin.
      let given = filter_map-append (product_in gtin) entries (entry ∷ []) in
      let listed = filter_map-append (listing_in gtin) entries (entry ∷ []) in
      grind (arith, given, listed, products gtin, tables.are_catalogues gtin, fold-append, last_or-append {A = Product});
  are_links = λ batch. grind (arith, links batch, tables.are_links batch, filter_map-append (link_in batch) entries (entry ∷ []));
}

-- what the tables rest on
pub ruleset table_steps = (tables_push, append-nil)

-- what a list has with one member more
one-more : (xs : List BatchKey) (x batch : BatchKey) → Contains (xs ++ x ∷ []) batch ↔ (Contains xs batch ⊎ (x ≡ batch))
one-more xs x batch = grind (arith, elements)

one-link : (xs : List BatchKey) (x batch : BatchKey) → Contains (insert_key is_same_batch xs x) batch ↔ (Contains xs batch ⊎ (x ≡ batch))
one-link xs x batch = grind (arith, elements, Contains-from_any batch-same x xs)

-- one more batch was
pub gathers_more : (old more now : List BatchKey) (x : BatchKey) → Gathers old more now → Gathers old (more ++ x ∷ []) (insert_key is_same_batch now x)
gathers_more old more now x gathers = record {
  behind = grind (arith, common_steps, gathers.behind);
  members = λ batch. grind (arith, one-link now x batch, one-more more x batch, gathers.members batch);
}

-- Some batches were reached, and the batches that are linked to the first of them too.
pub record IsSearching (links : BatchKey → List BatchKey) (batch : BatchKey) (next : ℕ) (reached : List BatchKey) : Type 0 where
  pub sound : (other : BatchKey) → Contains reached other → (between : List BatchKey) × IsChain links batch between other
  pub begun : (other : BatchKey) → Contains (links batch) other → Contains reached other
  pub closed : (k : ℕ) (from other : BatchKey) → k < next → k < length reached → get_or reached k from ≡ from → Contains (links from) other
      → Contains reached other

-- at first those that are linked to the batch were reached
pub searching_start : (links : BatchKey → List BatchKey) (batch : BatchKey) (reached : List BatchKey) → Gathers [] (links batch) reached
    → IsSearching links batch 0 reached
searching_start links batch reached gathers = record {
  sound = λ other h. ([], grind (arith, elements, gathers.members other));
  begun = λ other. grind (arith, gathers.members other);
  closed = λ k from other lt. absurd (omega arith);
}

-- a chain may go one link further
chain-more : (links : BatchKey → List BatchKey) (batch : BatchKey) (between : List BatchKey) (last other : BatchKey)
    → IsChain links batch between last → Contains (links last) other → IsChain links batch (between ++ last ∷ []) other
chain-more links batch [] last other chain linked = (chain, linked)
chain-more links batch (next ∷ between) last other chain linked = (chain.0, chain-more links next between last other chain.1 linked)

-- the batches that are linked to one more were reached
pub searching_more : (links : BatchKey → List BatchKey) (batch : BatchKey) (next : ℕ) (reached new : List BatchKey) (current : BatchKey)
    → IsSearching links batch next reached → next < length reached → get_or reached next current ≡ current → Gathers reached (links current) new
    → IsSearching links batch (next + 1) new
searching_more links batch next reached new current search below at gathers = record {
  sound = λ other h. elim ((gathers.members other).0 h) [
    | inl h ↦ search.sound other h
    | inr h ↦
        let chain = search.sound current (next, below, at) in
        (chain.0 ++ current ∷ [], chain-more links batch chain.0 current other chain.1 h)
  ];
  begun = λ other. grind (arith, gathers.members other, search.begun other);
  closed = λ k from other lt within is linked.
      let here : get_or reached k from ≡ from = grind (arith, common_steps, gathers.behind) in
      grind (arith, linked, gathers.members other, search.closed k from other, get_or_default reached k from current);
}

-- where each batch that was reached was looked at, all were reached
pub searching_end : (links : BatchKey → List BatchKey) (batch : BatchKey) (next : ℕ) (reached : List BatchKey)
    → IsSearching links batch next reached → length reached ≤ next
    → (other : BatchKey) → Contains reached other ↔ ((between : List BatchKey) × IsChain links batch between other)
searching_end links batch next reached search all other = (search.sound other, λ chain. complete chain.0 batch search.begun chain.1)
  where
    complete : (between : List BatchKey) (from : BatchKey) → ((b : BatchKey) → Contains (links from) b → Contains reached b)
        → IsChain links from between other → Contains reached other
    complete [] from has chain = has other chain
    complete (b ∷ between) from has chain =
        let (k, lt, is) = has b chain.0 in
        complete between b (λ o. search.closed k b o (omega arith) lt is) chain.1
