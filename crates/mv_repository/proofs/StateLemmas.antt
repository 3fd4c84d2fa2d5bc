-- What a pack is depends on its own entries, the first recall of its batch and the first withdrawal of its product. What `next` gives
-- is one step of it, so the place of one entry is all that has to be kept. The change of a pack names its status.
use Rattle.mv_repository.proofs.Words.{◌≡◌, ◌∷◌, ◌++◌, List, [], refl, sym, ◌∙◌, ap, subst, append_assoc, Bool, true, false, cond, Option, Some, None, IfSome, find, fold, map, get_or, list_any, option_or, option_map, PackKey, LogEntry, Placed, stands_before, Ascends, KnownPack, batch_standing, pack_after_item, known_pack_from, known_pack, pack_made_by, FirstStops, first_stops, is_before, standing_at, entry_at, place_of, no_entry, is_upload_of, is_status_of, is_recall_of, is_withdrawal_of, first_upload, statuses_of, pack_changed, pack_step, pack_grown, arith, nat_tests, ◌%◌, ℕ, AllByRecursion, BatchKey, Item, PartySet, has_party, PARTIES_LIMIT, IsCovered, BatchStanding, Standing, is_active, is_done, change_in, known_at, rules, effect_from, message_in, next_by, next_place, slice_get, Status, Carried, ordered, NamesStatus, ChangeNamesStatus, standing_of}
use Rattle.mv_repository.proofs.OrderLemmas.{StandsBeforeAll, Stand, find-all, AreOf, ordered-of}

-- what is found behind y doesn't stand before it
not_before : (f : Placed → Bool) (y : Placed) (xs : List Placed) → StandsBeforeAll y xs → is_before (find f xs) y ≡ false
not_before f y [] h = refl
not_before f y (x ∷ xs) h = grind (arith, nat_tests, not_before f y xs h.1)

at_behind : (z y : Placed) (xs rest : List Placed) → StandsBeforeAll z (xs ++ y ∷ rest) → stands_before z y ≡ true
at_behind z y [] rest h = h.0
at_behind z y (x ∷ xs) rest h = at_behind z y xs rest h.1

-- in the order of stamps one of a kind stands before an entry where the first of the kind does
pub first-before : (f : Placed → Bool) (before : List Placed) (y : Placed) (rest : List Placed) → Ascends (before ++ y ∷ rest) → list_any f before ≡ is_before (find f (before ++ y ∷ rest)) y
first-before f [] y rest a = grind (arith, nat_tests, not_before)
first-before f (z ∷ zs) y rest a = grind (arith, nat_tests, first-before f zs y rest a.1, at_behind)

-- one entry, where the first stops are known
abbrev next : FirstStops → PackKey → Option KnownPack → Placed → Option KnownPack
next stops pack known x = pack_after_item (standing_at stops x) x.place x.entry.sender x.entry.item pack known

batch-stands : (before : List Placed) (x : Placed) (rest : List Placed) → Ascends (before ++ x ∷ rest) → batch_standing before ≡ standing_at (first_stops (before ++ x ∷ rest)) x
batch-stands before x rest a = λ i batch. record { recalled = first-before (λ y. is_recall_of batch y.entry.item) before x rest a i; withdrawn = first-before (λ y. is_withdrawal_of batch.gtin y.entry.item) before x rest a i }

state-fold : (all before rest : List Placed) (pack : PackKey) (known : Option KnownPack) → all ≡ before ++ rest → Ascends all → known_pack_from before rest pack known ≡ fold (next (first_stops all) pack) known rest
state-fold all before [] pack known e a = refl
state-fold all before (x ∷ xs) pack known e a =
    state-fold all (before ++ x ∷ []) xs pack (pack_after_item (batch_standing before) x.place x.entry.sender x.entry.item pack known) (e ∙ sym (append_assoc before (x ∷ []) xs)) a
    ∙ ap (λ (s : BatchKey → BatchStanding). fold (next (first_stops all) pack) (pack_after_item s x.place x.entry.sender x.entry.item pack known) xs)
    (subst (λ (w : List Placed). batch_standing before ≡ standing_at (first_stops w) x) (sym e) (batch-stands before x xs (subst Ascends e a)))

-- a status of a pack that is held
abbrev turn : FirstStops → PackKey → KnownPack → Placed → KnownPack
turn stops pack held x = pack_changed (standing_at stops x) x.place x.entry.sender x.entry.item pack held

next-tests : (stops : FirstStops) (pack : PackKey) (known : Option KnownPack) (x : Placed) → next stops pack known x
    ≡ cond (is_upload_of pack x.entry.item) (option_or known (pack_made_by x.entry.item)) (cond (is_status_of pack x.entry.item) (option_map (λ held. turn stops pack held x) known) known)
next-tests stops pack known x = grind (arith, nat_tests)

-- a pack that is held goes by its statuses
fold-held : (stops : FirstStops) (pack : PackKey) (held : KnownPack) (xs : List Placed) → fold (next stops pack) (Some held) xs ≡ Some (fold (turn stops pack) held (statuses_of pack xs))
fold-held stops pack held [] = refl
fold-held stops pack held (x ∷ xs) = grind (arith, nat_tests, fold-held stops pack held xs, fold-held stops pack (turn stops pack held x) xs, next-tests)

-- behind its upload, each status counts
fold-behind : (stops : FirstStops) (pack : PackKey) (birth : Placed) (held : KnownPack) (xs : List Placed) → StandsBeforeAll birth xs → fold (pack_step stops pack birth) held (statuses_of pack xs) ≡ fold (turn stops pack) held (statuses_of pack xs)
fold-behind stops pack birth held [] h = refl
fold-behind stops pack birth held (x ∷ xs) h = grind (arith, nat_tests, fold-behind stops pack birth (turn stops pack held x) xs h.1, fold-behind stops pack birth held xs h.1)

-- a status in front of the first upload doesn't count
grown-early : (stops : FirstStops) (pack : PackKey) (f : Placed → Bool) (x : Placed) (own xs : List Placed) → StandsBeforeAll x xs → pack_grown stops pack (find f xs) (x ∷ own) ≡ pack_grown stops pack (find f xs) own
grown-early stops pack f x own [] h = refl
grown-early stops pack f x own (y ∷ ys) h = grind (arith, nat_tests, grown-early stops pack f x own ys h.1)

fold-grown : (stops : FirstStops) (pack : PackKey) (xs : List Placed) → Ascends xs
    → fold (next stops pack) None xs ≡ pack_grown stops pack (first_upload pack xs) (statuses_of pack xs)
fold-grown stops pack [] a = refl
fold-grown stops pack (x ∷ xs) a = grind (arith, nat_tests, fold-grown stops pack xs a.1, fold-behind, fold-held, grown-early)

-- a pack by entries in order is what its own entries make of it
pub known-grown : (pack : PackKey) (xs : List Placed) → Ascends xs
    → known_pack pack xs ≡ pack_grown (first_stops xs) pack (first_upload pack xs) (statuses_of pack xs)
known-grown pack xs a = state-fold xs [] xs pack None refl a ∙ fold-grown (first_stops xs) pack xs a

pub entry-stands : (log : List LogEntry) (x : Placed) → get_or log x.place no_entry ≡ x.entry → entry_at log x.place ≡ x
entry-stands log x e = λ i. record x { entry = e i }

pub map-stands : (log : List LogEntry) (xs : List Placed) → Stand log xs → map (entry_at log) (map place_of xs) ≡ xs
map-stands log [] s = refl
map-stands log (x ∷ xs) s = grind (arith, nat_tests, map-stands log xs s.1)

pub find-stand : (f : Placed → Bool) (log : List LogEntry) (xs : List Placed) → Stand log xs → IfSome (find f xs) (λ x. get_or log x.place no_entry ≡ x.entry)
find-stand f log xs s = find-all (λ x. get_or log x.place no_entry ≡ x.entry) f xs s

pub find-stands : (f : Placed → Bool) (log : List LogEntry) (xs : List Placed) → Stand log xs
    → option_map (entry_at log) (option_map place_of (find f xs)) ≡ find f xs
find-stands f log xs s = grind (arith, nat_tests, find-stand f log xs s)

pub born : (birth : Placed) → known_at birth birth ≡ pack_made_by birth.entry.item
born birth = grind (arith, nat_tests)

module _ (stops : FirstStops) (pack : PackKey) (birth by placed : Placed) (made : KnownPack) (is : pack_made_by birth.entry.item ≡ Some made) where
  abbrev held : KnownPack
  held = record made { standing = standing_of (message_in by.entry.item); change = change_in by }

  abbrev standing : BatchKey → BatchStanding
  standing = standing_at stops placed

  -- a status that is done, or not
  done : (b : Bool) (k stamp : ℕ) (key : PackKey) (to : Standing) (user : List ℕ) (at : ℕ) → placed.entry.item ≡ Carried k stamp (Status key to user at)
      → known_at birth (cond b (cond (is_active to) birth placed) by)
      ≡ Some (cond b (record held { standing = to; change = cond (is_active to) None (Some (record { by = placed.entry.sender; user = user; at = at; entry = placed.place })) }) held)
  done b k stamp key to user at e = grind (arith, nat_tests)

  stepped : (item : Item) → placed.entry.item ≡ item
      → known_at birth (cond (is_done (effect_from standing placed.entry.sender (message_in item) pack.gtin held)) (cond (is_active (standing_of (message_in item))) birth placed) by)
      ≡ Some (pack_changed standing placed.place placed.entry.sender item pack held)
  stepped (Carried k stamp (Status key to user at)) e = done (is_done (effect_from standing placed.entry.sender (Some (Status key to user at)) pack.gtin held)) k stamp key to user at e
  stepped item e = rw is

  next_made : known_at birth (next_by stops pack.gtin (Some birth) by placed) ≡ option_map (λ held. pack_step stops pack birth held placed) (known_at birth by)
  next_made = grind (arith, nat_tests, stepped)

-- the next entry by which a pack stands is one step of its state
pub next-step : (stops : FirstStops) (pack : PackKey) (birth by placed : Placed)
    → known_at birth (next_by stops pack.gtin (Some birth) by placed) ≡ option_map (λ held. pack_step stops pack birth held placed) (known_at birth by)
next-step stops pack birth by placed = grind (arith, nat_tests, next_made stops pack birth by placed)

-- and all of them, one after another, are the state
pub grown-from : (stops : FirstStops) (pack : PackKey) (birth by : Placed) (xs : List Placed)
    → option_map (λ held. fold (pack_step stops pack birth) held xs) (known_at birth by) ≡ known_at birth (fold (next_by stops pack.gtin (Some birth)) by xs)
grown-from stops pack birth by [] = grind (arith, nat_tests)
grown-from stops pack birth by (x ∷ xs) = grind (arith, nat_tests, grown-from stops pack birth (next_by stops pack.gtin (Some birth) by x) xs, next-step stops pack birth by x)

-- a pack by its first upload and its statuses is what stands by the last of these entries
pub grown-by : (stops : FirstStops) (pack : PackKey) (birth : Placed) (xs : List Placed)
    → pack_grown stops pack (Some birth) xs ≡ known_at birth (fold (next_by stops pack.gtin (Some birth)) birth xs)
grown-by stops pack birth xs = grind (arith, nat_tests, born, grown-from)

-- a pack that another changed goes through a status that is no revert of its sender
passed : (log : List LogEntry) (stops : FirstStops) (gtin : List ℕ) (birth by place : ℕ) (reverters : PartySet) → is_active (standing_of (message_in (entry_at log by).entry.item)) ≡ false
    → has_party reverters ((entry_at log by).entry.sender % PARTIES_LIMIT) ≡ false → IsCovered reverters (entry_at log place) → next_place log stops gtin birth by place ≡ by
passed log stops gtin birth by place reverters changed none covered = grind (arith, nat_tests)

-- so it does by many
pub own_passed : (log : List LogEntry) (stops : FirstStops) (gtin : List ℕ) (birth by : ℕ) (own : List ℕ) (reverters : PartySet) → is_active (standing_of (message_in (entry_at log by).entry.item)) ≡ false
    → has_party reverters ((entry_at log by).entry.sender % PARTIES_LIMIT) ≡ false → AllByRecursion (λ place. IsCovered reverters (entry_at log place)) own → fold (next_place log stops gtin birth) by own ≡ by
own_passed log stops gtin birth by [] reverters changed none covered = refl
own_passed log stops gtin birth by (place ∷ own) reverters changed none covered = ap (λ (b : ℕ). fold (next_place log stops gtin birth) b own) (passed log stops gtin birth by place reverters changed none covered.0) ∙ own_passed log stops gtin birth by own reverters changed none covered.1

abbrev NamesIts : List LogEntry → PackKey → Option KnownPack → Type 0
NamesIts log pack known = IfSome known (λ held. IfSome held.change (NamesStatus log pack held.standing))

names-item : (log : List LogEntry) (pack : PackKey) (standing : BatchKey → BatchStanding) (place sender : ℕ) (item : Item) (known : Option KnownPack)
    → slice_get log place ≡ Some (record { sender = sender; item = item })
    → NamesIts log pack known → NamesIts log pack (pack_after_item standing place sender item pack known)
names-item log pack standing place sender item known there names = search rules

names-from : (log : List LogEntry) (pack : PackKey) (before xs : List Placed) (known : Option KnownPack) → AreOf log xs
    → NamesIts log pack known → NamesIts log pack (known_pack_from before xs pack known)
names-from log pack before [] known of names = names
names-from log pack before (x ∷ xs) known of names = grind (arith, nat_tests, names-from log pack (before ++ x ∷ []) xs (pack_after_item (batch_standing before) x.place x.entry.sender x.entry.item pack known) of.1 (names-item log pack (batch_standing before) x.place x.entry.sender x.entry.item known of.0 names))

pub change_names_status : (pack : PackKey) (log : List LogEntry) → ChangeNamesStatus pack log
change_names_status pack log = names-from log pack [] (ordered log) None (ordered-of log) tt
