-- Prefixes of lists, how long the record can grow, and which entry of it put each item on a link: the items of a link are put there in the order
-- of the record. So what a lawful state applied is what was submitted, the numbers of its items rise, and no stamp stands twice in a log.
use Rattle.mv_machine.proofs.Words.{◌≡◌, ℕ, Bool, false, true, List, [], ◌∷◌, ◌++◌, length, drop, cond, refl, sym, ap, ◌∙◌, subst, append_assoc, append-nil, arith, All, Some, slice_get, All-take, IsPrefix, common_steps, gets, take-append_seam, suc, ◌+◌, ◌-◌, ◌*◌, ◌<◌, ◌≤◌, map, get_or, take, length-append, length-map, eqb, Closed, Decides-eqb, Entry, IsDistinct, IsLawful, NumbersSuffice, Routed, StampsSuffice, State, gained, is_busy, is_open, items_on, le-ltb, link_items, link_items_after, routed_count, routed_from, routed_from-append, submissions_of, All-cons, All-nil, AppliedIsSubmitted, Carried, IsLawfulRecord, IsRoutedAt, IsTrue, Item, LogEntry, Message, NumbersRise, Receipt, filter, is_carried, is_query, is_reached, items_from, log_of, nat_tests, not, number_of, option_and_then_some, reach, slice_get-get_or, zero}
use Rattle.std.proofs.lemmas.List.Folds.{Any-from_list_any}
use Rattle.std.proofs.lemmas.Map.Made.{IsDistinct-from_AllPairs}
use Rattle.std.proofs.lemmas.Map.Steps.{length-le_from_distinct_below}
use Rattle.mv_machine.specs.Words.{PARTIES_LIMIT, SUBMISSIONS_LIMIT}
use Rattle.std.specs.List.Sorted.{IsStrictlyIncreasing}
use Rattle.mv_repository.proofs.CallerLemmas.{distinct-stamps, same_about, stamp_in}
use Rattle.mv_machine.specs.Stamps.{StampsAreDistinct, RepositoriesAgree}

pub prefix-nil : {A : Type 0} (ys : List A) → IsPrefix [] ys
prefix-nil ys = (ys, refl)

-- what is a prefix stays one when the whole grows
pub prefix-grows : {A : Type 0} (xs ys zs : List A) → IsPrefix xs ys → IsPrefix xs (ys ++ zs)
prefix-grows xs ys zs p = (p.0 ++ zs, sym (append_assoc xs p.0 zs) ∙ ap (λ l. l ++ zs) p.1)

-- a prefix, and the member behind it where there is one more
pub prefix-maybe : {A : Type 0} (xs ys : List A) (more : Bool) (x : A) → IsPrefix xs ys → (more ≡ true → slice_get ys (length xs) ≡ Some x)
    → IsPrefix (xs ++ cond more (x ∷ []) []) ys
prefix-maybe xs ys false x p next = rw append-nil p
prefix-maybe xs ys true x p next = (drop 1 p.0, grind (arith, common_steps, gets, next refl))

-- a member of a front is one of the whole
pub slice_get-append : {A : Type 0} (xs ys : List A) (i : ℕ) (x : A) → slice_get xs i ≡ Some x → slice_get (xs ++ ys) i ≡ Some x
slice_get-append xs ys i x e = grind (arith, common_steps, gets)

pub slice_get-behind : {A : Type 0} (xs : List A) (x : A) (ys : List A) → slice_get (xs ++ x ∷ ys) (length xs) ≡ Some x
slice_get-behind xs x ys = grind (arith, common_steps, gets)

-- what holds of each member of a list holds of each of a front
pub All-front : {A : Type 0} (P : A → Type 0) (xs ys : List A) → All P (xs ++ ys) → All P xs
All-front P xs ys all = subst (All P) (take-append_seam xs ys) (All-take P (length xs) (xs ++ ys) all)

pub routed_count-push : (before after : List Entry) (party : ℕ) → routed_count (before ++ after) party ≡ routed_count before party + routed_count after party
routed_count-push before after party = ap length (routed_from-append before after party) ∙ length-append (routed_from before party) (routed_from after party)

-- what was routed from a party is no more than what it submitted
pub routed_count-few : (st : State) (party : ℕ) → IsLawful st → party < length st.hub.parties → routed_count st.hub.entries party ≤ length (submissions_of st party)
routed_count-few st party lawful is_party = grind (arith, length-append)

-- what an entry of a record leaves: its message stands among those of its sender, and the link that it closes is open no longer
abbrev pub IsPast : List Entry → ℕ → Entry → Type 0
IsPast entries place (Routed from k message) = slice_get (routed_from entries from) (routed_count (take place entries) from) ≡ Some message
IsPast entries place (Closed from to) = is_open entries from to ≡ false

pub past : (entries : List Entry) (place : ℕ) (entry : Entry) → slice_get entries place ≡ Some entry → IsPast entries place entry
past (first ∷ entries) (suc place) entry at = grind (arith, past entries place entry at)
past entries place entry at = grind arith

-- a number for each entry of a record, by which no two entries are equal
abbrev entry_number : Entry → ℕ
entry_number (Routed from k message) = from * SUBMISSIONS_LIMIT + (k - 1)
entry_number (Closed from to) = PARTIES_LIMIT * SUBMISSIONS_LIMIT + from * PARTIES_LIMIT + to

-- a record of so many parties, from each of whom so many messages were routed at most, is far from having 2 ^ 32 entries
pub stamps_suffice : StampsSuffice
stamps_suffice count entries lawful parties_few short =
    let numbers = map entry_number entries in
    let distinct : IsDistinct eqb numbers = IsDistinct-from_AllPairs Decides-eqb numbers
    (λ i j d lt within same. grind (arith, common_steps, gets, differ i j (get_or entries i (Closed 0 0)) (get_or entries j (Closed 0 0)) lt)) in
    rw length-map at (length-le_from_distinct_below numbers (PARTIES_LIMIT * SUBMISSIONS_LIMIT + PARTIES_LIMIT * PARTIES_LIMIT) distinct
    (λ number has. let at = Any-from_list_any (eqb number) numbers has in
    grind (arith, common_steps, gets, below at.0 (get_or entries at.0 (Closed 0 0)))))
  where
    below : (place : ℕ) (entry : Entry) → slice_get entries place ≡ Some entry
        → entry_number entry < PARTIES_LIMIT * SUBMISSIONS_LIMIT + PARTIES_LIMIT * PARTIES_LIMIT
    below place entry at = grind (arith, gets, lawful.fits place entry at, short, past entries place entry at)

    differ : (i j : ℕ) (one other : Entry) → i < j → slice_get entries i ≡ Some one → slice_get entries j ≡ Some other
        → entry_number one ≡ entry_number other → ⊥
    differ i j one other lt first second same =
        let fits = lawful.fits j other second in
        let gone = past (take j entries) i one in
        grind (arith, common_steps, gets, fits, gone, lawful.fits i one first, short, past entries i one first, past entries j other second)

-- a link carries at most two items for each message that was routed from its sender
items-few : (parties : List (List (List ℕ))) (before entries : List Entry) (from to : ℕ)
    → length (link_items_after parties before entries from to) ≤ 2 * routed_count entries from
unfolding gained
items-few parties before [] from to = omega arith
items-few parties before (entry ∷ entries) from to = grind (arith, items-few parties (before ++ entry ∷ []) entries from to)

-- so no link runs out of numbers
pub numbers_suffice : NumbersSuffice
unfolding gained is_busy link_items
numbers_suffice st from to message lawful is_party few = grind (arith, items-few, items_on, le-ltb, routed_count-few)

-- an item is made of a message that was routed behind these entries, under this stamp
abbrev pub IsMadeOf : List (List (List ℕ)) → List Entry → ℕ → ℕ → ℕ → Message → Item → Type 0
IsMadeOf parties before from to stamp message (Carried k given sent) = (given ≡ stamp) × (sent ≡ message) × IsTrue (is_reached parties before from message to)
IsMadeOf parties before from to stamp message (Receipt k reached query) = (reached ≡ reach parties before from message) × (query ≡ is_query message)

-- an entry of a record put this item on a link, which was open
pub record IsPut (parties : List (List (List ℕ))) (entries : List Entry) (from to : ℕ) (item : Item) : Type 0 where
  pub place : ℕ  -- that of the entry, counted from 0
  pub message : Message
  pub routed : slice_get entries place ≡ Some (Routed from (number_of item) message)
  pub still_open : is_open (take place entries) from to ≡ true
  pub made : IsMadeOf parties (take place entries) from to (place + 1) message item

-- the turn of an item on its link: the receipt for a message stands before the message, and both before those of the next
abbrev pub turn : Item → ℕ
turn (Receipt k reached query) = k + k
turn (Carried k stamp message) = k + k + 1

-- items were put on a link one after another, the first not before this turn
abbrev pub ArePut : List (List (List ℕ)) → List Entry → ℕ → ℕ → ℕ → List Item → Type 0
ArePut parties entries from to least [] = Unit {0}
ArePut parties entries from to least (item ∷ items) =
    (least ≤ turn item) × IsPut parties entries from to item × ArePut parties entries from to (turn item + 1) items

module _ (parties : List (List (List ℕ))) (entries : List Entry) (from to : ℕ) where
  pub put-weaker : (least more : ℕ) (items : List Item) → least ≤ more → ArePut parties entries from to more items → ArePut parties entries from to least items
  put-weaker least more [] le put = tt
  put-weaker least more (item ∷ items) le put = (omega (arith, le, put.0), put.1, put.2)

  put-front : (least : ℕ) (items more : List Item) → ArePut parties entries from to least (items ++ more) → ArePut parties entries from to least items
  put-front least [] more put = tt
  put-front least (item ∷ items) more put = grind (arith, put-front (turn item + 1) items more)

  -- what holds of an item that was put holds of each
  pub put-each : (P : Item → Type 0) (least : ℕ) → ((item : Item) → IsPut parties entries from to item → P item) → (items : List Item) → ArePut parties entries from to least items → All P items
  put-each P least each [] put = All-nil P
  put-each P least each (item ∷ items) put = search (All-cons, each, put-each P (turn item + 1) each items)

-- the turn of the first item of the message that a sender is routed next
abbrev next_turn : List Entry → ℕ → ℕ
next_turn entries from = routed_count entries from + routed_count entries from + 2

module _ (parties : List (List (List ℕ))) (from to : ℕ) where
  -- the entry behind others put an item of its message
  put-here : (before : List Entry) (message : Message) (entries : List Entry) (item : Item) → is_open before from to ≡ true
      → IsMadeOf parties before from to (length before + 1) message item
      → IsPut parties (before ++ Routed from (number_of item) message ∷ entries) from to item
  put-here before message entries item still_open made =
      let front = take-append_seam before (Routed from (number_of item) message ∷ entries) in
      grind (arith, slice_get-behind)

  -- what the next message of the sender puts on the link, in front of what later entries put on it
  own-put : (before : List Entry) (message : Message) (entries : List Entry) (items : List Item)
      → let entry = Routed from (routed_count before from + 1) message in
      ArePut parties (before ++ entry ∷ entries) from to (next_turn before from + 2) items
      → ArePut parties (before ++ entry ∷ entries) from to (next_turn before from) (gained parties before entry from to ++ items)
  unfolding gained is_reached
  own-put before message entries items later =
      let put = put-here before message entries in
      let k = routed_count before from + 1 in
      grind (arith, nat_tests, put-weaker, put (Receipt k (reach parties before from message) (is_query message)), put (Carried k (length before + 1) message))

  -- what the entries of a record put on a link, where others stand before them
  link-put : (before entries : List Entry) → IsLawfulRecord (length parties) (before ++ entries)
      → ArePut parties (before ++ entries) from to (next_turn before from) (link_items_after parties before entries from to)
  unfolding gained
  link-put before [] lawful = tt
  link-put before (entry ∷ entries) lawful =
      let fits = lawful.fits (length before) entry (slice_get-behind before entry entries) in
      let front = take-append_seam before (entry ∷ entries) in
      grind (arith, nat_tests, routed_count-push, put-weaker, own-put before, append_assoc, link-put (before ++ entry ∷ []) entries)

-- so what was applied over a link was put there
pub log-put : (st : State) (from to : ℕ) → IsLawful st → from < length st.hub.parties → to < length st.hub.parties → ArePut st.hub.parties st.hub.entries from to 2 (items_from (log_of st to) from)
unfolding link_items
log-put st from to lawful from_is_party to_is_party =
    let applied = (lawful.of_party to to_is_party).applied from from_is_party in
    put-front st.hub.parties st.hub.entries from to 2 (items_from (log_of st to) from) applied.0 (rw applied.1 (link-put st.hub.parties from to [] st.hub.entries lawful.of_record))

-- and each entry of a log was put on the link from its sender, not before the turn of the first
pub entry-put : (parties : List (List (List ℕ))) (entries : List Entry) (to least : ℕ) (log : List LogEntry) (place : ℕ) (entry : LogEntry) → slice_get log place ≡ Some entry
    → ArePut parties entries entry.sender to least (items_from log entry.sender) → (least ≤ turn entry.item) × IsPut parties entries entry.sender to entry.item
entry-put parties entries to least [] place entry at put = absurd (cc)
entry-put parties entries to least (first ∷ log) zero entry at put = grind arith
entry-put parties entries to least (first ∷ log) (suc place) entry at put =
    grind (arith, entry-put parties entries to least log place entry at, put-weaker)

-- so was each entry of the log of a party, whose sender is a party
pub log-entry : (st : State) (party place : ℕ) (entry : LogEntry) → IsLawful st → party < length st.hub.parties
    → slice_get (log_of st party) place ≡ Some entry → (entry.sender < length st.hub.parties)
    × ArePut st.hub.parties st.hub.entries entry.sender party 2 (items_from (log_of st party) entry.sender)
    × IsPut st.hub.parties st.hub.entries entry.sender party entry.item
log-entry st party place entry lawful is_party at =
    let put = entry-put st.hub.parties st.hub.entries party 2 (log_of st party) place entry at in
    grind (arith, common_steps, gets, (lawful.of_party party is_party).answers.from_parties, log-put st entry.sender party lawful, put)

-- the message of an entry stands under its number among those that its sender submitted
routed_as : (st : State) (from k place : ℕ) (message : Message) → IsLawful st → from < length st.hub.parties
    → slice_get st.hub.entries place ≡ Some (Routed from k message) → IsRoutedAt st from k (place + 1) message
routed_as st from k place message lawful is_party at =
    grind (arith, slice_get-append, lawful.of_record.fits place (Routed from k message) at, past st.hub.entries place (Routed from k message) at)

pub applied_submitted : (st : State) → IsLawful st → AppliedIsSubmitted st
applied_submitted st lawful party is_party place d within =
    let put = log-entry st party place _ lawful is_party (slice_get-get_or (log_of st party) place d within) in
    (put.0, grind (arith, routed_as, put.2))

-- the numbers of the items of one kind, which of each message come at the same turn, rise from one on that is not among them
kind-rises : (parties : List (List (List ℕ))) (entries : List Entry) (from to : ℕ) (P : Item → Bool) (kind : ℕ)
    → ((item : Item) → P item ≡ true → turn item ≡ number_of item + number_of item + kind) → (least first : ℕ) (items : List Item)
    → least + least + kind < first → ArePut parties entries from to first items → IsStrictlyIncreasing (least ∷ map number_of (filter P items))
kind-rises parties entries from to P kind turns least first [] le put k within = absurd (omega arith)
kind-rises parties entries from to P kind turns least first (item ∷ items) le put k within =
    let rest = put-weaker parties entries from to first (turn item + 1) items (omega (arith, put.0)) put.2 in
    let others = kind-rises parties entries from to P kind turns least first items le rest in
    let later = kind-rises parties entries from to P kind turns (number_of item) (turn item + 1) items in
    grind (arith, turns item, others k, later, k - 1)

pub numbers_rise : (st : State) → IsLawful st → NumbersRise st
numbers_rise st lawful from to from_is_party to_is_party =
    let rise = λ (P : Item → Bool) (kind : ℕ). kind-rises st.hub.parties st.hub.entries from to P kind in
    let put = log-put st from to lawful from_is_party to_is_party in (
      λ k within. grind (arith, rise is_carried 1 (λ item. grind arith) 0 2 _ (omega arith) put (suc k)),
      λ k within. grind (arith, rise (λ item. not (is_carried item)) 0 (λ item. grind arith) 0 2 _ (omega arith) put (suc k)),
    )

-- two entries of one sender and one turn stand at one place
same-place : (parties : List (List (List ℕ))) (entries : List Entry) (to least : ℕ) (log : List LogEntry) (i j : ℕ) (one other : LogEntry)
    → slice_get log i ≡ Some one → slice_get log j ≡ Some other → one.sender ≡ other.sender → turn one.item ≡ turn other.item
    → ArePut parties entries one.sender to least (items_from log one.sender) → i ≡ j
same-place parties entries to least [] i j one other first second sender same put = absurd (cc)
same-place parties entries to least (entry ∷ log) i j one other first second sender same put =
    grind (arith, gets, entry-put parties entries to (turn entry.item + 1) log, put-weaker, same-place parties entries to least log)

pub stamps_distinct : (st : State) → IsLawful st → StampsAreDistinct st
stamps_distinct st lawful party is_party =
    distinct-stamps (log_of st party) (λ first second stamp a b.
    option_and_then_some (λ (entry : LogEntry). stamp_in entry.item) (slice_get (log_of st party) first) stamp a (λ one at_one in_one.
    option_and_then_some (λ (entry : LogEntry). stamp_in entry.item) (slice_get (log_of st party) second) stamp b (λ other at_other in_other.
    let here = log-entry st party first one lawful is_party at_one in
    let there = log-entry st party second other lawful is_party at_other in
    grind (arith, here, there, same-place st.hub.parties st.hub.entries party 2 (log_of st party) first second one other at_one at_other))))

pub repositories_agree : (st : State) → IsLawful st → RepositoriesAgree st
repositories_agree st lawful pack one other one_is_party other_is_party same = search (same_about, stamps_distinct)
