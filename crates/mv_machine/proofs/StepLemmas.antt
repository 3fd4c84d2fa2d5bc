-- What a step changes, and what it has seen to before. So each step and each run keeps a state well formed and lawful, and its limits.
use Rattle.mv_machine.proofs.Words.{Allows, Apply, Bool, Close, InSteps, IsTrue, Item, List, Meets, Message, None, Option, Query, Relay, Repeat, Reply, Route, Runs, Some, State, Step, Submit, Verify, [], answer_number, answer_to, answers_in, applied_count, apply_fault, arith, ask_fault, entry_from, false, is_open, is_uplink_full, items_on, length, log_of, nat_tests, next-number, no_answer, reach, route_fault, routed_count, sent_of, site_of, slice_get, submissions_of, submit-free, subst, sym, true, wire_of, with_applied, with_closed, with_relayed, with_routed, with_site, with_submission, with_wire, ℕ, ◌++◌, ◌+◌, ◌<◌, ◌∷◌, ◌≡◌, ◌≤◌, Bounds, Closed, Entry, Fits, IsLawful, IsLawfulAt, IsLawfulRecord, IsPrefix, IsWellFormed, SiteState, append-nil, common_steps, elements, eqb, gets, get_or-map-range_with_len, items_from, items_from-push, length-map, length-range_with_len, link_items-push, new_hub, new_site, next_entry, opened_site, opening, party-applied, party-submitted, put-each, refl, routed_from, routed_from-append, square-put, square-replicate, All-tail, InRuns, busy_party, find-none_at, gained, gained_other, get_or-replicate, is_busy, is_party, link_items, put-each_pair, ◌-◌}
use Rattle.mv_link.specs.declared.incoming.Look.TheVariants as look
use Rattle.mv_machine.specs.Words.{Applied, Asked, Closed, Gap, Lost, Old, PackKey, Relayed, Repeated, Routed, Submitted}
use Rattle.mv_machine.specs.Replies.{changes_nothing}
use Rattle.mv_repository.specs.Pack.{effect_of}
use Rattle.mv_machine.specs.Steps.{ask, outcome}
use Rattle.mv_machine.proofs.PutLemmas.{prefix-grows, prefix-maybe, prefix-nil, routed_count-push}
use Rattle.mv_machine.specs.Bounded.{IsLinkWithin, KeepsLimits}

-- the item that a repository is to apply next from a sender
abbrev pub next_item : State → ℕ → ℕ → Option Item
next_item st from to = slice_get (items_on st.hub from to) (applied_count st from to)

-- a frame is dropped or lost
abbrev pub drops : Reply → Bool
drops (Old number) = true
drops (Gap number expected) = true
drops (Lost number) = true
drops reply = false

-- What a step leaves by its reply: the state as it was, or with one change, of which it says what was seen to before. A query that is asked
-- counts as its party's verification.
pub data Change (st : State) : Step → Reply → State → Type 0 where
  nothing : (step : Step) (reply : Reply) → IsTrue (changes_nothing reply) → Change st step reply st
  submitted : (from : ℕ) (message : Message) → from < length st.hub.parties → answers_in (message ∷ []) ≡ [] → ask_fault (is_uplink_full st from) (site_of st from) ≡ None
      → Change st (Submit from message) (Submitted (length (submissions_of st from) + 1)) (with_site st from (with_submission (site_of st from) message))
  asked : (party : ℕ) (key : PackKey) → party < length st.hub.parties → ask_fault (is_uplink_full st party) (site_of st party) ≡ None
      → Change st (Verify party key) (Asked (length (submissions_of st party) + 1)) (with_site st party (with_submission (site_of st party) (Query key)))
  routed : (from : ℕ) (message : Message) → from < length st.hub.parties → slice_get (submissions_of st from) (routed_count st.hub.entries from) ≡ Some message
      → route_fault st.hub from message ≡ None
      → Change st (Route from) (Routed (routed_count st.hub.entries from + 1) (reach st.hub.parties st.hub.entries from message)) (record st { hub = with_routed st.hub from message })
  closed : (from to : ℕ) → from < length st.hub.parties → to < length st.hub.parties → is_open st.hub.entries from to ≡ true
      → Change st (Close from to) Closed (record st { hub = with_closed st.hub from to })
  relayed : (from to : ℕ) → from < length st.hub.parties → to < length st.hub.parties → length (wire_of st from to) < st.limits.wire
      → (sent_of st.hub from to ≡ length (items_on st.hub from to) → ⊥)
      → Change st (Relay from to) (Relayed (sent_of st.hub from to + 1))
      (with_wire (record st { hub = with_relayed st.hub from to }) from to (wire_of st from to ++ (sent_of st.hub from to + 1) ∷ []))
  repeated : (from to number : ℕ) → length (wire_of st from to) < st.limits.wire → 1 ≤ number → number ≤ sent_of st.hub from to
      → Change st (Repeat from to number) (Repeated number) (with_wire st from to (wire_of st from to ++ number ∷ []))
  dropped : (step : Step) (reply : Reply) (from to number : ℕ) (rest : List ℕ) → IsTrue (drops reply) → wire_of st from to ≡ number ∷ rest
      → Change st step reply (with_wire st from to rest)
  applied : (from to number : ℕ) (rest : List ℕ) (item : Item) → from < length st.hub.parties → to < length st.hub.parties → wire_of st from to ≡ number ∷ rest
      → next_item st from to ≡ Some item → apply_fault (is_uplink_full st to) (site_of st to) from item look.Next ≡ None
      → Change st (Apply from to)
      (Applied number (effect_of (log_of st to) (entry_from from item)) (answer_number (submissions_of st to) (answer_to (log_of st to) (entry_from from item))))
      (with_wire (with_site st to (with_applied (site_of st to) from item)) from to rest)

-- so it is of an outcome
abbrev Changes : State → Step → Reply × State → Type 0
Changes st step done = Change st step done.0 done.1

module _ (st : State) where
  ask-changes : (party : ℕ) (key : PackKey) → Changes st (Verify party key) (ask st party key)
  unfolding ask
  ask-changes party key = grind (arith, nat_tests, nothing, asked)

  outcome-changes : (step : Step) → Changes st step (outcome st step)
  unfolding outcome
  outcome-changes (Submit from message) = grind (arith, nat_tests, nothing, submitted, no_answer, submit-free (is_uplink_full st from) (site_of st from) message)
  outcome-changes (Verify party key) = grind (arith, nat_tests, nothing, ask-changes party key)
  outcome-changes step = grind (arith, nat_tests, nothing, routed, relayed, applied, repeated, closed, dropped, next-number)

  -- and so where the outcome is met: want of memory changes nothing
  pub step-changes : (step : Step) (reply : Reply) (new : State) → Allows st step reply new → Change st step reply new
  unfolding Allows Meets
  step-changes step reply new allowed = grind (arith, nothing, outcome-changes step)

  pub asked-changes : (party : ℕ) (key : PackKey) (reply : Reply) (new : State) → Meets st (ask st party key) reply new → Change st (Verify party key) reply new
  unfolding Meets
  asked-changes party key reply new met = grind (arith, nothing, ask-changes party key)

-- where the reply says that nothing has changed, nothing has
pub refusals_change_nothing : InSteps (λ old reply new. IsTrue (changes_nothing reply) → new ≡ old)
refusals_change_nothing = grind (arith, step-changes, asked-changes)

-- what every change keeps, every run keeps
pub run-keeps : (P : State → Type 0) → ((old new : State) (step : Step) (reply : Reply) → Change old step reply new → P old → P new)
    → (old : State) (steps : List Step) (replies : List Reply) (new : State) → Runs old steps replies new → P old → P new
run-keeps P keeps old [] [] new run here = subst P (sym run) here
run-keeps P keeps old (step ∷ steps) (reply ∷ replies) new run here =
    run-keeps P keeps run.0 steps replies new run.2 (keeps old run.0 step reply (step-changes old step reply run.0 run.1) here)
run-keeps P keeps old steps replies new run here = absurd run

-- well formed and lawful
pub record IsSound (st : State) : Type 0 where
  pub well_formed : IsWellFormed st
  pub lawful : IsLawful st

with_wire-sound : (st : State) (from to : ℕ) (numbers : List ℕ) → IsSound st → IsSound (with_wire st from to numbers)
with_wire-sound st from to numbers sound = search square-put

-- one party's part is another, of the same party, which is lawful
site-sound : (st : State) (party : ℕ) (site : SiteState) → IsSound st
    → (party < length st.hub.parties → opened_site site ≡ new_site party (length st.hub.parties) st.limits.submissions)
    → (party < length st.hub.parties → IsLawfulAt st.hub party site) → IsSound (with_site st party site)
site-sound st party site sound same lawful =
    let of_party = put-each (λ party site. party < length st.hub.parties → IsLawfulAt st.hub party site)
    st.sites party site (new_site 0 0 0) lawful sound.lawful.of_party in
    grind (arith, common_steps, of_party)

-- a party submitted one more message
submitted-sound : (st : State) (from : ℕ) (message : Message) → IsSound st → answers_in (message ∷ []) ≡ []
    → IsSound (with_site st from (with_submission (site_of st from) message))
submitted-sound st from message sound none = grind (arith, elements, site-sound, party-submitted, routed, prefix-grows)

-- a repository applied the next item of a sender, and its party submitted the answer that it calls for
applied-sound : (st : State) (from to : ℕ) (item : Item) → IsSound st → from < length st.hub.parties
    → next_item st from to ≡ Some item → IsSound (with_site st to (with_applied (site_of st to) from item))
applied-sound st from to item sound from_is_party next =
    site-sound st to (with_applied (site_of st to) from item) sound (sound.well_formed.sites to) (λ is_party.
    let was = sound.lawful.of_party to is_party in record {
      answers = party-applied (length st.hub.parties) (submissions_of st to) (log_of st to) (entry_from from item) was.answers from_is_party;
      routed = prefix-grows _ _ _ was.routed;
      applied = λ sender is_sender. rw (items_from-push (log_of st to) (entry_from from item) sender)
          (prefix-maybe (items_from (log_of st to) sender) _ (eqb from sender) item (was.applied sender is_sender)
          (λ same. grind (arith, nat_tests)));
    })

-- one more entry of a record that fits
pub record-entered : (count : ℕ) (entries : List Entry) (entry : Entry) → IsLawfulRecord count entries → Fits count entries entry
    → IsLawfulRecord count (entries ++ entry ∷ [])
record-entered count entries entry lawful fits = record { fits = λ place x at. grind (arith, common_steps, gets, lawful.fits place x) }

-- the record gained an entry: what was routed stays a prefix where the entry's own message is the next of its sender
entered-sound : (st : State) (entry : Entry) → IsSound st → Fits (length st.hub.parties) st.hub.entries entry
    → ((party : ℕ) → party < length st.hub.parties → IsPrefix (routed_from st.hub.entries party ++ routed_from (entry ∷ []) party) (submissions_of st party))
    → IsSound (record st { hub = record st.hub { entries = st.hub.entries ++ entry ∷ [] } })
entered-sound st entry sound fits order =
    let of_party : (party : ℕ) → party < length st.hub.parties
    → IsLawfulAt (record st.hub { entries = st.hub.entries ++ entry ∷ [] }) party (site_of st party) =
    λ party is_party. let was = sound.lawful.of_party party is_party in record {
      answers = was.answers;
      routed = rw (routed_from-append st.hub.entries (entry ∷ []) party) (order party is_party);
      applied = λ from is_sender. rw link_items-push (prefix-grows _ _ _ (was.applied from is_sender));
    } in
    assumption (record-entered (length st.hub.parties) st.hub.entries entry sound.lawful.of_record fits, of_party, sound)

-- whatever a step changes
pub change-sound : (old new : State) (step : Step) (reply : Reply) → Change old step reply new → IsSound old → IsSound new
change-sound st _ _ _ (submitted from message is_party none free) sound = submitted-sound st from message sound none
change-sound st _ _ _ (asked party key is_party free) sound = submitted-sound st party (Query key) sound refl
change-sound st _ _ _ (routed from message is_party next free) sound =
    entered-sound st (next_entry st.hub from message) sound (is_party, refl)
    (λ party here. grind (arith, nat_tests, prefix-maybe, sound.lawful.of_party party here))
change-sound st _ _ _ (closed from to from_is_party to_is_party still_open) sound =
    entered-sound st (Closed from to) sound (from_is_party, to_is_party, still_open)
    (λ party here. rw append-nil (sound.lawful.of_party party here).routed)
change-sound st _ _ _ (relayed from to from_is_party to_is_party room some) sound =
    let of_party : (party : ℕ) → party < length st.hub.parties → IsLawfulAt (with_relayed st.hub from to) party (site_of st party) =
    λ party is_party. assumption (sound.lawful.of_party party is_party) in
    search (with_wire-sound, square-put)
change-sound st _ _ _ (applied from to number rest item is_party to_is_party front next free) sound = with_wire-sound _ from to rest (applied-sound st from to item sound is_party next)
change-sound old new step reply change sound = search with_wire-sound

-- a party of the opening
pub opening-site : (parties : List (List (List ℕ))) (limits : Bounds) (party : ℕ) → party < length parties
    → site_of (opening parties limits) party ≡ new_site party (length parties) limits.submissions
opening-site parties limits party is_party = grind (arith, get_or-map-range_with_len)

-- where a system opens, it is sound
pub opening-sound : (parties : List (List (List ℕ))) (limits : Bounds) → IsSound (opening parties limits)
opening-sound parties limits =
    let of_party : (party : ℕ) → party < length parties → IsLawfulAt (new_hub parties limits.window) party (site_of (opening parties limits) party) =
    λ party is_party. rw (opening-site parties limits party is_party) (search prefix-nil) in
    grind (arith, opening-site, length-map, length-range_with_len, square-replicate {A = List ℕ} (length parties) [], square-replicate {A = ℕ} (length parties) 0)

-- a run and one more step
pub runs-push : (old : State) (steps : List Step) (replies : List Reply) (between : State) (step : Step) (reply : Reply) (new : State)
    → Runs old steps replies between → Allows between step reply new → Runs old (steps ++ step ∷ []) (replies ++ reply ∷ []) new
runs-push old (x ∷ steps) (y ∷ replies) between step reply new run allowed = (run.0, run.1, runs-push run.0 steps replies between step reply new run.2 allowed)
runs-push old steps replies between step reply new run allowed = grind arith

-- a party that may submitted one more message
submitted-keeps : (st : State) (from : ℕ) (message : Message) → IsSound st → KeepsLimits st
    → ask_fault (is_uplink_full st from) (site_of st from) ≡ None → KeepsLimits (with_site st from (with_submission (site_of st from) message))
submitted-keeps st from message sound k free = grind (arith, elements)

-- other frames are under way on a link
wired-keeps : (st : State) (from to : ℕ) (numbers : List ℕ) → KeepsLimits st
    → (from < length st.hub.parties → to < length st.hub.parties → IsLinkWithin st.limits (items_on st.hub from to) (sent_of st.hub from to) numbers)
    → KeepsLimits (with_wire st from to numbers)
wired-keeps st from to numbers k within =
    let links = put-each_pair (λ i j wire. i < length st.hub.parties → j < length st.hub.parties
    → IsLinkWithin st.limits (items_on st.hub i j) (sent_of st.hub i j) wire) st.wires from to numbers [] within k.links in
    assumption (links, k)

-- the front of a wire is gone
dropped-keeps : (st : State) (from to number : ℕ) (rest : List ℕ) → KeepsLimits st → wire_of st from to ≡ number ∷ rest → KeepsLimits (with_wire st from to rest)
dropped-keeps st from to number rest k front =
    wired-keeps st from to rest k (λ a b. let was = rw front at (k.links from to a b) in search (arith, All-tail))

-- the record gained an entry, where each link has room for what this puts on it
entered-keeps : (st : State) (entry : Entry) → KeepsLimits st
    → ((from to : ℕ) → from < length st.hub.parties → to < length st.hub.parties
    → length (items_on st.hub from to) - sent_of st.hub from to + length (gained st.hub.parties st.hub.entries entry from to) ≤ st.limits.window)
    → KeepsLimits (record st { hub = record st.hub { entries = st.hub.entries ++ entry ∷ [] } })
entered-keeps st entry k room = grind (arith, elements, submitted, routed_count-push, link_items-push, relayed)

-- what a routed message puts on the links from its sender fits, since none of them is busy, and it puts nothing on others
routed-room : (st : State) (from : ℕ) (message : Message) → st.hub.window ≡ st.limits.window → KeepsLimits st → route_fault st.hub from message ≡ None
    → (sender to : ℕ) → sender < length st.hub.parties → to < length st.hub.parties
    → length (items_on st.hub sender to) - sent_of st.hub sender to + length (gained st.hub.parties st.hub.entries (next_entry st.hub from message) sender to) ≤ st.limits.window
unfolding is_busy route_fault busy_party
routed-room st from message window k free sender to a b =
    grind (arith, window, k.links sender to a b, find-none_at (is_busy st.hub from message) to (length st.hub.parties) b, gained_other)

-- whatever a step changes
pub change-keeps : (old new : State) (step : Step) (reply : Reply) → Change old step reply new → IsSound old → KeepsLimits old → KeepsLimits new
unfolding gained
change-keeps st _ _ _ (submitted from message is_party none free) sound k = submitted-keeps st from message sound k free
change-keeps st _ _ _ (asked party key is_party free) sound k = submitted-keeps st party (Query key) sound k free
change-keeps st _ _ _ (routed from message is_party next free) sound k = entered-keeps st _ k (routed-room st from message sound.well_formed.window k free)
change-keeps st _ _ _ (closed from to from_is_party to_is_party still_open) sound k = grind (arith, entered-keeps)
change-keeps st _ _ _ (relayed from to from_is_party to_is_party room some) sound k = grind (arith, elements)
change-keeps st _ _ _ (repeated from to number room least most) sound k =
    wired-keeps st from to _ k (λ a b. grind (arith, elements, k.links from to a b))
change-keeps st _ _ _ (applied from to number rest item sender_is_party is_party front next free) sound k =
    dropped-keeps _ from to number rest (grind (arith, append-nil, elements)) front
change-keeps st _ _ _ (dropped step reply from to number rest drops front) sound k = dropped-keeps st from to number rest k front
change-keeps old new step reply change sound k = k

pub opening-keeps : (parties : List (List (List ℕ))) (limits : Bounds) → KeepsLimits (opening parties limits)
unfolding link_items
opening-keeps parties limits = grind (arith, opening-site, get_or-replicate)

-- every run from an opening
pub runs_kept : InRuns (λ st. IsSound st × KeepsLimits st)
runs_kept parties limits steps replies new run =
    run-keeps (λ (st : State). IsSound st × KeepsLimits st) (λ old between step reply change both. search (change-sound, change-keeps)) _ steps replies new run
    (search (opening-sound, opening-keeps))
