-- What each change of a part keeps, and what the list machine sees of it.
use Rattle.mv_system.proofs.Words.{routed_count, submissions_of, All, All-drop, All-push, Allows, AreBounds, AreWiresOf, Bool, Bounds, Change, Entry, Frame, HubState, IsFrameOf, IsSquare, IsSystem, IsTrue, IsWireOf, List, Message, NUMBER_LIMIT, None, Option, PARTIES_LIMIT, Reply, SiteState, Some, State, Step, WireState, [], answers_in, ap, are_parties, arith, ask_fault, cell, cell-map, change-follows, change-keeps, change-sound, drop, drop-map, false, get_or, get_or_read, headline-same, is_party, is_uplink_full, items_on, length, length-append, length-map, ltb-true, map, map-append, nat_le, nat_tests, new_hub, new_site, new_wire, numbers_of, numbers_on, opening, opening-keeps, opening-sound, option_map, put, put-map, range_with_len, routed_count-few, rules, set, set-get_or, site_of, slice_get, square-put, stamps_suffice, state_of, step-changes, submitted, table-all, wire_at, with_submission, ℕ, ◌++◌, ◌-◌, ◌<◌, ◌∙◌, ◌∷◌, ◌≡◌, ◌≤◌}
use Rattle.std.proofs.lemmas.Option.{slice_get-map, slice_get_within, get_or_from_slice_get}
use Rattle.mv_link.proofs.CallerLemmas.{of_longer}
use Rattle.mv_hub.proofs.CallerLemmas.{link_items-push}
use Rattle.circular_buffer.specs.Buffer.{buffer, keep_last}

-- the number at a place of a wire is that of the frame there
pub ruleset number_of_frame = (slice_get-map)

-- the numbers under way on a link are those of the frames on its wire
pub wires_at : (wires : List (List WireState)) (from to : ℕ) → cell (numbers_on wires) from to [] ≡ numbers_of (wire_at wires from to).items
wires_at wires from to = cell-map (λ w. numbers_of w.items) wires from to (new_wire 0)

pub wires_len_at : (wires : List (List WireState)) (from to : ℕ) → length (cell (numbers_on wires) from to []) ≡ length (wire_at wires from to).items
wires_len_at wires from to = ap length (wires_at wires from to) ∙ length-map (wire_at wires from to).items (λ f. f.number)

-- a change of the list machine leaves a system, where the wires are as they are to be
pub changed : {old new : State} {step : Step} {reply : Reply} {before after : List (List WireState)} → Change old step reply new → IsSystem old before → AreWiresOf new.limits.wire new.hub after
    → IsSystem new after
changed {old} {new} {step} {reply} change k wires = grind (arith, change-sound, change-keeps, change-follows)

-- a step is allowed, and leaves a system
abbrev pub Leaves : State → Step → Reply → Bounds → HubState → List SiteState → List (List WireState) → Type 0
Leaves st step reply limits hub sites wires = Allows st step reply (state_of limits hub sites wires) × IsSystem (state_of limits hub sites wires) wires

pub left : {old st : State} {limits : Bounds} {hub : HubState} {sites : List SiteState} {before wires : List (List WireState)} (step : Step) (reply : Reply)
    → old ≡ st → IsSystem old before → Allows old step reply (state_of limits hub sites wires) → AreWiresOf limits.wire hub wires → Leaves st step reply limits hub sites wires
left {old} step reply view k allowed are_wires =
    rw (← view) (allowed, changed (step-changes old step reply _ allowed) k are_wires)

-- the wires are those of the hub where its record has one more entry
pub wires_entered : {size : ℕ} {hub : HubState} {wires : List (List WireState)} (entry : Entry) → AreWiresOf size hub wires
    → AreWiresOf size (record hub { entries = hub.entries ++ entry ∷ [] }) wires
wires_entered {size} {hub} {wires} entry k = grind (arith, link_items-push, of_longer)

-- no more messages of a party were routed than it submitted
pub routed_few : {st : State} {wires : List (List WireState)} (party : ℕ) → IsSystem st wires → IsTrue (is_party st party)
    → routed_count st.hub.entries party ≤ length (submissions_of st party)
routed_few {st} party k is_party = routed_count-few st party k.lawful (ltb-true party (length st.hub.parties) is_party)

-- the party at a place
pub site_read : {st : State} {wires : List (List WireState)} (party : ℕ) (site : SiteState) → IsSystem st wires → IsTrue (is_party st party) → site ≡ get_or st.sites party site
    → site ≡ site_of st party
site_read {st} party site k is_party read = get_or_read st.sites party site (omega (arith, ltb-true party (length st.hub.parties) is_party, k.well_formed.sites_each)) read (new_site 0 0 0)

-- where nothing was done the headline holds
pub ruleset headline_kept = (headline-same)

-- what was read and is put back changes nothing
pub site_back : (sites : List SiteState) (party : ℕ) (site : SiteState) → site ≡ get_or sites party site → set sites party site ≡ sites
site_back sites party site read = ap (set sites party) read ∙ set-get_or sites party site

-- a party submitted a message
pub submitted_kept : {limits : Bounds} {hub : HubState} {sites : List SiteState} {wires : List (List WireState)} {st : State} (party : ℕ) (message : Message) (full : Bool) (site new : SiteState)
    → IsSystem (state_of limits hub sites wires) wires → state_of limits hub sites wires ≡ st → IsTrue (is_party st party) → full ≡ is_uplink_full st party → site ≡ get_or sites party site
    → new ≡ with_submission site message → answers_in (message ∷ []) ≡ [] → ask_fault full site ≡ None → IsSystem (state_of limits hub (set sites party new) wires) wires
submitted_kept {hub = hub} party message full site new k view there full_is read ok none free =
    let here = site_read party site k (rw (← view) at there) read in
    rw (ok, here) (changed (submitted party message (ltb-true party (length hub.parties) (rw (← view) at there)) none (rw (here, full_is, ← view) at free)) k k.are_wires)

-- one wire is written
module _ {size : ℕ} {hub : HubState} {wires : List (List WireState)} (k : AreWiresOf size hub wires) (from to : ℕ) (both : IsTrue (are_parties hub from to))
    (old : WireState) (read : (d : WireState) → cell wires from to d ≡ old) where
  old_is : IsWireOf size (items_on hub from to) old
  old_is = grind arith

  seen : cell (numbers_on wires) from to [] ≡ numbers_of old.items
  seen = wires_at wires from to ∙ ap (λ (w : WireState). numbers_of w.items) (read (new_wire 0))

  written : (new : WireState) → IsWireOf size (items_on hub from to) new → AreWiresOf size hub (put wires from to new)
  written new fits = search (rules, square-put)

  -- a frame of the link is put on it
  pub frame_pushed : (frame : Frame) (new : WireState) → new ≡ buffer (keep_last old.capacity (old.items ++ frame ∷ [])) old.capacity → IsFrameOf (items_on hub from to) frame
      → nat_le size (length (cell (numbers_on wires) from to [])) ≡ false
      → AreWiresOf size hub (put wires from to new) × (numbers_on (put wires from to new) ≡ put (numbers_on wires) from to (cell (numbers_on wires) from to [] ++ frame.number ∷ []))
  frame_pushed frame new is of room =
      let short : length old.items < old.capacity = grind (arith, nat_tests, room, ap length seen, length-map, old_is.size_is) in
      let kept : new ≡ buffer (old.items ++ frame ∷ []) old.capacity = grind (arith, length-append) in (
        written new (rw kept (record { size_is = old_is.size_is; frames = All-push (IsFrameOf (items_on hub from to)) old.items frame old_is.frames of })),
        rw (put-map (λ w. numbers_of w.items) wires from to new, kept, seen, map-append (λ f. f.number) old.items (frame ∷ [])),
      )

  -- its front is taken away
  pub front_dropped : (new : WireState) → new ≡ buffer (drop 1 old.items) old.capacity
      → AreWiresOf size hub (put wires from to new) × (numbers_on (put wires from to new) ≡ put (numbers_on wires) from to (drop 1 (cell (numbers_on wires) from to [])))
  front_dropped new is = (
    written new (rw is (record { size_is = old_is.size_is; frames = All-drop (IsFrameOf (items_on hub from to)) 1 old.items old_is.frames })),
    rw (put-map (λ w. numbers_of w.items) wires from to new, is, seen, drop-map (λ f. f.number) 1 old.items),
  )

  -- the number of the frame in front of it is that of the numbers under way, and it bears the item of its number
  pub front_is : (frame : Frame) → slice_get old.items 0 ≡ Some frame
      → (slice_get (cell (numbers_on wires) from to []) 0 ≡ Some frame.number) × (slice_get (items_on hub from to) (frame.number - 1) ≡ Some frame.item)
  front_is frame front = (grind (arith, seen, slice_get-map), grind (arith, slice_get_within, old_is, get_or_from_slice_get))

-- the record is short enough for one more entry
pub entries-short : {st : State} {wires : List (List WireState)} → IsSystem st wires → length st.hub.entries < NUMBER_LIMIT
entries-short {st} k = grind (arith, stamps_suffice, routed_count-few)

-- the state that a system opens with, whose wires are as they were made
abbrev opening_with : List (List (List ℕ)) → Bounds → List (List WireState) → State
opening_with parties limits wires =
    state_of limits (new_hub parties limits.window) (map (λ party. new_site party (length parties) limits.submissions) (range_with_len 0 (length parties))) wires

pub opened : (parties : List (List (List ℕ))) (limits : Bounds) (wires : List (List WireState)) → length parties ≤ PARTIES_LIMIT → AreBounds limits
    → IsSquare (length parties) wires → All (All (λ w. w ≡ new_wire limits.wire)) wires
    → (opening_with parties limits wires ≡ opening parties limits) × IsSystem (opening_with parties limits wires) wires
opened parties limits wires few bounds square empty =
    let none = table-all (λ w. numbers_of w.items) [] (length parties) wires square (λ k d lt j e below. ap (λ (w : WireState). numbers_of w.items) (empty k d lt j e below)) in
    grind (arith, opening-sound parties limits, opening-keeps)
