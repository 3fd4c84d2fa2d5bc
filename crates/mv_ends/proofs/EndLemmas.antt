-- What the ends keep while their lists grow.
use Rattle.mv_ends.proofs.Words.{All, AreOfLinks, AreWithin, Entry, Frame, Memory, Some, refl, HubEnd, HubState, IsFrameOf, IsFront, IsLawfulRecord, IsOpened, IsUnchanged, Item, List, Message, None, Refused, Routes, TookAll, [], append-nil, arith, cell, close_fault, get_or-set_other, get_or-set_same, is_open, items_on, length, length-append, nat_tests, put-each_pair, record-entered, route_fault, route_refusal_of, routed_count, square-put, slice_get-append, stamps_suffice, true, with_frame, with_item, ℕ, ◌++◌, ◌+◌, ◌<◌, ◌∷◌, ◌≡◌, ◌≤◌}
use Rattle.std.proofs.lemmas.List.Elements.{All-push}
use Rattle.mv_link.specs.declared.limits.TheConstants.{PARTIES_LIMIT, NUMBER_LIMIT}
use Rattle.mv_party.specs.declared.limits.TheConstants.{SUBMISSIONS_LIMIT}
use Rattle.mv_hub.specs.declared.entry.Entry.TheVariants.{Routed}
use Rattle.mv_hub.specs.declared.fault.RouteFault.{RouteFault}
use Rattle.mv_hub.proofs.CallerLemmas.{routed_from-append, link_items-push}

-- one more entry leaves the frames of a link frames of it
frames-grow : (items more : List Item) (frames : List Frame) → All (IsFrameOf items) frames → All (IsFrameOf (items ++ more)) frames
frames-grow items more frames all place absent below = grind (arith, nat_tests, slice_get-append, all place absent below)

-- the frames that were put stay those of their links when the record gains an entry
pub of_links_entered : (hub : HubState) (entry : Entry) (put : List (List (List Frame))) → AreOfLinks hub put → AreOfLinks (record hub { entries = hub.entries ++ entry ∷ [] }) put
of_links_entered hub entry put all from to = grind (arith, nat_tests, frames-grow, link_items-push)

-- the rings of all links stay so many
pub ruleset square = (square-put)

-- a frame of a link was put on its ring
pub of_links_put : (hub : HubState) (put : List (List (List Frame))) (sender receiver : ℕ) (frame : Frame)
    → IsFrameOf (items_on hub sender receiver) frame → AreOfLinks hub put → AreOfLinks hub (with_frame put sender receiver frame)
of_links_put hub put sender receiver frame one all from to =
    put-each_pair (λ to from frames. All (IsFrameOf (items_on hub from to)) frames) put receiver sender (cell put receiver sender [] ++ frame ∷ []) []
    (All-push (IsFrameOf (items_on hub sender receiver)) (cell put receiver sender []) frame (all sender receiver) one) (λ to from. all from to) to from

-- the message that was taken is the one that was routed
pub took_routed : (count : ℕ) (entries : List Entry) (sender k : ℕ) (message : Message) (taken : List (List Message)) → sender < length taken
    → TookAll count entries taken → TookAll count (entries ++ Routed sender k message ∷ []) (with_item taken sender message)
took_routed count entries sender k message taken there took from below =
    grind (arith, nat_tests, append-nil, get_or-set_other, get_or-set_same, routed_from-append)

-- one more message of a party that may submit more
pub within_routed : (most : ℕ) (hub : HubState) (sender k : ℕ) (message : Message) → routed_count hub.entries sender < most → AreWithin most hub
    → AreWithin most (record hub { entries = hub.entries ++ Routed sender k message ∷ [] })
within_routed most hub sender k message less within from in_range = grind (arith, nat_tests, length-append, routed_from-append)

-- a record of so few parties and submissions has room for more
pub room_left : (count most : ℕ) (hub : HubState) → count ≡ length hub.parties → IsLawfulRecord (length hub.parties) hub.entries → length hub.parties ≤ PARTIES_LIMIT → most ≤ SUBMISSIONS_LIMIT → AreWithin most hub → length hub.entries < NUMBER_LIMIT
room_left count most hub each lawful few bounded within = grind (arith, nat_tests, stamps_suffice)

-- the record stays lawful with the next message of a party
pub lawful_routed : (hub : HubState) (sender : ℕ) (message : Message) → sender < length hub.parties → IsLawfulRecord (length hub.parties) hub.entries
    → IsLawfulRecord (length hub.parties) (hub.entries ++ Routed sender (routed_count hub.entries sender + 1) message ∷ [])
lawful_routed hub sender message in_range lawful = grind (arith, nat_tests, record-entered)

-- where the hub does not route a message of a party, the refusal is its fault's
pub route_refused : (old new : HubEnd) (from : ℕ) (message : Message) (fault : RouteFault) → from < length old.hub.parties → IsUnchanged old new
    → routed_count old.hub.entries from < old.limits.submissions → IsFront new.uplinks from message
    → route_fault old.hub from message ≡ Some fault → Routes from old new (Refused (route_refusal_of fault))
unfolding route_fault
route_refused old new from message fault party unchanged below front is = grind (arith, nat_tests)

-- what a closing keeps
pub ruleset closing = (nat_tests, append-nil, routed_from-append, record-entered, of_links_entered)
