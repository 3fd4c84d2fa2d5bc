-- What each step answers and leaves where there is memory: a row for each kind of step, its refusals in their order.
use Rattle.std.specs.Prelude.{◌+◌, ◌-◌, ℕ, List, [], ◌∷◌, ◌++◌, length, Bool, not, if◌then◌else◌, slice_get, Option, Some, None}
use Rattle.std.specs.Option.{option_map_or}
use Rattle.mv_machine.specs.Words.{Applied, Asked, Closed, Gap, Item, JointVerdict, Known, Lost, Message, Old, PackKey, Party, Refusal, Refused, Relayed, Repeated, Reply, Routed, Step, Submitted, UplinkEmpty, WireEmpty, WireFull, answer_number, are_parties, close_fault, entry_from, items_on, reach, relay_fault, repeat_fault, route_fault, routed_count, sent_of, with_applied, with_closed, with_relayed, with_routed, with_submission}
use Rattle.mv_message.specs.declared.message.Message.TheVariants.{Query}
use Rattle.mv_link.specs.declared.incoming.Look.{Look}
use Rattle.mv_link.specs.declared.incoming.Look.TheVariants as look
use Rattle.mv_repository.specs.declared.verdict.Local.{Local}
use Rattle.mv_repository.specs.declared.verdict.Local.TheVariants.{Known as KnownPack, Absent}
use Rattle.mv_repository.specs.Pack.{effect_of}
use Rattle.mv_repository.specs.Verdict.{answer_to, local_verdict, joint_verdict}
use Rattle.mv_link.specs.Receiving.{look_at}
use Rattle.mv_party.specs.Calls.{ask_fault, submit_fault, apply_fault}
use Rattle.mv_machine.specs.declared.step.Step.TheVariants.{Submit, Verify, Route, Relay, Apply, Repeat, Close, Lose, Verdict}
use Rattle.mv_machine.specs.Replies.{refusal_of, hub_refusal_of, route_refusal_of}
use Rattle.mv_machine.specs.State.{State, is_party, submissions_of, is_uplink_full, wire_of, is_wire_full, log_of, applied_count, site_of, with_site, with_wire}

-- a refused step changes nothing
abbrev pub refused : Refusal → State → Reply × State
refused refusal st = (Refused refusal, st)

-- a step is for parties: it is refused where there are none of these numbers
abbrev pub for_parties : Bool → State → Reply × State → Reply × State
for_parties exist st answered = if not exist then refused Party st else answered

-- what a part of the system answers and leaves, unless it refuses that for a fault, which has this refusal
abbrev pub unless : {F : Type 0} → (F → Refusal) → Option F → State → Reply → State → Reply × State
unless refusal fault st reply new = option_map_or (λ it. refused (refusal it) st) fault (reply, new)

-- a party asks the other repositories about a pack: the query is the last of its submissions
unfoldable pub ask : State → ℕ → PackKey → Reply × State
ask st party key = for_parties (is_party st party) st
    (unless refusal_of (ask_fault (is_uplink_full st party) (site_of st party)) st
    (Asked (length (submissions_of st party) + 1)) (with_site st party (with_submission (site_of st party) (Query key))))

-- a party verifies a pack, on which its own repository has this verdict: where it has none, the others are asked
abbrev pub verify_by : State → ℕ → PackKey → Local → Reply × State
verify_by st party key (KnownPack verdict) = (Known verdict, st)
verify_by st party key Absent = ask st party key

-- the hub routes the front of an uplink, where there is one
abbrev pub route_front : State → ℕ → Option Message → Reply × State
route_front st from None = refused UplinkEmpty st
route_front st from (Some message) = unless route_refusal_of (route_fault st.hub from message) st
    (Routed (routed_count st.hub.entries from + 1) (reach st.hub.parties st.hub.entries from message)) (record st { hub = with_routed st.hub from message })

-- a repository applies the member of the link that the next frame bears, and its party submits the answer that this calls for, if
-- it does: both, or neither. A link always has that member; a frame of no member would be dropped, as one behind a gap is
abbrev pub apply_next : State → ℕ → ℕ → ℕ → List ℕ → Option Item → Reply × State
apply_next st from to number rest (Some item) = unless refusal_of (apply_fault (is_uplink_full st to) (site_of st to) from item look.Next) st
    (Applied number (effect_of (log_of st to) (entry_from from item)) (answer_number (submissions_of st to) (answer_to (log_of st to) (entry_from from item))))
    (with_wire (with_site st to (with_applied (site_of st to) from item)) from to rest)
apply_next st from to number rest None = (Gap number number, with_wire st from to rest)

-- a frame is taken that stands so: it is old, it is behind a gap, or it is the next
abbrev pub apply_by : State → ℕ → ℕ → ℕ → List ℕ → Look → Reply × State
apply_by st from to number rest look.Old = (Old number, with_wire st from to rest)
apply_by st from to number rest (look.Gap expected) = (Gap number expected, with_wire st from to rest)
apply_by st from to number rest look.Next = apply_next st from to number rest (slice_get (items_on st.hub from to) (number - 1))

-- what comes of the frame in front of a wire, by its number and those behind it; an empty wire is refused
abbrev pub by_front : State → List ℕ → (ℕ → List ℕ → Reply × State) → Reply × State
by_front st [] taken = refused WireEmpty st
by_front st (number ∷ rest) taken = taken number rest

-- What a step answers and leaves where there is memory, by its kind.
-- Submit: a party submits a message, which is the last of its submissions. Queries and answers are submitted by the system itself.
-- Verify: a party verifies a pack.
-- Route: the hub routes the next message of a party.
-- Relay: the next frame of a link goes on its wire.
-- Apply: a repository takes the front frame of a link.
-- Repeat: a frame that was relayed, and whose item its link still keeps, goes on the wire again.
-- Close: a link is closed, which goes into the record.
-- Lose: the front frame of a link is lost.
-- Verdict: a party takes the verdict on a query of its own.
unfoldable pub outcome : State → Step → Reply × State
outcome st (Submit from message) = for_parties (is_party st from) st
    (unless refusal_of (submit_fault (is_uplink_full st from) (site_of st from) message) st
    (Submitted (length (submissions_of st from) + 1)) (with_site st from (with_submission (site_of st from) message)))
outcome st (Verify party key) = for_parties (is_party st party) st (verify_by st party key (local_verdict key (log_of st party)))
outcome st (Route from) =
    for_parties (is_party st from) st (route_front st from (slice_get (submissions_of st from) (routed_count st.hub.entries from)))
outcome st (Relay from to) = for_parties (are_parties st.hub from to) st
    (if is_wire_full st from to then refused WireFull st
    else unless hub_refusal_of (relay_fault st.hub from to) st (Relayed (sent_of st.hub from to + 1))
    (with_wire (record st { hub = with_relayed st.hub from to }) from to (wire_of st from to ++ (sent_of st.hub from to + 1) ∷ [])))
outcome st (Apply from to) = for_parties (are_parties st.hub from to) st
    (by_front st (wire_of st from to) (λ number rest. apply_by st from to number rest (look_at (applied_count st from to) number)))
outcome st (Repeat from to number) = for_parties (are_parties st.hub from to) st
    (if is_wire_full st from to then refused WireFull st
    else unless hub_refusal_of (repeat_fault st.hub from to number) st (Repeated number)
    (with_wire st from to (wire_of st from to ++ number ∷ [])))
outcome st (Close from to) = unless hub_refusal_of (close_fault st.hub from to) st Closed (record st { hub = with_closed st.hub from to })
outcome st (Lose from to) = for_parties (are_parties st.hub from to) st
    (by_front st (wire_of st from to) (λ number rest. (Lost number, with_wire st from to rest)))
outcome st (Verdict party q) = for_parties (is_party st party) st (JointVerdict (joint_verdict party (log_of st party) q), st)
