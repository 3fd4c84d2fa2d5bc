-- What a party answers to each call, and when it refuses one. Whether its uplink has room is for its caller to say.
use Rattle.std.specs.Prelude.{ℕ, ◌||◌, Bool, Option, Some, None, Result, Ok, Err, if◌then◌else◌, ⊤}
use Rattle.mv_party.specs.Words.{Item, Message, answer_to, is_query_or_answer}
use Rattle.mv_link.specs.declared.incoming.Look.{Look}
use Rattle.mv_repository.specs.Pack.{effect_of}
use Rattle.mv_party.specs.declared.fault.SiteFault.{SiteFault}
use Rattle.mv_party.specs.declared.fault.SiteFault.TheVariants.{NotYours, UplinkFull, SenderFull, AnswerBusy}
use Rattle.mv_party.specs.declared.taken.Taken.{Taken}
use Rattle.mv_party.specs.declared.taken.Taken.TheVariants.{Applied, Old, Gap}
use Rattle.mv_party.specs.Site.{SiteState, entry_from, answer_number, is_full, with_applied}
use Rattle.mv_link.specs.declared.incoming.Look.TheVariants as look

-- what a call says that only tells whether there is a fault
abbrev pub unless_fault : Option SiteFault → Result ⊤ SiteFault
unless_fault None = Ok tt
unless_fault (Some fault) = Err fault

-- why a party submits nothing now, memory aside, the first reason that holds
abbrev pub ask_fault : Bool → SiteState → Option SiteFault
ask_fault uplink_full site =
    if uplink_full then Some UplinkFull
    else (if is_full site then Some SenderFull
    else None)

-- why a party does not submit a message, memory aside, the first reason that holds
abbrev pub submit_fault : Bool → SiteState → Message → Option SiteFault
submit_fault uplink_full site message = if is_query_or_answer message then Some NotYours else ask_fault uplink_full site

-- why a party does not submit the answer that an item calls for, if it does, memory aside
abbrev pub answer_fault : Bool → SiteState → Option Message → Option SiteFault
answer_fault uplink_full site None = None
answer_fault uplink_full site (Some answer) = if uplink_full || is_full site then Some AnswerBusy else None

-- why a party does not take a frame that stands so, and bears this item, memory aside
abbrev pub apply_fault : Bool → SiteState → ℕ → Item → Look → Option SiteFault
apply_fault uplink_full site sender item look.Next = answer_fault uplink_full site (answer_to site.log (entry_from sender item))
apply_fault uplink_full site sender item stands = None

-- what it did with such a frame
abbrev pub taken_by : SiteState → ℕ → Item → Look → Taken
taken_by site sender item look.Next =
    Applied (effect_of site.log (entry_from sender item)) (answer_number site.submissions (answer_to site.log (entry_from sender item)))
taken_by site sender item look.Old = Old
taken_by site sender item (look.Gap expected) = Gap expected

-- the party once it took such a frame: only the next changes it
abbrev pub with_taken : SiteState → ℕ → Item → Look → SiteState
with_taken site sender item look.Next = with_applied site sender item
with_taken site sender item stands = site
