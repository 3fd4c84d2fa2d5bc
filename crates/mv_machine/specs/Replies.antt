-- The numbers by which replies name refusals, which faults of a party and of the hub they answer, and where want of memory may stand in place
-- of a reply.
use Rattle.std.specs.Prelude.{ℕ, List, codes, Bool, true, false, not}
use Rattle.mv_hub.specs.declared.fault.HubFault.{HubFault}
use Rattle.mv_hub.specs.declared.fault.HubFault.TheVariants as hub
use Rattle.mv_hub.specs.declared.fault.RouteFault.{RouteFault}
use Rattle.mv_hub.specs.declared.fault.RouteFault.TheVariants as route
use Rattle.mv_party.specs.declared.fault.SiteFault.{SiteFault}
use Rattle.mv_party.specs.declared.fault.SiteFault.TheVariants as fault
use Rattle.mv_party.specs.declared.taken.Taken.{Taken}
use Rattle.mv_party.specs.declared.taken.Taken.TheVariants as taken
use Rattle.mv_machine.specs.Words.{AlreadyClosed, AnswerBusy, Applied, Busy, Gap, Gone, Joint, Known, Lost, Memory, NotSent, NotYours, Nothing, Old, Party, Refusal, Refused, Reply, SenderFull, UplinkEmpty, UplinkFull, WireEmpty, WireFull}

-- the number of a refusal
abbrev pub code_of : Refusal → List ℕ
code_of Party = codes "S1"
code_of NotYours = codes "S2"
code_of UplinkFull = codes "S3"
code_of SenderFull = codes "S4"
code_of UplinkEmpty = codes "S5"
code_of (Busy to) = codes "S6"
code_of WireFull = codes "S7"
code_of WireEmpty = codes "S8"
code_of NotSent = codes "S9"
code_of Gone = codes "S10"
code_of Nothing = codes "S11"
code_of AlreadyClosed = codes "S12"
code_of AnswerBusy = codes "S13"
code_of Memory = codes "S14"

-- the refusal that a party's fault is answered by
abbrev pub refusal_of : SiteFault → Refusal
refusal_of fault.NotYours = NotYours
refusal_of fault.UplinkFull = UplinkFull
refusal_of fault.SenderFull = SenderFull
refusal_of fault.AnswerBusy = AnswerBusy
refusal_of fault.Memory = Memory

-- the refusal that a fault of the hub is answered by; those of making parties never come from a hub, and have no refusal of their own
abbrev pub hub_refusal_of : HubFault → Refusal
hub_refusal_of hub.StrangerParty = Party
hub_refusal_of hub.AlreadyClosed = AlreadyClosed
hub_refusal_of hub.Nothing = Nothing
hub_refusal_of hub.NotSent = NotSent
hub_refusal_of hub.Gone = Gone
hub_refusal_of _ = Memory

-- the refusal that is answered where the hub does not route a message
abbrev pub route_refusal_of : RouteFault → Refusal
route_refusal_of route.StrangerParty = Party
route_refusal_of (route.Busy to) = Busy to
route_refusal_of route.Memory = Memory

-- the reply to a frame of a number that was taken
abbrev pub reply_to : ℕ → Taken → Reply
reply_to number (taken.Applied effect answer) = Applied number effect answer
reply_to number taken.Old = Old number
reply_to number (taken.Gap expected) = Gap number expected

-- a reply behind which nothing has changed: a refusal, the verdict of the party's own repository, and that of all
abbrev pub changes_nothing : Reply → Bool
changes_nothing (Known verdict) = true
changes_nothing (Joint joint) = true
changes_nothing (Refused refusal) = true
changes_nothing _ = false

-- a reply that want of memory may stand in place of, since the step takes memory or shares a message: any but those behind which nothing has
-- changed, and those to a frame that is dropped or lost
abbrev pub takes_memory : Reply → Bool
takes_memory (Old number) = false
takes_memory (Gap number expected) = false
takes_memory (Lost number) = false
takes_memory reply = not (changes_nothing reply)
