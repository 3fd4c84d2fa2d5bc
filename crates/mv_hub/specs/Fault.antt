-- The faults of the hub: their numbers, and what a call answers where memory may be wanting.
use Rattle.std.specs.Prelude.{◌≡◌, ℕ, List, codes, IsOk, Result, Ok, Err}
use Rattle.mv_hub.specs.Words.{HubFault, RouteFault}
use Rattle.mv_link.specs.declared.fault.LinkFault.{LinkFault}
use Rattle.mv_link.specs.declared.fault.LinkFault.TheVariants as link
use Rattle.mv_hub.specs.declared.fault.HubFault.TheVariants as hub
use Rattle.mv_hub.specs.declared.fault.RouteFault.TheVariants as route

-- the number of a fault
abbrev pub code_of : HubFault → List ℕ
code_of hub.NoParty = codes "H1"
code_of hub.TooMany = codes "H2"
code_of hub.ServedTwice = codes "H3"
code_of hub.StrangerParty = codes "H4"
code_of hub.AlreadyClosed = codes "H6"
code_of hub.Memory = codes "H7"
code_of hub.Nothing = codes "H8"
code_of hub.NotSent = codes "H9"
code_of hub.Gone = codes "H10"

-- the number of a fault of routing
abbrev pub route_code_of : RouteFault → List ℕ
route_code_of route.StrangerParty = codes "H4"
route_code_of (route.Busy to) = codes "H5"
route_code_of route.Memory = codes "H7"

-- a call answered as expected; want of memory may stand in place of a success alone
abbrev pub Gives : {A : Type 0} → Result A HubFault → Result A HubFault → Type 0
Gives (Ok value) expected = expected ≡ Ok value
Gives (Err hub.Memory) expected = IsOk expected
Gives (Err fault) expected = expected ≡ Err fault

-- the fault of a link, as the hub names it
abbrev pub of_link : LinkFault → HubFault
of_link link.Nothing = hub.Nothing
of_link link.NotSent = hub.NotSent
of_link link.Gone = hub.Gone
of_link link.Memory = hub.Memory
