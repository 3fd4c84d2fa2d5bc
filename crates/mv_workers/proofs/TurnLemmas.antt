-- What the calls of a turn leave: of what a party submitted of its own, and of which links are open.
use Rattle.mv_workers.proofs.Words.{◌≡◌, ℕ, List, [], ◌∷◌, ◌++◌, append-nil, arith, filter-append, option_to_list, nat_tests, Message, Query, Item, LogEntry, HubEnd, IsLaterHub, Relays, Routes, SameHubEnd, RepoEnd, Submits, Asks, Applies, own_among, own_of}
use Rattle.mv_hub.proofs.CallerLemmas.{is_open-append}
use Rattle.mv_pack.specs.declared.key.PackKey.{PackKey}
use Rattle.mv_repository.specs.Verdict.{answer_after}
use Rattle.mv_party.proofs.CallerLemmas.{submit-free}
use Rattle.mv_machine.specs.declared.reply.Reply.{Reply}
use Rattle.mv_machine.specs.declared.reply.Reply.TheVariants.{Submitted, Asked}

-- what an item calls for is an answer
called_for : (log : List LogEntry) (sender : ℕ) (item : Item) → own_among (option_to_list (answer_after log sender item)) ≡ []
called_for log sender item = grind (arith, nat_tests)

-- so a look for a frame leaves what the party submitted of its own
pub own_applied : (from : ℕ) (old new : RepoEnd) (reply : Reply) → Applies from old new reply → own_of new ≡ own_of old
own_applied from old new reply applies = grind (arith, nat_tests, append-nil, called_for, filter-append)

-- what was submitted is the message
pub own_submitted : (message : Message) (old new : RepoEnd) (k : ℕ) → Submits message old new (Submitted k) → own_of new ≡ own_of old ++ message ∷ []
own_submitted message old new k submits = grind (arith, nat_tests, filter-append, submit-free)

pub own_asked : (key : PackKey) (old new : RepoEnd) (q : ℕ) → Asks key old new (Asked q) → own_of new ≡ own_of old ++ Query key ∷ []
own_asked key old new q asks = grind (arith, nat_tests, filter-append)

-- the hub's end is the same now, with the same links open
pub no_later : (hub : HubEnd) → IsLaterHub hub hub
no_later hub = grind arith

-- what is later than a later one is later
pub later_still : (first old new : HubEnd) → IsLaterHub first old → IsLaterHub old new → IsLaterHub first new
later_still first old new later still = grind arith

-- no link is closed by a routing, nor by a relay
pub later_routed : (first old new : HubEnd) (from : ℕ) (reply : Reply) → IsLaterHub first old → SameHubEnd old new → Routes from old new reply → IsLaterHub first new
later_routed first old new from reply later same routes = grind (arith, nat_tests, is_open-append)

pub later_relayed : (first old new : HubEnd) (from to : ℕ) (reply : Reply) → IsLaterHub first old → SameHubEnd old new → Relays from to old new reply → IsLaterHub first new
later_relayed first old new from to reply later same relays = grind (arith, nat_tests)
