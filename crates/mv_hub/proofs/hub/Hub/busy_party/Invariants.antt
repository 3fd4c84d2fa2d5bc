use Rattle.mv_hub.proofs.Words.{◌≡◌, ◌<◌, ℕ, true, length, find, busy_party, has_party, is_busy, parties_in}
use Rattle.mv_hub.proofs.hub.Hub.busy_party.Given as goal

abbrev pub invariant-loop-to : goal.invariant-loop-to
invariant-loop-to l =
    (busy_party l.self l.routing.from l.routing.message.now ≡ find (is_busy l.self l.routing.from l.routing.message.now) (parties_in l.gaining))
    × ((to : ℕ) → has_party l.gaining to ≡ true → to < length l.self.parties)

abbrev pub decreases-loop-to : goal.decreases-loop-to
decreases-loop-to l = length (parties_in l.gaining)
