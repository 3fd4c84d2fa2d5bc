use Rattle.mv_repository.proofs.Words.{◌≡◌, ◌↔◌, map, drop, ℕ, List, Places, SentStatus, history_at, sent_status, entry_at}
use Rattle.mv_repository.proofs.history.have_same_statuses.Given as goal

-- these statuses as they were sent
abbrev pub sent_at : Places → List ℕ → List SentStatus
sent_at places statuses = map (sent_status (history_at places)) (map (entry_at places.log.now) statuses)

-- what is left is the same where all is
abbrev pub invariant-loop-index : goal.invariant-loop-index
invariant-loop-index l =
    (sent_at l.one (drop l.index l.one.statuses.now) ≡ sent_at l.other (drop l.index l.other.statuses.now)) ↔ (sent_at l.one l.one.statuses.now ≡ sent_at l.other l.other.statuses.now)
