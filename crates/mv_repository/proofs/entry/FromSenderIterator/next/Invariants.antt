use Rattle.mv_repository.proofs.Words.{◌≡◌, length, items_from}
use Rattle.mv_repository.proofs.entry.FromSenderIterator.next.Given as goal

-- the entries that were passed are of other parties
abbrev pub invariant-loop-entry : goal.invariant-loop-entry
invariant-loop-entry l =
    items_from l.initial.self-inside.entries.now l.initial.self-inside.sender ≡ items_from l.self-inside.entries.now l.self-inside.sender

abbrev pub decreases-loop-entry : goal.decreases-loop-entry
decreases-loop-entry l = length l.self-inside.entries.now
