use Rattle.mv_workers.proofs.Words.{◌≡◌, ◌<◌, ℕ, [], get_or, answers_in, lists_of}
use Rattle.mv_workers.proofs.work.Work.has_no_answer.Given as goal

abbrev pub invariant-loop-party : goal.invariant-loop-party
invariant-loop-party l = (party : ℕ) → party < l.party → answers_in (get_or (lists_of l.self-inside.lists.items) party []) ≡ []
