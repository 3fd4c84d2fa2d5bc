use Rattle.mv_engine.proofs.Words.{◌≡◌, ℕ, List, ◌++◌, length, Taken}
use Rattle.mv_engine.proofs.input.Input.take_all.Given as goal

-- the bytes so far are taken
abbrev pub invariant-loop-end : goal.invariant-loop-end
invariant-loop-end g l = (front : List ℕ) × Taken g.S.Answering.replies l.fn.self.begun.items l.fn.self.lines l.fn.answering front
    l.self.begun.items l.self.lines l.answering l.self.replies.items × (l.bytes ≡ front ++ l.rest)

abbrev pub decreases-loop-end : goal.decreases-loop-end
decreases-loop-end g l = length l.rest
