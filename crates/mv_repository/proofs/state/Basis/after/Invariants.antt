use Rattle.mv_repository.proofs.Words.{◌≡◌, fold, take, next_in}
use Rattle.mv_repository.proofs.state.Basis.after.Given as goal

-- the statuses so far are gone through
abbrev pub invariant-loop-place : goal.invariant-loop-place
invariant-loop-place l = l.last ≡ fold (next_in l.self) l.by (take l.place-index l.own)
