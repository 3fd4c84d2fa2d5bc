use Rattle.mv_format.proofs.Words.{AllocError, Ok, ℕ, List, ◌≡◌, ◌++◌, ◌∷◌, flat_map, length, begin_array, tokens_of}
use Rattle.mv_format.specs.Words.{whole}
use Rattle.mv_json.specs.Tokens.{Puts}
use Rattle.mv_link.specs.PartySets.{parties_in}
use Rattle.mv_format.proofs.to_json.ReachedToJson.write.Given as goal

-- the first parties are written
abbrev pub invariant-loop-party : goal.invariant-loop-party
invariant-loop-party l = (done : List ℕ) × (l.self ≡ done ++ parties_in l.rest)
    × Puts {E = AllocError} (Ok tt) l.fn.writer l.writer (begin_array ∷ flat_map (λ party. tokens_of (whole party)) done)

abbrev pub decreases-loop-party : goal.decreases-loop-party
decreases-loop-party l = length (parties_in l.rest)
