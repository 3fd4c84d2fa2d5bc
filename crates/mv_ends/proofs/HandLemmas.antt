-- What left a ring, and the last of it that is in hand.
use Rattle.mv_ends.proofs.Words.{◌≡◌, ◌++◌, ◌∷◌, ◌∙◌, ℕ, List, [], length, drop, ap, arith, length-append, option_to_list, None, Some, received, taken_by, take-append-drop, nat_tests, IsPrefix, append_assoc, drop-length, take-append_seam, take-length}
use Rattle.mv_ends.specs.declared.inlet.Inlet.{Inlet}
use Rattle.std.specs.Prelude.{◌-◌}

less_none : (n : ℕ) → n - 0 ≡ n
less_none n = omega arith

-- nothing is in hand
pub none_last : {T : Type 0} (xs : List T) → drop (length xs - 0) xs ≡ []
none_last xs = ap (λ n. drop n xs) (less_none (length xs)) ∙ drop-length xs

module _ {T : Type 0} where
  -- what is opened and in hand is not taken
  pub opened : (old new : Inlet T) (item : T) → old.hand ≡ None → received new.ring ≡ received old.ring ++ item ∷ [] → new.hand ≡ Some item
      → taken_by new ≡ taken_by old
  opened old new item none more one = grind (arith, nat_tests, length-append, take-append_seam (received old.ring) (item ∷ []), take-length (received old.ring))

  -- what was in hand is taken
  pub given : (old new : Inlet T) (item : T) → old.hand ≡ Some item → received new.ring ≡ received old.ring → new.hand ≡ None
      → taken_by new ≡ taken_by old ++ item ∷ []
  given old new item one same none = grind (arith, nat_tests, old.last, take-length (received old.ring), take-append-drop (length (received old.ring) - 1) (received old.ring))

-- what was taken is a front of what left the ring, and so of all that was put there
pub front_taken : {T : Type 0} (end : Inlet T) (known put : List T) → received end.ring ++ known ≡ put → IsPrefix (taken_by end) put
front_taken end known put all = grind (arith, nat_tests, take-append-drop (length (received end.ring) - length (option_to_list end.hand)) (received end.ring), append_assoc)
