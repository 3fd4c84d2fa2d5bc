-- The parts of a plan.
use Rattle.std.specs.Prelude.{◌≡◌, ◌<◌, ℕ, List, [], ◌∷◌, ◌++◌, map, length, replicate, slice_index_or, slice_set}
use Rattle.std.specs.declared.alloc.Global.{Global}
use Rattle.std.specs.declared.vec.Vec.{Vec}
use Rattle.mv_message.specs.declared.message.Message.{Message}
use Rattle.mv_machine.specs.Limits.{Bounds}
use Rattle.mv_party.specs.Site.{answers_in}

pub record Parts : Type 0 where
  pub parties : List (List (List ℕ))  -- the markets that each party serves, party 0 first
  pub limits : Bounds
  pub work : List (List Message)  -- what each party is to submit, in order

-- the parts of a plan of these parties and limits, with a list for each party
abbrev pub parts_in : List (List (List ℕ)) → Bounds → List (Vec Message Global) → Parts
parts_in parties limits work = record { parties = parties; limits = limits; work = map (λ (list : Vec Message Global). list.items) work }

-- A plan can be run: it has a list for each party, and no answer is planned.
pub record CanRun (parts : Parts) : Type 0 where
  pub each : length parts.work ≡ length parts.parties
  pub no_answers : (party : ℕ) → party < length parts.work → answers_in (slice_index_or parts.work party []) ≡ []

-- the plan that an opening begins: no party has anything to submit
abbrev pub new_parts : List (List (List ℕ)) → Bounds → Parts
new_parts parties limits = record { parties = parties; limits = limits; work = replicate (length parties) [] }

-- the plan with one more message of a party
abbrev pub with_message : Parts → ℕ → Message → Parts
with_message plan party message =
    record plan { work = slice_set plan.work party (slice_index_or plan.work party [] ++ message ∷ []) }
