-- How serial numbers are kept.
use Rattle.std.specs.Prelude.{ℕ, List, [], ◌∷◌}
use Rattle.mv_message.specs.declared.serials.Numbers.{Numbers}
use Rattle.mv_message.specs.declared.serials.Numbers.TheVariants.{One, Many}

-- the serial numbers, in order
abbrev pub listed : Numbers → List (List ℕ)
listed (One serial) = serial ∷ []
listed (Many serials) = serials.items
