-- Batches with their expiry.
use Rattle.std.specs.Prelude.{ℕ, List, nat_eq, Bool, ◌==◌, ◌&&◌}
use Rattle.std.specs.Cmp.Lexicographic.{pointwise}
use Rattle.mv_pack.specs.Expiry.{CivilDate}

-- a batch number and the expiry of the batch
abbrev pub Listing : Type 0
Listing = List ℕ × CivilDate

-- the same batch number with the same expiry
abbrev pub is_same_listing : Listing → Listing → Bool
is_same_listing a b =
    pointwise nat_eq a.0 b.0 && (a.1.year == b.1.year) && (a.1.month == b.1.month) && (a.1.day == b.1.day)
