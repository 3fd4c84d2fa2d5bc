-- A log in the order of the hub's stamps, which have 32 bits: carried entries by stamp, those of one stamp in the order of the
-- log, and behind them the receipts in the order of the log.
use Rattle.std.specs.Prelude.{◌≡◌, ◌∷◌, ◌^◌, ◌||◌, ◌&&◌, ◌==◌, if◌then◌else◌}
use Rattle.mv_repository.specs.Words.{⊤, ℕ, List, [], fold, length, Bool, true, nat_lt, Some, slice_get, AllByRecursion, Item, Receipt, Carried, LogEntry}

-- an entry with its place in the log
pub record Placed : Type 0 where
  pub place : ℕ  -- counted from 0
  pub entry : LogEntry

-- Where an item stands: by its stamp, and receipts behind every stamp of 32 bits. Each item that a repository applies has
-- such a stamp. A law over all logs speaks of greater numbers too, and there a receipt would stand before them.
abbrev pub rank : Item → ℕ
rank (Carried k stamp message) = stamp
rank (Receipt k reach query) = 2 ^ 32

-- an entry stands before one that came earlier
abbrev pub passes : Placed → Placed → Bool
passes later earlier = nat_lt (rank later.entry.item) (rank earlier.entry.item)

-- one more entry, which came last, is put in its place
abbrev pub put_in : Placed → List Placed → List Placed
put_in entry [] = entry ∷ []
put_in entry (first ∷ rest) = if passes entry first then entry ∷ first ∷ rest else first ∷ put_in entry rest

-- the log in the order of stamps: its entries are put in, one after another
abbrev pub ordered : List LogEntry → List Placed
ordered log = fold (λ placed entry. put_in (record { place = length placed; entry = entry }) placed) [] log

-- an entry stands before another: by stamp, and of one stamp by its place in the log
abbrev pub stands_before : Placed → Placed → Bool
stands_before first second =
    nat_lt (rank first.entry.item) (rank second.entry.item) || (rank first.entry.item == rank second.entry.item && nat_lt first.place second.place)

-- each entry stands before all that follow
abbrev pub Ascends : List Placed → Type 0
Ascends [] = ⊤
Ascends (first ∷ rest) = AllByRecursion (λ second. stands_before first second ≡ true) rest × Ascends rest

-- the order has each entry of the log once, as the one at its place, by stamp and then by place
pub record IsOrderOf (log : List LogEntry) (placed : List Placed) : Type 0 where
  pub entries : AllByRecursion (λ one. slice_get log one.place ≡ Some one.entry) placed
  pub ascends : Ascends placed
  pub count : length placed ≡ length log
