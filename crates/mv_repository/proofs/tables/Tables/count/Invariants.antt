use Rattle.mv_repository.proofs.Lemmas.{AreCounted, true, false}
use Rattle.mv_repository.proofs.tables.Tables.count.Given as goal

-- with the packs on the shelves that are left all are counted
abbrev pub invariant-loop-shelf : goal.invariant-loop-shelf
invariant-loop-shelf l = record { held : AreCounted true l.held l.shelf-iterator l.self.shelves.entries; active : AreCounted false l.active l.shelf-iterator l.self.shelves.entries }
