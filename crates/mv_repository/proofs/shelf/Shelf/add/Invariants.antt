use Rattle.mv_repository.proofs.Lemmas.{◌≡◌, ◌≤◌, ◌+◌, AreSlots, bytes_eq, fold, insert_key, keys_of, length, serials_of, shelf_by, take, entry_at, ArePacksOf, new_count}
use Rattle.mv_repository.proofs.shelf.Shelf.add.Given as goal

-- the packs so far have the upload
abbrev pub invariant-loop-index : goal.invariant-loop-index
invariant-loop-index l = record {
  room : length l.serials ≤ l.self.room + l.index;
  slots : AreSlots l.newest.log.now l.self.table;
  packs : ArePacksOf l.newest.log.now (take l.newest.place l.newest.log.now) (take l.index l.serials) l.gtin (shelf_by l.newest.log.now l.self);
  keys : keys_of (shelf_by l.newest.log.now l.self).slots ≡ fold (insert_key bytes_eq) (serials_of (take l.newest.place l.newest.log.now) l.gtin) (take l.index l.serials);
  new : l.new ≡ new_count (take l.newest.place l.newest.log.now) (entry_at l.newest.log.now l.newest.place).entry l.gtin (take l.index l.serials);
  least : l.new ≤ l.index;
}
