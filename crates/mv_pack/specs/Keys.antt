-- When two names of a pack or of a batch are the same.
use Rattle.std.specs.Prelude.{ℕ, List, Bool, ◌&&◌, bytes_eq}
use Rattle.mv_pack.specs.declared.key.PackKey.{PackKey}
use Rattle.mv_pack.specs.declared.key.BatchKey.{BatchKey}

-- two packs are one: the same serial number of the same product
abbrev pub is_same_pack : PackKey → PackKey → Bool
is_same_pack first second = bytes_eq first.gtin second.gtin && bytes_eq first.serial second.serial

-- two batches are one: the same batch number of the same product
abbrev pub is_same_batch : BatchKey → BatchKey → Bool
is_same_batch first second = bytes_eq first.gtin second.gtin && bytes_eq first.batch second.batch

-- the pack of a product with a serial number
abbrev pub pack_key : List ℕ → List ℕ → PackKey
pack_key gtin serial = record { gtin = gtin; serial = serial }

-- the batch of a product with a batch number
abbrev pub batch_key : List ℕ → List ℕ → BatchKey
batch_key gtin batch = record { gtin = gtin; batch = batch }
