-- How much a field of a message holds at most (docs/FORMATS.md, Messages).
use Rattle.std.specs.Prelude.{ℕ}

-- the bytes of a free text
abbrev pub most_text_bytes : ℕ
most_text_bytes = 200

-- the markets of a product
abbrev pub most_markets : ℕ
most_markets = 32

-- the serial numbers of an upload, and of either side of a repack
abbrev pub most_serials : ℕ
most_serials = 100
