-- How an index finds its numbers: those of one bucket are chained, from the last to the first.
use Rattle.std.specs.Prelude.{◌≡◌, ◌≢◌, ◌<◌, ◌≤◌, ◌-◌, ◌/◌, ◌%◌, ◌^◌, ◌==◌, if◌then◌else◌, ℕ, List, length, get_or, map, min, bit_and, bit_or}
use Rattle.mv_index.specs.declared.index.Bucket.{Bucket}
use Rattle.mv_index.specs.declared.index.Link.{Link}
use Rattle.mv_index.specs.declared.index.TheConstants.{MOST_NUMBERS}

abbrev pub hashes_of : List Link → List ℕ
hashes_of links = map (λ link. link.hash) links

-- there is room for so many numbers more, where there are buckets
abbrev pub room_of : ℕ → ℕ → ℕ → ℕ
room_of buckets count capacity = if buckets == 0 then 0 else min capacity MOST_NUMBERS - count

-- the bucket of a hash, by the number of buckets
abbrev pub bucket_of : ℕ → ℕ → ℕ
bucket_of buckets hash = bit_and hash (buckets - 1)

-- Of 32 parts of all hashes those that a hash is of, a bit for each: two, by its first five bits and by the next five, or one where these are
-- the same.
abbrev pub parts_of : ℕ → ℕ
parts_of hash = bit_or (2 ^ (hash / 2 ^ 27)) (2 ^ (hash / 2 ^ 22 % 32))

-- a bucket may have some of each of these
abbrev pub HasParts : Bucket → ℕ → Type 0
HasParts bucket hash = bit_and bucket.parts (parts_of hash) ≡ parts_of hash

-- a link and a bucket where there is none
abbrev pub no_link : Link
no_link = record { hash = 0; before = 0 }

abbrev pub no_bucket : Bucket
no_bucket = record { last = 0; parts = 0 }

-- the bucket of a number
abbrev pub bucket_at : ℕ → List Link → ℕ → ℕ
bucket_at buckets links number = bucket_of buckets (get_or links number no_link).hash

-- one more than the last number of a bucket among the first ones, or 0 where it has none there
pub record IsLast (buckets : ℕ) (links : List Link) (bucket : ℕ) (last : ℕ) (count : ℕ) : Type 0 where
  pub within : last ≤ count
  pub own : 0 < last → bucket_at buckets links (last - 1) ≡ bucket
  pub none : (other : ℕ) → last ≤ other → other < count → bucket_at buckets links other ≢ bucket

-- the first numbers are chained by their buckets, which have the parts of their hashes
pub record IsChained (buckets : List Bucket) (links : List Link) (count : ℕ) : Type 0 where
  pub lasts : (bucket : ℕ) → bucket < length buckets → IsLast (length buckets) links bucket (get_or buckets bucket no_bucket).last count
  pub befores : (number : ℕ) → number < count
      → IsLast (length buckets) links (bucket_at (length buckets) links number) (get_or links number no_link).before number
  pub parts : (number : ℕ) → number < count
      → HasParts (get_or buckets (bucket_at (length buckets) links number) no_bucket) (get_or links number no_link).hash

-- all numbers are chained, and where there are some there are buckets
pub record IsIndex (buckets : List Bucket) (links : List Link) : Type 0 where
  pub chained : IsChained buckets links (length links)
  pub some : 0 < length links → 0 < length buckets
  pub few : length links ≤ MOST_NUMBERS
