-- Sets of parties, by the bits of a word.
use Rattle.std.specs.Prelude.{ℕ, List, Bool, ◌==◌, filter}
use Rattle.std.specs.Int.{bit_at}
use Rattle.std.specs.List.{range_with_len}
use Rattle.mv_link.specs.declared.limits.TheConstants.{PARTIES_LIMIT}
use Rattle.mv_link.specs.declared.party_set.PartySet.{PartySet}

-- of the parties below a count those that pass a test, ascending
abbrev pub those : (ℕ → Bool) → ℕ → List ℕ
those test count = filter test (range_with_len 0 count)

-- a set has a party
unfoldable pub has_party : PartySet → ℕ → Bool
has_party set party = bit_at set.bits party == 1

-- the parties of a set, ascending
unfoldable pub parties_in : PartySet → List ℕ
parties_in set = those (has_party set) PARTIES_LIMIT
