-- The parties and the markets that they serve: each territory is served by one repository (Article 32).
use Rattle.std.specs.Prelude.{ℕ, List, [], ◌∷◌, flat_map, length, nat_lt, Bool, false, ◌==◌, ◌||◌, if◌then◌else◌, slice_index_or, filter, Result, Ok, Err, bytes_eq}
use Rattle.mv_hub.specs.Words.{HubFault, NoParty, PARTIES_LIMIT, ServedTwice, TooMany, list_any, range_with_len}

-- the list has the market
abbrev pub has_market : List (List ℕ) → List ℕ → Bool
has_market markets market = list_any (λ m. bytes_eq m market) markets

-- who serves the first markets serves one of the others
abbrev pub serves_one : List (List ℕ) → List (List ℕ) → Bool
serves_one served markets = list_any (has_market markets) served

-- the markets that a party serves: party i the i-th list, from 0
abbrev pub served_by : List (List (List ℕ)) → ℕ → List (List ℕ)
served_by parties party = slice_index_or parties party []

-- the parties that serve one of these markets, ascending
abbrev pub serving : List (List (List ℕ)) → List (List ℕ) → List ℕ
serving parties markets = filter (λ party. serves_one (served_by parties party) markets) (range_with_len 0 (length parties))

-- a market stands twice in the list
abbrev pub has_twice : List (List ℕ) → Bool
has_twice [] = false
has_twice (market ∷ markets) = has_market markets market || has_twice markets

-- the markets of all parties, one list behind the other
abbrev pub all_markets : List (List (List ℕ)) → List (List ℕ)
all_markets lists = flat_map (λ markets. markets) lists

-- the parties of these lists, or the first fault: 1 to 64 of them, and no market is served twice
abbrev pub parties_of : List (List (List ℕ)) → Result (List (List (List ℕ))) HubFault
parties_of lists =
    if length lists == 0 then Err NoParty
    else (if nat_lt PARTIES_LIMIT (length lists) then Err TooMany
    else (if has_twice (all_markets lists) then Err ServedTwice
    else Ok lists))
