-- The parties that serve markets, and the table of the party of each market.
use Rattle.mv_hub.proofs.Words.{IsMarket, MARKETS_LIMIT, place_of, listed-in, AreNoted, Bool, List, Option, [], all_markets, append-nil, append_assoc, arith, bytes_eq, cases_eq, common_steps, false, flat_map-append, get_or, has_market, has_twice, is_found, length, length-replicate, list_any-append, nat_lt, ne_eqb, refl, replicate, rules, served_by, serves_one, set, suc, sym, take, true, zero, ℕ, ◌&&◌, ◌++◌, ◌+◌, ◌<◌, ◌==◌, ◌||◌, ◌∷◌, ◌≡◌}

-- the parties of a set
pub ruleset parties_listed = (listed-in)

-- who serves a market is a party
pub server_is_party : (parties : List (List (List ℕ))) (party : ℕ) (market : List ℕ) → has_market (served_by parties party) market ≡ true
    → party < length parties
server_is_party parties party market has = grind (arith, common_steps)

-- none serves no market
pub serves_one_none : (served : List (List ℕ)) → serves_one served [] ≡ false
serves_one_none [] = refl
serves_one_none (s ∷ served) = serves_one_none served

-- who serves one more market
serves_one-push : (served markets : List (List ℕ)) (market : List ℕ)
    → serves_one served (markets ++ market ∷ []) ≡ (serves_one served markets || has_market served market)
serves_one-push [] markets market = refl
serves_one-push (s ∷ served) markets market = search (rules, serves_one-push served markets market, list_any-append)

-- with one more market of a list, for which a look-up found this
pub serves_more : (parties : List (List (List ℕ))) (markets : List (List ℕ)) (i : ℕ) (market : List ℕ) (party : ℕ) (found : Option ℕ)
    → i < length markets → market ≡ get_or markets i market → has_market (served_by parties party) market ≡ is_found found party
    → ((nat_lt party (length parties) && serves_one (served_by parties party) (take i markets)) || is_found found party)
    ≡ (nat_lt party (length parties) && serves_one (served_by parties party) (take (i + 1) markets))
serves_more parties markets i market party found lt at is = grind (arith, common_steps, serves_one-push)

-- two markets at one place are the same
same-market : (a b : List ℕ) → IsMarket a → IsMarket b → place_of a ≡ place_of b → a ≡ b
same-market a b h k e = grind (arith, common_steps)

-- one more market stands twice if it stood in the list, or one did twice
has_twice-push : (xs : List (List ℕ)) (market : List ℕ)
    → has_twice (xs ++ market ∷ []) ≡ (has_twice xs || has_market xs market)
has_twice-push [] market = refl
has_twice-push (x ∷ xs) market = search (rules, has_twice-push xs market, list_any-append)

-- all markets, and who serves one, once the last list has one more
all-more : (lists : List (List (List ℕ))) (markets : List (List ℕ)) (market : List ℕ)
    → all_markets (lists ++ (markets ++ market ∷ []) ∷ []) ≡ all_markets (lists ++ markets ∷ []) ++ market ∷ []
all-more lists markets market = grind (arith, flat_map-append, append_assoc, append-nil)

served-more : (lists : List (List (List ℕ))) (markets : List (List ℕ)) (market other : List ℕ) (party : ℕ)
    → has_market (served_by (lists ++ (markets ++ market ∷ []) ∷ []) party) other
    ≡ (has_market (served_by (lists ++ markets ∷ []) party) other || ((party == length lists) && bytes_eq market other))
served-more lists markets market other party = grind (arith, common_steps)

-- no market is noted yet
none_at : (count place : ℕ) → get_or (replicate {A = ℕ} count 0) place 0 ≡ 0
none_at zero place = refl
none_at (suc count) zero = refl
none_at (suc count) (suc place) = none_at count place

pub noted-none : AreNoted [] (replicate MARKETS_LIMIT 0) true
noted-none = record {
  long = length-replicate {A = ℕ} MARKETS_LIMIT 0;
  twice = refl;
  known = λ market is. rw (none_at MARKETS_LIMIT (place_of market));
  parties = λ market party once is. rw (none_at MARKETS_LIMIT (place_of market)) (sym (ne_eqb 0 (party + 1) (λ e. absurd (omega arith))));
}

-- one more market is noted
pub noted-more : (lists : List (List (List ℕ))) (markets : List (List ℕ)) (market : List ℕ) (party : ℕ) (noted : List ℕ) (once : Bool)
    → length lists ≡ party → AreNoted (lists ++ markets ∷ []) noted once → IsMarket market → place_of market < MARKETS_LIMIT
    → AreNoted (lists ++ (markets ++ market ∷ []) ∷ []) (set noted (place_of market) (party + 1)) (once && (get_or noted (place_of market) 0 == 0))
noted-more lists markets market party noted once count are is within =
    rw (← count) (search (rules, all-more, has_twice-push, list_any-append, ne_eqb, served-more, cases_eq, same-market))
