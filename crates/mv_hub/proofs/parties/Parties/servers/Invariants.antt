use Rattle.mv_hub.proofs.Words.{◌≡◌, ℕ, ◌&&◌, length, take, nat_lt, has_party, served_by, serves_one}
use Rattle.mv_hub.proofs.parties.Parties.servers.Given as goal

abbrev pub invariant-loop-market : goal.invariant-loop-market
invariant-loop-market l = (party : ℕ) → has_party l.found party
    ≡ (nat_lt party (length l.self) && serves_one (served_by l.self party) (take l.market-index l.markets))
