use Rattle.mv_hub.proofs.Words.{AreNoted, [], map, take, ◌++◌, ◌∷◌}
use Rattle.mv_hub.proofs.parties.MarketTable.of.Given as goal

abbrev pub invariant-loop-party : goal.invariant-loop-party
invariant-loop-party l = AreNoted (map (λ list. list.items) (take l.party l.lists)) l.noted l.once

abbrev pub invariant-loop-market : goal.invariant-loop-market
invariant-loop-market l = AreNoted (map (λ list. list.items) (take l.party l.lists) ++ take l.market-index l.market-items ∷ []) l.noted l.once
