use Rattle.std.proofs.Common.{rules}
use Rattle.mv_link.proofs.PartySetLemmas.{few-in}
use Rattle.mv_link.proofs.party_set.PartySet.len.Goals as goal

-- there are no more than 64
pub overflow_add-count : goal.overflow_add-count
overflow_add-count c = search (rules, few-in c.args.self)
