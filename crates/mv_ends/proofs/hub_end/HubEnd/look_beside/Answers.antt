use Rattle.mv_ends.proofs.Words.{[], get_or, arith, rules, items_on, cell, hub_seat}
use Rattle.mv_ends.proofs.LookLemmas.{applied_front, count_seated}
use Rattle.mv_ends.proofs.hub_end.HubEnd.look_beside.Goals as goal

pub returns-clause-lawful : goal.returns-clause-lawful
returns-clause-lawful c =
    let end = c.args.self.now in
    let repo = c.args.repo.now in
    let count = count_seated (hub_seat end) c.args.party repo c.requires.seat in
    record {
      answers = search rules;
      routed = search rules;
      applied = λ from below.
          applied_front repo.site.log from (items_on end.hub from c.args.party) (get_or repo.inlets.taken from [])
          (cell end.wires.put c.args.party from [])
          (repo.accepted from (omega (arith, below, count))) (c.look_beside-2.ensures.front from (omega (arith, below, count, repo.each)))
          (end.of_links from c.args.party);
    }
