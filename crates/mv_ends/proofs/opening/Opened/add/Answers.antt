-- The two ends of each ring are those of one ring, which has the size that the limits give.
use Rattle.mv_ends.proofs.Words.{rules}
use Rattle.mv_ends.proofs.OpeningLemmas.{opened_more}
use Rattle.mv_ends.proofs.opening.Opened.add.Goals as goal

pub returns : goal.returns
returns c =
    let opened = c.in_ok-repo.ensures in
    rw (
      c.push_reserved.ensures.items,
      c.push_reserved-2.ensures.items,
      c.push_reserved-3.ensures.items,
      c.reserve.ensures.items,
      c.reserve-2.ensures.items,
      c.reserve-3.ensures.items,
    ) (
    opened_more c.args.parties.now c.args.limits c.args.party _ _ _ c.requires c.in_ok-repo.repo c.in_ok-producer.producer c.new-3.result
    c.in_ok-row.row c.in_ok-row.inlets (search rules) opened.uplink opened.inlets
    (search rules) (search rules) (search rules) (search rules) (search rules)
    )
