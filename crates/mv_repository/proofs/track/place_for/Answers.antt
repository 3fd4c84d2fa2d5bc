-- The newest goes behind the last that it does not pass.
use Rattle.mv_repository.proofs.Lemmas.{rules, not_twice, true, false, stays_at, parted}
use Rattle.std.proofs.Common.{of_calls}
use Rattle.std.proofs.lemmas.Fn.{always_returns_same}
use Rattle.mv_repository.proofs.track.place_for.Goals as goal

pub returns-clause-cut : goal.returns-clause-cut
returns-clause-cut c = let parts =
    c.partition_point.ensures.partitioned (stays_at c.args.log.now c.args.new) (always_returns_same _ _ _ (λ a r f k. search (rules, of_calls)))
    (parted c.args.log.now c.args.new c.args.statuses.now c.requires.ascend) in
    (λ i d h g. not_twice _ true (parts.0 i d h g), λ i d h g. not_twice _ false (parts.1 i d h g))
