-- One number more, whose track is worked out.
use Rattle.mv_repository.proofs.Lemmas.{◌∙◌, refreshed_more}
use Rattle.mv_repository.proofs.Words.{list_any_more, ◌==◌}
use Rattle.mv_repository.proofs.shelf.refresh_tracks.Goals as goal

pub loop-number-preserved : goal.loop-number-preserved
loop-number-preserved c = record {
  count = c.refresh_track.ensures.count ∙ c.loop-number.invariant.count;
  tracks = λ other. refreshed_more _ _ _ _ _ _ _ _ _ (c.loop-number.invariant.tracks other) (c.refresh_track.ensures.tracks other)
      (list_any_more (λ one. other == one) c.args.numbers.now c.loop-number.number-index 0 c.loop-number-test.true);
}
