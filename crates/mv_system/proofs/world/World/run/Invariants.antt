use Rattle.mv_system.proofs.Words.{Runs, length, take, vec_capacity, vec_len, ◌≡◌, ◌≤◌}
use Rattle.mv_machine.specs.Headline.{HeadlineHolds}
use Rattle.mv_system.proofs.world.World.run.Given as goal

abbrev pub invariant-loop-step : goal.invariant-loop-step
invariant-loop-step l = record {
  ran : Runs l.fn.self (take l.step-index l.steps) l.replies.items l.self;
  headline : HeadlineHolds l.fn.self l.self;
  room : length l.steps ≤ vec_capacity l.replies;
  count : vec_len l.replies ≡ l.step-index;
}
