-- What an end sees of a frame before it takes it.
use Rattle.std.specs.Prelude.{◌≡◌, ℕ, List, is_some}
use Rattle.mv_ends.specs.Words.{Frame, LogEntry}
use Rattle.mv_ends.specs.declared.front.Front.{Front}
use Rattle.mv_repository.specs.Verdict.{answer_after}

-- these are the number of a frame, and whether it calls for an answer, whatever the log of who takes it
pub record IsFrontOf (frame : Frame) (front : Front) : Type 0 where
  pub number : front.number ≡ frame.number
  pub asks : (log : List LogEntry) (sender : ℕ) → is_some (answer_after log sender frame.item) ≡ front.asks
