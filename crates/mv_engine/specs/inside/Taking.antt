-- What the taking of bytes makes ready, and where it stops.
use Rattle.std.specs.Prelude.{◌≡◌, ℕ, ◌+◌, List, ◌++◌, length}
use Rattle.mv_engine.specs.declared.fault.ServeFault.{ServeFault}
use Rattle.mv_engine.specs.Served.{StopsAt, AreAnswered}
use Rattle.mv_engine.specs.Lines.{whole_from, rest_from}
use Rattle.mv_engine.specs.Replies.{ReplyRule}

-- the taking of bytes of a line stopped among them
abbrev pub StopsIn : ServeFault → List ℕ → ℕ → List ℕ → Type 0
StopsIn fault begun count bytes = (good : List ℕ) × (bad : List ℕ) × (bytes ≡ good ++ bad) × StopsAt fault begun count good bad

-- The bytes were taken, and `out` are the replies to the lines that end in them, which keep the limits. Before them the line
-- had `begun` and `count` lines had come; behind them `begun'` and `count'`.
pub record Taken {S : Type 0} (rule : ReplyRule S) (begun : List ℕ) (count : ℕ) (before : S)
    (bytes begun' : List ℕ) (count' : ℕ) (after : S) (out : List ℕ) : Type 0 where
  pub rest : begun' ≡ rest_from begun bytes
  pub counted : count' ≡ count + length (whole_from begun bytes)
  pub answered : AreAnswered rule count before (whole_from begun bytes) after out
