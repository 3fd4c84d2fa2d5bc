-- What a run over lines has read, answered and written.
use Rattle.std.specs.Prelude.{◌≡◌, ◌≢◌, ℕ, ◌+◌, ◌<◌, List, [], ◌∷◌, ◌++◌, ◌⊎◌, length, Option, IfSome, ⊤}
use Rattle.std.specs.Io.KnownBytes.{Appends, Consumes, IsAtEnd}
use Rattle.mv_engine.specs.declared.fault.ServeFault.{ServeFault}
use Rattle.mv_engine.specs.declared.fault.ServeFault.TheVariants.{Read, Write, Memory, TooManyLines, LineTooLong}
use Rattle.mv_engine.specs.Lines.{Line, whole_from, rest_from, pieces, lines_from, line_limit, lines_limit, KeepLimits}
use Rattle.mv_engine.specs.Output.{WrotePart}
use Rattle.mv_engine.specs.Replies.{ReplyRule, IsReplies}

-- some bytes went out, and the fact holds of them
abbrev pub Wrote : Option (List ℕ) → Option (List ℕ) → (List ℕ → Type 0) → Type 0
Wrote old new Fact = (out : List ℕ) × Appends old new out × Fact out

-- These pieces, which come behind `count` lines, keep the limits, and `out` are replies to the lines that they are.
pub record AreAnswered {S : Type 0} (rule : ReplyRule S) (count : ℕ) (before : S) (ps : List (List ℕ)) (after : S)
    (out : List ℕ) : Type 0 where
  pub kept : KeepLimits count ps
  pub replied : IsReplies rule before (lines_from count ps) out after

-- What answers took at most the first of these pieces, which come behind `count` lines: it is as it was before them, or the first is a
-- line, not an empty one, and it is as a right reply to that line would leave it.
abbrev pub TookAtMostOne : {S : Type 0} → ReplyRule S → ℕ → S → List (List ℕ) → S → Type 0
TookAtMostOne rule count before ps after = (after ≡ before) ⊎ ((next : List ℕ) × (rest : List (List ℕ)) × (ps ≡ next ∷ rest)
    × (line : Line) × (lines_from count (next ∷ []) ≡ line ∷ []) × (text : Option (List ℕ)) × rule before line text after)

-- why the taking of bytes stops between `good` and `bad`
abbrev pub StopsAt : ServeFault → List ℕ → ℕ → List ℕ → List ℕ → Type 0
StopsAt Memory begun count good bad = ⊤
-- all lines that a run may have are read, and more follows
StopsAt TooManyLines begun count good bad =
    (count + length (whole_from begun good) ≡ lines_limit) × (0 < length bad)
-- a line that a run may have has all the bytes that it may have, and the next is not its end
StopsAt LineTooLong begun count good bad =
    (count + length (whole_from begun good) < lines_limit) × (length (rest_from begun good) ≡ line_limit)
    × (next : ℕ) × (more : List ℕ) × (bad ≡ next ∷ more) × (next ≢ 10)
-- no other fault stops it there
StopsAt fault begun count good bad = ⊥

-- The taking of the bytes, which make the pieces `ps`, stopped at a place, `out` are the replies to the lines that end before it,
-- which keep the limits, and what answers is left in the state `after`: behind these lines, or, only where memory was refused, perhaps
-- behind the next of `ps`, to which no reply stands ready.
pub record StoppedAt {S : Type 0} (rule : ReplyRule S) (fault : ServeFault) (begun : List ℕ) (count : ℕ) (before : S)
    (bytes : List ℕ) (ps : List (List ℕ)) (after : S) (out : List ℕ) : Type 0 where
  pub good : List ℕ
  pub bad : List ℕ
  pub cut : bytes ≡ good ++ bad
  pub why : StopsAt fault begun count good bad
  pub unanswered : List (List ℕ)
  pub parted : ps ≡ whole_from begun good ++ unanswered
  pub behind : S
  pub answered : AreAnswered rule count before (whole_from begun good) behind out
  pub left : TookAtMostOne rule (count + length (whole_from begun good)) behind unanswered after
  pub left_alone : fault ≢ Memory → after ≡ behind

-- Of the replies to some first pieces the first bytes went out, and no more. Those pieces keep the limits, behind `count` lines. What
-- answers is left in the state `after`: behind the lines whose replies were ready, or, where memory was refused before the write failed,
-- perhaps behind the next, to which no reply stood ready.
pub record WroteAt {S : Type 0} (rule : ReplyRule S) (count : ℕ) (before : S) (ps : List (List ℕ)) (after : S)
    (old new : Option (List ℕ)) : Type 0 where
  pub first : List (List ℕ)
  pub unanswered : List (List ℕ)
  pub cut : ps ≡ first ++ unanswered
  pub ready : List ℕ
  pub behind : S
  pub answered : AreAnswered rule count before first behind ready
  pub written : WrotePart ready old new
  pub left : TookAtMostOne rule (count + length first) behind unanswered after

-- What is written where a fault ended the taking of these bytes, which make the pieces `ps`, or the writing of the replies to these; and in
-- which state `after` what answers is left.
abbrev pub Halted : {S : Type 0} → ReplyRule S → ServeFault → List ℕ → ℕ → S → List ℕ → List (List ℕ) → S
    → Option (List ℕ) → Option (List ℕ) → Type 0
Halted rule Write begun count before bytes ps after old new = WroteAt rule count before ps after old new
Halted rule fault begun count before bytes ps after old new = Wrote old new (StoppedAt rule fault begun count before bytes ps after)

-- The pieces of bytes that were read which are known to be whole, where `rest` is left to read: those that end, and the last, which does
-- not, only where nothing is left.
abbrev pub AreWhole : Option (List ℕ) → List ℕ → List (List ℕ) → Type 0
AreWhole rest bytes ps = (ps ≡ whole_from [] bytes) ⊎ ((ps ≡ pieces bytes) × IsAtEnd rest)

-- A whole input was answered: its lines keep the limits, and the replies to them went out.
abbrev pub Served : {S : Type 0} → ReplyRule S → S → List ℕ → S → Option (List ℕ) → Option (List ℕ) → Type 0
Served rule before bytes after old new = Wrote old new (AreAnswered rule 0 before (pieces bytes) after)

-- What a run that read these bytes, and left `rest`, has written where it ended by a fault, and in which state `after` what answers is left.
-- Where a read failed: the replies to the lines that ended; what was read keeps the limits, the line that it leaves begun too. Where a write
-- failed: the first bytes of the replies to some first lines, which keep the limits. Where memory was refused, or a line or a byte came that
-- may not: the replies to the lines that ended before that place, which keep the limits. What answers is left behind the lines that were
-- answered, and, where memory was refused, perhaps behind the next that is known to be whole, though no reply to it stands ready.
abbrev pub EndedAt : {S : Type 0} → ReplyRule S → ServeFault → S → List ℕ → Option (List ℕ) → S → Option (List ℕ) → Option (List ℕ)
    → Type 0
EndedAt rule Read before bytes rest after old new = KeepLimits 0 (pieces bytes)
    × Wrote old new (AreAnswered rule 0 before (whole_from [] bytes) after)
EndedAt rule fault before bytes rest after old new =
    (ps : List (List ℕ)) × AreWhole rest bytes ps × Halted rule fault [] 0 before bytes ps after old new

-- the same, whatever the state is
abbrev pub Ended : {S : Type 0} → ReplyRule S → ServeFault → S → List ℕ → Option (List ℕ) → Option (List ℕ) → Option (List ℕ) → Type 0
Ended {S = S} rule fault before bytes rest old new = (after : S) × EndedAt rule fault before bytes rest after old new

-- a whole input, where it is known, was answered, whatever state is left
abbrev pub AllServed : {S : Type 0} → ReplyRule S → S → Option (List ℕ) → Option (List ℕ) → Option (List ℕ) → Type 0
AllServed {S = S} rule before input old new = IfSome input (λ bytes. (after : S) × Served rule before bytes after old new)

-- this fault ended a run that read an input up to `rest`
abbrev pub EndedBy : {S : Type 0} → ReplyRule S → ServeFault → S → Option (List ℕ) → Option (List ℕ) → Option (List ℕ) → Option (List ℕ)
    → Type 0
EndedBy rule fault before input rest old new = (bytes : List ℕ) × Consumes input rest bytes × Ended rule fault before bytes rest old new
