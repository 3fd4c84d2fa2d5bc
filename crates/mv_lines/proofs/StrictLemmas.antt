-- The replies of a run whose lines are counted are those of one whose lines are not.
use Rattle.mv_lines.proofs.Words.{AreAnswered, AreReplies, Consumes, Ended, EndedAt, Err, GotNoReply, IfErr, IfSome, Line, List, None, Ok, Option, Result, Served, Some, StoppedAt, TookAtMostOne, [], ap, if◌then◌else◌, inl, inr, refl, subst, sym, ℕ, ◌∷◌, ◌≡◌}
use Rattle.mv_format.specs.declared.answered.Answered.{Answered}
use Rattle.mv_engine.specs.declared.fault.ServeFault.{ServeFault}
use Rattle.mv_engine.specs.declared.fault.ServeFault.TheVariants as faults
use Rattle.mv_format.specs.ReplyLines.{is_refused, answer_value}
use Rattle.mv_lines.specs.Sessions.{IsReply, IsTaken, Open}
use Rattle.mv_lines.specs.Strict.{IsStrictReply, Strict, tallied}
use Rattle.mv_lines.specs.declared.strict.Untaken.{Untaken}
use Rattle.mv_format.specs.Writing.{Appended}
use Rattle.mv_lines.specs.inside.Said.{IsSaid}

-- what is counted is left out
replies_uncounted : (before after : Strict) (lines : List Line) (texts : List (Option (List ℕ))) → AreReplies IsStrictReply before lines texts after
    → AreReplies IsReply before.0 lines texts after.0
replies_uncounted before after [] [] is = ap (λ (s : Strict). s.0) is
replies_uncounted before after (line ∷ lines) (text ∷ texts) (between, (answered, taken, text_is, counted), rest) =
    (between.0, (answered, taken, text_is), replies_uncounted between after lines texts rest)
replies_uncounted before after lines texts is = absurd is

uncounted : {before after : Strict} {count : ℕ} {ps : List (List ℕ)} {out : List ℕ} → AreAnswered IsStrictReply count before ps after out
    → AreAnswered IsReply count before.0 ps after.0 out
uncounted {before = before} {after = after} answered =
    let (texts, is, replies) = answered.replied in
    record { kept = answered.kept; replied = (texts, is, replies_uncounted before after _ texts replies) }

-- nor is it where a line got no reply
took_uncounted : (count : ℕ) (before after : Strict) (ps : List (List ℕ)) → TookAtMostOne IsStrictReply count before ps after
    → TookAtMostOne IsReply count before.0 ps after.0
took_uncounted count before after ps (inl same) = inl (ap (λ (s : Strict). s.0) same)
took_uncounted count before after ps (inr (next, rest, first, line, is, text, (answered, taken, text_is, counted))) =
    inr (next, rest, first, line, is, text, (answered, taken, text_is))

-- of a run that answered its whole input
served_uncounted : (before after : Strict) (bytes : List ℕ) (old new : Option (List ℕ)) → Served IsStrictReply before bytes after old new
    → Served IsReply before.0 bytes after.0 old new
served_uncounted before after bytes old new (out, written, answered) = (out, written, uncounted answered)

-- of one that stopped at a place
stopped_uncounted : (fault : ServeFault) (before after : Strict) (bytes : List ℕ) (ps : List (List ℕ)) (out : List ℕ)
    → StoppedAt IsStrictReply fault [] 0 before bytes ps after out → StoppedAt IsReply fault [] 0 before.0 bytes ps after.0 out
stopped_uncounted fault before after bytes ps out stopped = record {
  good = stopped.good;
  bad = stopped.bad;
  cut = stopped.cut;
  why = stopped.why;
  unanswered = stopped.unanswered;
  parted = stopped.parted;
  behind = stopped.behind.0;
  answered = uncounted stopped.answered;
  left = took_uncounted _ stopped.behind after _ stopped.left;
  left_alone = λ other. ap (λ (s : Strict). s.0) (stopped.left_alone other);
}

-- and of one that a fault ended
ended_uncounted : (fault : ServeFault) (before after : Strict) (bytes : List ℕ) (rest old new : Option (List ℕ))
    → EndedAt IsStrictReply fault before bytes rest after old new → EndedAt IsReply fault before.0 bytes rest after.0 old new
ended_uncounted faults.Read before after bytes rest old new at_end = (at_end.0, (at_end.1.0, at_end.1.1, uncounted at_end.1.2))
ended_uncounted faults.Write before after bytes rest old new (ps, whole, wrote) = (
  ps,
  whole,
  record {
    first = wrote.first;
    unanswered = wrote.unanswered;
    cut = wrote.cut;
    ready = wrote.ready;
    behind = wrote.behind.0;
    answered = uncounted wrote.answered;
    written = wrote.written;
    left = took_uncounted _ wrote.behind after _ wrote.left;
  },
)
ended_uncounted fault before after bytes rest old new (ps, whole, (out, went, stopped)) =
    (ps, whole, (out, went, stopped_uncounted fault before after bytes ps out stopped))

module _ (before after : Strict) (world : Open) (begins : before.0 ≡ world) (old new : Option (List ℕ)) where
  -- the same of a run over an input that may be known
  pub served_input : (input : Option (List ℕ)) → IfSome input (λ bytes. Served IsStrictReply before bytes after old new)
      → IfSome input (λ bytes. (last : Open) × Served IsReply world bytes last old new)
  served_input None served = served
  served_input (Some bytes) served =
      (after.0, subst (λ w. Served IsReply w bytes after.0 old new) begins (served_uncounted before after bytes old new served))

  -- and of one that a fault ended
  pub ended_input : (fault : ServeFault) (input rest : Option (List ℕ))
      → ((bytes : List ℕ) × Consumes input rest bytes × Ended IsStrictReply fault before bytes rest old new)
      → (bytes : List ℕ) × Consumes input rest bytes × Ended IsReply fault world bytes rest old new
  ended_input fault input rest (bytes, consumed, (last, ended)) =
      let uncounted = ended_uncounted fault before last bytes rest old new ended in
      (bytes, consumed, subst (λ w. Ended IsReply fault w bytes rest old new) begins (last.0, uncounted))

-- a line that was taken and counted may get no reply
pub counted_unanswered : {A E : Type 0} (r : Result A E) (before after : Strict) (line : Line) (answered : Answered)
    → IsTaken before.0 line.bytes answered after.0 → after.1 ≡ (if is_refused answered then Some (tallied line.number before.1) else before.1)
    → IfErr r (λ _. GotNoReply IsStrictReply before line after)
counted_unanswered (Ok u) before after line answered taken counted = tt
counted_unanswered (Err e) before after line answered taken counted = inr (_, (answered, taken, refl, counted))

-- what was counted when a fault ended a run in which nothing was open, nor counted
pub counted_input : (fault : ServeFault) (first last : Open) (untaken : Option Untaken) (after : Strict) (input rest old new : Option (List ℕ))
    → first ≡ None → (last, untaken) ≡ after
    → (bytes : List ℕ) × Consumes input rest bytes × EndedAt IsStrictReply fault (first, None) bytes rest after old new
    → (bytes : List ℕ) × Consumes input rest bytes × (last : Open) × EndedAt IsStrictReply fault (None, None) bytes rest (last, untaken) old new
counted_input fault first last untaken after input rest old new nothing is (bytes, consumed, ended) = (
  bytes,
  consumed,
  last,
  subst (λ (s : Strict). EndedAt IsStrictReply fault (None, None) bytes rest s old new) (sym is)
      (subst (λ (w : Open). EndedAt IsStrictReply fault (w, None) bytes rest after old new) nothing ended),
)

-- ---- What was written of what came of a line

-- what came was written, or there was no memory for it
pub said : {E : Type 0} (Comes : Answered → Open → Type 0) (before after : Open) (answered : Answered) (old new : List ℕ) (result : Result (Unit {0}) E)
    → Comes answered after → Appended result old new (answer_value answered) → IsSaid Comes before old result new after
said Comes before after answered old new (Ok done) comes is = (answered, comes, is)
said Comes before after answered old new (Err fault) comes same = (same, inr (answered, comes))

-- what was not written left no reply
pub not_said : {E : Type 0} (before after : Open) (line : Line) (old new : List ℕ) (result : Result (Unit {0}) E)
    → IsSaid (IsTaken before line.bytes) before old result new after → IfErr result (λ _. GotNoReply IsReply before line after)
not_said before after line old new (Ok done) was = tt
not_said before after line old new (Err fault) (same, inl kept) = inl kept
not_said before after line old new (Err fault) (same, inr (answered, taken)) = inr (Some _, (answered, taken, refl))
