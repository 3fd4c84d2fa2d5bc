-- The text of lines that are gathered.
use Rattle.mv_show.proofs.Words.{List, Row, [], append-nil, append_assoc, arith, flat_map, lines_text, range_with_len, refl, rules, suc, zero, ℕ, ◌++◌, ◌+◌, ◌∷◌, ◌≡◌, flat_map-append, map-append, Appends-nil, Consumes, IfSome, None, Option, Some, inl, ◌≢◌, IfErr, Result, Line, pieces, whole_from, AreReplies, said_texts, Open}
use Rattle.mv_engine.specs.declared.fault.ServeFault.{ServeFault}
use Rattle.mv_engine.specs.declared.fault.ServeFault.TheVariants.{Read, Write, Memory}
use Rattle.mv_engine.specs.Served.{AreAnswered, Served, StoppedAt, Ended}
use Rattle.mv_show.specs.Showing.{IsPassed, Unshown}

-- the text of some lines, and of others behind them
pub texts_more : (front behind : List Row) → lines_text (front ++ behind) ≡ lines_text front ++ lines_text behind
texts_more front behind = search (rules, flat_map-append, map-append)

-- the texts of the lines of each are the text of all lines
pub text_of_rows : {A : Type 0} (rows : A → List Row) (xs : List A) → lines_text (flat_map rows xs) ≡ flat_map (λ x. lines_text (rows x)) xs
text_of_rows rows [] = refl
text_of_rows rows (x ∷ xs) = grind (arith, texts_more, text_of_rows rows xs)

rows_from : (rows : ℕ → List Row) (first n place : ℕ) → place ≡ first + n
    → flat_map rows (range_with_len first (n + 1)) ≡ flat_map rows (range_with_len first n) ++ rows place
rows_from rows first zero place is = grind (arith, is, append-nil)
rows_from rows first (suc n) place is = grind (arith, rows_from rows (first + 1) n place, append_assoc)

-- the lines of one number more come behind those of the numbers below it
pub rows_more : (rows : ℕ → List Row) (n : ℕ)
    → lines_text (flat_map rows (range_with_len 0 (n + 1))) ≡ lines_text (flat_map rows (range_with_len 0 n)) ++ lines_text (rows n)
rows_more rows n = grind (arith, rows_from rows 0 n n, texts_more)

-- ---- Lemmas on an input that was taken, and on what was shown of it

-- lines to which nothing is written have no text
no_texts : (before : Open) (lines : List Line) (texts : List (Option (List ℕ))) (after : Open) → AreReplies IsPassed before lines texts after → said_texts texts ≡ []
no_texts before [] [] after same = refl
no_texts before (line ∷ lines) (text ∷ texts) after (between, passed, rest) = search (rules, no_texts between lines texts after rest)
no_texts before lines texts after none = absurd none

silent : (before : Open) (ps : List (List ℕ)) (after : Open) (out : List ℕ) → AreAnswered IsPassed 0 before ps after out → AreAnswered IsPassed 0 before ps after []
silent before ps after out answered = search (rules, no_texts)

-- an input that was answered whole was taken whole
pub taken_whole : (input : Option (List ℕ)) (before after : Open) (old new : Option (List ℕ)) → before ≡ None
    → IfSome input (λ bytes. Served IsPassed before bytes after old new) → IfSome input (λ bytes. AreAnswered IsPassed 0 None (pieces bytes) after [])
taken_whole None before after old new none served = tt
taken_whole (Some bytes) before after old new none served = rw none at (silent before (pieces bytes) after served.0 served.2)

-- it stopped at a place, and nothing was written
stopped_in_silence : (fault : ServeFault) (before after : Open) (bytes out : List ℕ) (ps : List (List ℕ))
    → StoppedAt IsPassed fault [] 0 before bytes ps after out → StoppedAt IsPassed fault [] 0 before bytes ps after []
stopped_in_silence fault before after bytes out ps stopped = search (rules, silent)

-- the answering of lines ended, and nothing was written
ended_in_silence : (fault : ServeFault) (before : Open) (bytes : List ℕ) (rest old new contents : Option (List ℕ)) → fault ≢ Write
    → Ended IsPassed fault before bytes rest old new → Ended IsPassed fault before bytes rest contents contents
ended_in_silence Read before bytes rest old new contents other at_end =
    (at_end.0, (at_end.1.0, ([], Appends-nil contents, silent before _ at_end.0 at_end.1.1.0 at_end.1.1.2)))
ended_in_silence Write before bytes rest old new contents other at_end = absurd (other refl)
ended_in_silence fault before bytes rest old new contents other (after, (ps, whole, (out, went, stopped))) =
    (after, (ps, whole, ([], Appends-nil contents, stopped_in_silence fault before after bytes out ps stopped)))

-- why the answering of lines ended is why nothing is shown
pub not_shown : (fault : ServeFault) (before : Open) (input rest old new contents : Option (List ℕ)) → fault ≢ Write → before ≡ None
    → (bytes : List ℕ) × Consumes input rest bytes × Ended IsPassed fault before bytes rest old new → Unshown fault input rest contents contents
not_shown Write before input rest old new contents other none at_end = absurd (other refl)
not_shown Memory before input rest old new contents other none (bytes, took, ended) =
    inl (bytes, took, ended_in_silence Memory None bytes rest old new contents other (rw none at ended), Appends-nil contents)
not_shown fault before input rest old new contents other none (bytes, took, ended) =
    (bytes, took, ended_in_silence fault None bytes rest old new contents other (rw none at ended), Appends-nil contents)

-- memory may be refused before anything was taken
stopped_at_once : (bytes : List ℕ) → StoppedAt IsPassed Memory [] 0 None bytes (whole_from [] bytes) None []
stopped_at_once bytes =
    record { good = []; bad = bytes; cut = refl; why = tt; unanswered = whole_from [] bytes; parted = refl; behind = None; answered = search rules; left = inl refl; left_alone = λ other. refl }

pub refused_at_once : (input rest contents : Option (List ℕ)) (bytes : List ℕ) → Consumes input rest bytes → Unshown Memory input rest contents contents
refused_at_once input rest contents bytes took =
    inl (bytes, took, (None, (whole_from [] bytes, inl refl, ([], Appends-nil contents, stopped_at_once bytes))), Appends-nil contents)

-- memory was refused once the input was taken whole, and nothing was written
pub memory_refused : {A : Type 0} (r : Result A ServeFault) (input rest contents : Option (List ℕ)) → IfErr r (λ fault. fault ≡ Memory)
    → (after : Open) → IfSome input (λ bytes. AreAnswered IsPassed 0 None (pieces bytes) after []) → IfErr r (λ fault. Unshown fault input rest contents contents)
memory_refused r input rest contents is after taken = grind (arith, Appends-nil)
