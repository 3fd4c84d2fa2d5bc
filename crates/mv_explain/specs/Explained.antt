-- The lines of some codes.
use Rattle.std.specs.Prelude.{◌≡◌, List, [], ◌∷◌, ◌++◌, ℕ, Option, Some, None, find, flat_map, is_none, unwrap_or}
use Rattle.mv_explain.specs.Sentences.{sentence_of}
use Rattle.mv_explain.specs.declared.explaining.ExplainFault.{ExplainFault}
use Rattle.mv_explain.specs.declared.explaining.ExplainFault.TheVariants.{NoCode, Memory}

-- the first of these words that is no code
abbrev pub first_unknown : List (List ℕ) → Option (List ℕ)
first_unknown words = find (λ word. is_none (sentence_of word)) words

-- the line of a code: the code, a blank (32), its sentence and a line feed (10)
abbrev pub line_of : List ℕ → List ℕ
line_of code = code ++ 32 ∷ [] ++ unwrap_or (sentence_of code) [] ++ 10 ∷ []

-- the lines of some codes
abbrev pub lines_of : List (List ℕ) → List ℕ
lines_of words = flat_map line_of words

-- why these words are not explained: the first that is no code; or, where all are codes, memory was refused
abbrev pub Faults : ExplainFault → List (List ℕ) → Type 0
Faults (NoCode word) words = first_unknown words ≡ Some word.now
Faults Memory words = first_unknown words ≡ None
