-- The sentence of each code that a reply or standard error can name.
use Rattle.std.specs.Prelude.{ℕ, ◌==◌, List, [], ◌∷◌, Option, bytes_eq, codes, find, map, option_map}
use Rattle.std.specs.List.{before_first, after_first}
use Rattle.mv_explain.specs.declared.sentences.TheConstants.{ROWS}

-- the code that a row begins with: what stands before its first blank (32)
abbrev pub code_in : List ℕ → List ℕ
code_in row = before_first (λ byte. byte == 32) row

-- the codes that have a sentence, in the order of their rows
abbrev pub all_codes : List (List ℕ)
all_codes =
    -- the faults of a value, the refusals of a line or of its message, and those by what is open, by parties and by limits
    codes "P1" ∷ codes "P2" ∷ codes "P3" ∷ codes "P4" ∷ codes "P5" ∷ codes "P6" ∷ codes "P7" ∷ codes "P8" ∷ codes "P9" ∷ codes "M1"
    ∷ codes "M2" ∷ codes "M3" ∷ codes "M4" ∷ codes "M5" ∷ codes "M6" ∷ codes "M7" ∷ codes "M8" ∷ codes "C1" ∷ codes "C2" ∷ codes "C3"
    ∷ codes "H1" ∷ codes "H2" ∷ codes "H3" ∷ codes "O1" ∷ codes "O2" ∷ codes "O3" ∷ codes "O4"
    -- the refusals of a step, the effects, and the faults that end a run
    ∷ codes "S1" ∷ codes "S2" ∷ codes "S3" ∷ codes "S4" ∷ codes "S5" ∷ codes "S6" ∷ codes "S7" ∷ codes "S8" ∷ codes "S9" ∷ codes "S10"
    ∷ codes "S11" ∷ codes "S12" ∷ codes "S13" ∷ codes "S14" ∷ codes "E1" ∷ codes "E2" ∷ codes "E3" ∷ codes "E4" ∷ codes "E5" ∷ codes "E6"
    ∷ codes "E7" ∷ codes "E8" ∷ codes "E9" ∷ codes "E10" ∷ codes "E11" ∷ codes "E12" ∷ codes "E13" ∷ codes "V1" ∷ codes "V2" ∷ codes "V3"
    ∷ codes "V4" ∷ codes "V5" ∷ codes "V6" ∷ []

-- the sentence of a code in these rows: what stands behind the first blank of its row
abbrev pub sentence_in : List (List ℕ) → List ℕ → Option (List ℕ)
sentence_in rows code = option_map (after_first (λ byte. byte == 32)) (find (λ row. bytes_eq code (code_in row)) rows)

-- the sentence of a code; a word that is no code has none
unfoldable pub sentence_of : List ℕ → Option (List ℕ)
sentence_of = sentence_in (map (λ row. row.now) ROWS)
