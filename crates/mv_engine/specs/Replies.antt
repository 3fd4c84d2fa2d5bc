-- The replies to lines, by a rule that says what a reply to one line may be.
use Rattle.std.specs.Prelude.{◌≡◌, ℕ, List, [], ◌∷◌, ◌++◌, ◌⊎◌, flat_map, Bool, true, false, Option, Some, None}
use Rattle.std.specs.List.{filter_map}
use Rattle.mv_engine.specs.Lines.{Line}

-- Which replies to a line are right: what answers before the line, the line, the reply's text, if there is one, and what answers the
-- next line.
abbrev pub ReplyRule : Type 0 → Type 1
ReplyRule S = S → Line → Option (List ℕ) → S → Type 0

-- the text, where it is said that there is one
abbrev pub said : Bool → List ℕ → Option (List ℕ)
said true text = Some text
said false text = None

-- A line got no reply, since memory was refused: what answers is as it was before the line, or as a right reply would leave it.
abbrev pub GotNoReply : {S : Type 0} → ReplyRule S → S → Line → S → Type 0
GotNoReply rule before line after = (after ≡ before) ⊎ ((text : Option (List ℕ)) × rule before line text after)

-- some bytes came behind the ones that stand ready to be written, and the fact holds of them
abbrev pub Readied : List ℕ → List ℕ → (List ℕ → Type 0) → Type 0
Readied old new Fact = (out : List ℕ) × (new ≡ old ++ out) × Fact out

-- each text, or its want, is a right reply to the line at its place
abbrev pub AreReplies : {S : Type 0} → ReplyRule S → S → List Line → List (Option (List ℕ)) → S → Type 0
AreReplies rule before [] [] after = after ≡ before
AreReplies {S = S} rule before (line ∷ lines) (text ∷ texts) after =
    (between : S) × rule before line text between × AreReplies rule between lines texts after
AreReplies rule before lines texts after = ⊥

-- the bytes of texts that each end by a line feed (10)
abbrev pub text_lines : List (List ℕ) → List ℕ
text_lines texts = flat_map (λ text. text ++ 10 ∷ []) texts

-- the texts that there are
abbrev pub said_texts : List (Option (List ℕ)) → List (List ℕ)
said_texts texts = filter_map (λ text. text) texts

-- these bytes are right replies to the lines, each ended by a line feed
abbrev pub IsReplies : {S : Type 0} → ReplyRule S → S → List Line → List ℕ → S → Type 0
IsReplies rule before lines out after =
    (texts : List (Option (List ℕ))) × (out ≡ text_lines (said_texts texts)) × AreReplies rule before lines texts after
