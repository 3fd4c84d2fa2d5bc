-- How a code is kept: in 20 bytes, with zeros behind its text.
use Rattle.std.specs.Prelude.{◌≡◌, ℕ, ◌==◌, not, take, Bool, List}
use Rattle.mv_pack.specs.Words.{count_by}
use Rattle.mv_pack.specs.Code.{IsCode, filled_up}

-- a byte stands for no character
abbrev pub is_zero : ℕ → Bool
is_zero byte = byte == 0

-- a byte is filled: it is not zero
abbrev pub is_filled : ℕ → Bool
is_filled byte = not (is_zero byte)

-- what stands before the zeros: as many bytes as are filled
abbrev pub text_before : List ℕ → List ℕ
text_before bytes = take (count_by is_filled bytes) bytes

-- a code with zeros behind it
abbrev pub IsFilledUp : List ℕ → Type 0
IsFilledUp bytes = IsCode (text_before bytes) × (bytes ≡ filled_up (text_before bytes))
