-- Serial numbers, batch numbers and national numbers, as texts, by the GS1 General Specifications.
use Rattle.std.specs.Prelude.{ℕ, ◌+◌, ◌-◌, ◌∷◌, ◌++◌, [], ◌≤◌, ◌==◌, ◌&&◌, ◌||◌, not, Bool, List, length, take, drop, replicate, nat_le, nat_lt, if◌then◌else◌, IsTrue, Option, Some, None, Result, Ok, Err}
use Rattle.mv_pack.specs.Words.{Character, Empty, PackFault, TooLong, list_all, position_from}
use Rattle.mv_pack.specs.Gtin.{is_digit}
use Rattle.mv_pack.specs.Market.{is_capital}

-- a byte is one of the letters a to z
abbrev pub is_small_letter : ℕ → Bool
is_small_letter byte = nat_le 97 byte && nat_le byte 122

-- a byte is one of the 20 marks ! " % & ' ( ) * + , - . / : ; < = > ? _
abbrev pub is_mark : ℕ → Bool
is_mark byte =
    (nat_le 33 byte && nat_le byte 34) || (nat_le 37 byte && nat_le byte 47)
    || (nat_le 58 byte && nat_le byte 63) || (byte == 95)

-- a byte is one of the 82 characters of codes (GS1 General Specifications, section 7.11)
abbrev pub is_code_character : ℕ → Bool
is_code_character byte = is_digit byte || is_capital byte || is_small_letter byte || is_mark byte

-- the characters of a serial number at most (GS1 General Specifications, AI 21), which are those of all codes here
abbrev pub most_code_bytes : ℕ
most_code_bytes = 20

-- 1 to 20 characters of codes
abbrev pub IsCode : List ℕ → Type 0
IsCode text = (1 ≤ length text) × (length text ≤ most_code_bytes) × IsTrue (list_all is_code_character text)

-- the place of the first byte that is no character of codes, counted from zero
abbrev pub first_wrong : List ℕ → Option ℕ
first_wrong text = position_from (λ byte. not (is_code_character byte)) 0 text

-- a text whose first wrong byte stands at a place counted from zero; its fault counts from one
abbrev pub read_characters : List ℕ → Option ℕ → Result (List ℕ) PackFault
read_characters text None = Ok text
read_characters text (Some place) = Err (Character (place + 1))

-- what reading a text gives: the text, or the first fault
abbrev pub read_code : List ℕ → Result (List ℕ) PackFault
read_code text =
    if length text == 0 then Err Empty
    else (if nat_lt most_code_bytes (length text) then Err TooLong
    else read_characters text (first_wrong text))

-- a text with zeros behind it, 20 bytes in all
abbrev pub filled_up : List ℕ → List ℕ
filled_up text = text ++ replicate (most_code_bytes - length text) 0

-- what a code is hashed by: the first 16 of these bytes, and the others
abbrev pub code_pieces : List ℕ → List (List ℕ)
code_pieces text = take 16 (filled_up text) ∷ drop 16 (filled_up text) ∷ []
