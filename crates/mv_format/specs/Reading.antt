-- What reading a field of a line gives: its meaning, or the first fault.
use Rattle.std.specs.Prelude.{◌^◌, ℕ, nat_lt, if◌then◌else◌, is_ok, List, Option, Some, None, option_and_then, Result, Ok, Err, ok_or}
use Rattle.mv_format.specs.Words.{Data, InMessage, Kind, LineFault, LineField, Market, Message, Missing, Pack, PackFault, as_list, as_str, get, list_all, map_err, read_market, read_message, whole_number, ◌and_then◌}
use Rattle.mv_format.specs.Fields.{field_name}
use Rattle.mv_format.specs.declared.field.LineField.TheVariants as fields

-- the value of a field, else M3
abbrev pub member_at : LineField → Data → Result Data LineFault
member_at field value = ok_or (get (field_name field) value) (Missing field)

-- the text of a field: M3, M5
abbrev pub text_at : LineField → Data → Result (List ℕ) LineFault
text_at field value = member_at field value and_then λ found. ok_or (as_str found) (Kind field)

-- what a reader makes of the text of a field: M3, M5, M6
unfoldable pub read_at : {A : Type 0} → (List ℕ → Result A PackFault) → LineField → Data → Result A LineFault
read_at reader field value = text_at field value and_then λ text. map_err (Pack field) (reader text)

-- a number of at most 32 bits
abbrev pub of_32_bits : ℕ → Option ℕ
of_32_bits number = if nat_lt number (2 ^ 32) then Some number else None

-- the whole number of a field, up to 4,294,967,295: M3, M5
unfoldable pub number_at : LineField → Data → Result ℕ LineFault
number_at field value = member_at field value and_then λ found. ok_or (option_and_then of_32_bits (whole_number found)) (Kind field)

-- the message of a line: M3, then the message's own faults
unfoldable pub message_at : Data → Result Message LineFault
message_at value = member_at fields.Message value and_then λ found. map_err InMessage (read_message found)

-- the lists of markets of a field: M3; M5 where it is no list of lists of texts; M6 with P8 where a text is no market
unfoldable pub market_lists_at : LineField → Data → Result (List (List (List ℕ))) LineFault
market_lists_at field value =
    member_at field value and_then λ found. ok_or (as_list (as_list as_str) found) (Kind field) and_then λ lists.
    if list_all (list_all (λ text. is_ok (read_market text))) lists then Ok lists else Err (Pack field Market)
