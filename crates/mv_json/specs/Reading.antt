-- What reading a part of a JSON value gives: its meaning, or the first fault.
use Rattle.mv_json.specs.Words.{Count, Data, Field, Items, Kind, MessageFault, Missing, Pack, PackFault, TextLength, as_array, as_null, as_number, as_str, as_u64, get, item, no_items, ok_or, option_transpose, read_code, result_map_both, standing_named}
use Rattle.mv_json.specs.Fields.{field_name}
use Rattle.mv_json.specs.Limits.{most_text_bytes}
use Rattle.mv_message.specs.declared.standing.Standing.{Standing}
use Rattle.serde_json.specs.Events.{items_len}
use Rattle.std.specs.Prelude.{◌≡◌, ◌≢◌, ℕ, ◌==◌, ◌||◌, ◌&&◌, nat_le, nat_lt, if◌then◌else◌, List, [], ◌∷◌, length, is_some, Option, Some, None, option_and_then, option_map, Result, Ok, Err, ◌^◌, not}

-- the next step on what was read, or the fault that there was
infixl 10 ◌and_then◌
abbrev pub ◌and_then◌ : {A B E : Type 0} → Result A E → (A → Result B E) → Result B E
(Ok meaning) and_then next = next meaning
(Err fault) and_then next = Err fault

-- what there is, or a fault made of the one that there was
abbrev pub map_err : {A E F : Type 0} → (E → F) → Result A E → Result A F
map_err fault_of result = result_map_both (λ x. x) fault_of result

-- the value of a field, else M3
abbrev pub member_at : Field → Data → Result Data MessageFault
member_at field value = ok_or (get (field_name field) value) (Missing field)

-- what a field is taken for, as a text, a whole number, `true` or `false`, or a list: M3, M5
unfoldable pub field_at : {A : Type 0} → (Data → Option A) → Field → Data → Result A MessageFault
field_at as_one field value = member_at field value and_then λ found. ok_or (as_one found) (Kind field)

-- what a reader of values makes of what a field is taken for: M3, M5, M6
unfoldable pub read_at : {A B : Type 0} → (Data → Option A) → (A → Result B PackFault) → Field → Data → Result B MessageFault
read_at as_one reader field value = field_at as_one field value and_then λ x. map_err (Pack field) (reader x)

-- the standing of a field: M3, M5
unfoldable pub standing_at : Field → Data → Result Standing MessageFault
standing_at field value = field_at as_str field value and_then λ text. ok_or (standing_named text) (Kind field)

-- a value, where the number that goes with it is 1 to most; else that fault
abbrev pub limited : {A : Type 0} → MessageFault → ℕ → ℕ → A → Result A MessageFault
limited fault most count x = if (count == 0) || nat_lt most count then Err fault else Ok x

-- the free text of a field, of 1 to 200 bytes: M3, M5, M8
unfoldable pub free_text_at : Field → Data → Result (List ℕ) MessageFault
free_text_at field value = field_at as_str field value and_then λ text. limited (TextLength field) most_text_bytes (length text) text

-- a text, or none where there is `null`; any other value is neither
abbrev pub text_or_null : Data → Option (Option (List ℕ))
text_or_null found = if is_some (as_null found) then Some None else option_map (λ text. Some text) (as_str found)

-- the national number of a field, or none: M3, M5, M6
unfoldable pub national_at : Field → Data → Result (Option (List ℕ)) MessageFault
national_at field value = read_at text_or_null (λ number. option_transpose (option_map read_code number)) field value

-- what each of these is, where each is something
abbrev pub each_of : {A : Type 0} → (Data → Option A) → Items → Option (List A)
each_of as_one no_items = Some []
each_of as_one (item value items) =
    option_and_then (λ first. option_map (λ rest. first ∷ rest) (each_of as_one items)) (as_one value)

-- the list that a value is, where each of its members is something
abbrev pub as_list : {A : Type 0} → (Data → Option A) → Data → Option (List A)
as_list as_one value = option_and_then (each_of as_one) (as_array value)

-- the list of a field, all of whose members are texts, 1 to most of them: M3, M5, M7
unfoldable pub texts_at : ℕ → Field → Data → Result Items MessageFault
texts_at most field value =
    field_at as_array field value and_then λ items.
    if not (is_some (each_of as_str items)) then Err (Kind field) else limited (Count field) most (items_len items) items

-- what a reader takes a member of a list for
abbrev pub read_item : {A : Type 0} → (List ℕ → Result A PackFault) → Field → Data → Result A MessageFault
read_item reader field value = ok_or (as_str value) (Kind field) and_then λ text. map_err (Pack field) (reader text)

-- what a reader takes each member of a list for, or the fault of the first bad one
abbrev pub read_items : {A : Type 0} → (List ℕ → Result A PackFault) → Field → Items → Result (List A) MessageFault
read_items reader field no_items = Ok []
read_items reader field (item value items) =
    read_item reader field value and_then λ first. read_items reader field items and_then λ rest. Ok (first ∷ rest)

-- what a reader takes the texts of a list for, which are 1 to most: M3, M5, M7, M6
unfoldable pub list_at : {A : Type 0} → (List ℕ → Result A PackFault) → ℕ → Field → Data → Result (List A) MessageFault
list_at reader most field value = texts_at most field value and_then read_items reader field

-- A function returned what reading gives, or that fault in its place.
abbrev pub GivesOr : {A E : Type 0} → Result A E → Result A E → E → Type 0
GivesOr (Ok meaning) reading other = reading ≡ Ok meaning
GivesOr (Err fault) reading other = fault ≢ other → reading ≡ Err fault

-- ---- whole numbers

-- the whole number that a value is; one with a fraction or an exponent is none
abbrev pub whole_number : Data → Option ℕ
whole_number value = option_and_then as_u64 (as_number value)

-- the whole number that a value is, from this one to 4,294,967,295
abbrev pub whole_from : ℕ → Data → Option ℕ
whole_from least value = option_and_then (λ n. if nat_le least n && nat_lt n (2 ^ 32) then Some n else None) (whole_number value)
