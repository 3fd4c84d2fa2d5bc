-- What stands in the fields of a line, as they are met in its object; the tokens of JSON that it is read from; and what reading lists
-- of markets gives, one member after the other.
use Rattle.std.specs.Prelude.{ℕ, if◌then◌else◌, is_some, List, [], ◌∷◌, ◌++◌, Contains, Option, Some, None, option_map, Result, Ok, Err, ok_or, true, ◌≡◌, ◌⊎◌, ◌<◌, ◌^◌}
use Rattle.mv_format.specs.Words.{Data, Items, Kind, LineFault, LineField, LineKind, Pack, as_array, as_list, as_str, each_of, item, map_err, no_items, read_market, ◌and_then◌, Request, Token, read_message, string, whole}
use Rattle.mv_format.specs.Reading.{member_at}
use Rattle.mv_json.specs.Met.{BeginWith}
use Rattle.mv_json.specs.inside.Parts.{HasMet}
use Rattle.mv_format.specs.declared.line_fields.LineFields.{LineFields}
use Rattle.mv_message.specs.declared.message.Message.{Message as AMessage}
use Rattle.mv_format.specs.Fields.{field_name}
use Rattle.mv_format.specs.Kinds.{shape_of}
use Rattle.mv_format.specs.Requests.{asked_at, read_request}
use Rattle.mv_format.specs.declared.field.LineField.TheVariants as fields

-- what each member of a list is read as, in its order, or the fault of the first bad one
abbrev pub read_all : {A : Type 0} → (Data → Result A LineFault) → Items → Result (List A) LineFault
read_all read no_items = Ok []
read_all read (item value items) = read value and_then λ first. read_all read items and_then λ rest. Ok (first ∷ rest)

-- a market of a list
abbrev pub market_item : LineField → Data → Result (List ℕ) LineFault
market_item field value = ok_or (as_str value) (Kind field) and_then λ text. map_err (Pack field) (read_market text)

-- the markets of a member that is a list
abbrev pub market_list : LineField → Data → Result (List (List ℕ)) LineFault
market_list field value = ok_or (as_array value) (Kind field) and_then read_all (market_item field)

-- the lists of markets of a field, whose members are looked at twice: whether all are lists of texts, and then which markets
unfoldable pub walked_lists_at : LineField → Data → Result (List (List (List ℕ))) LineFault
walked_lists_at field value =
    member_at field value and_then λ found.
    ok_or (as_array found) (Kind field) and_then λ items.
    if is_some (each_of (as_list as_str) items) then read_all (market_list field) items else Err (Kind field)

-- what reading gives, behind what was read before
abbrev pub with_front : {A : Type 0} → List A → Result (List A) LineFault → Result (List A) LineFault
with_front front reading = reading and_then λ rest. Ok (front ++ rest)

-- what stands in a field, as its tokens say
pub data LinePart : Type 0 where
  Message : AMessage → LinePart
  Number : ℕ → LinePart  -- of 32 bits
  Text : List ℕ → LinePart

-- what a value says
abbrev pub IsPart : Data → LinePart → Type 0
IsPart found (Message message) = read_message found ≡ Ok message
IsPart found (Number number) = (found ≡ whole number) × (number < 2 ^ 32)
IsPart found (Text text) = found ≡ string text

-- what was met in a field
abbrev pub met_of : LineFields → LineField → Option LinePart
met_of met fields.Do = option_map (λ text. Text text.now) met.asked
met_of met fields.From = option_map Number met.from
met_of met fields.Gtin = option_map (λ text. Text text.now) met.gtin
met_of met fields.Message = option_map Message met.message
met_of met fields.Number = option_map Number met.number
met_of met fields.Party = option_map Number met.party
met_of met fields.Q = option_map Number met.q
met_of met fields.Serial = option_map (λ text. Text text.now) met.serial
met_of met fields.To = option_map Number met.to
met_of met other = None

-- a value is what was met in a field
abbrev pub IsMet : LineFields → Data → LineField → Type 0
IsMet met found field = (part : LinePart) × (met_of met field ≡ Some part) × IsPart found part

-- no field was met but these
abbrev pub AreAll : LineFields → List LineField → Type 0
AreAll met named = (field : LineField) → is_some (met_of met field) ≡ true → Contains named field

-- an object has the fields that were met, and no other
abbrev pub HasFields : Data → LineFields → Type 0
HasFields found met = (named : List LineField) × HasMet field_name (IsMet met) found named × AreAll met named

-- the field was met now, and no other: this stands in it
pub record Meets (old : LineFields) (field : LineField) (part : LinePart) (new : LineFields) : Type 0 where
  pub free : met_of old field ≡ None
  pub met : met_of new field ≡ Some part
  pub others : (other : LineField) → (other ≡ field) ⊎ (met_of new other ≡ met_of old other)

-- the tokens are a value that says this part, then the rest
abbrev pub BeginWithPart : List Token → LinePart → List Token → Type 0
BeginWithPart ts part rest = (found : Data) × BeginWith 2 ts found rest × IsPart found part

-- the tokens are an object that has the fields that were met, and no other, then the rest
abbrev pub BeginWithFields : List Token → LineFields → List Token → Type 0
BeginWithFields ts met rest = (found : Data) × BeginWith 3 ts found rest × HasFields found met

-- what the fields of a line of a kind ask, one after the other
abbrev pub asked_by : LineKind → Data → Result Request LineFault
asked_by kind value = asked_at (shape_of kind).0 (shape_of kind).1 value

-- the tokens are an object that asks this, then the rest
abbrev pub Asks : List Token → Request → List Token → Type 0
Asks ts request rest = (found : Data) × BeginWith 3 ts found rest × (read_request found ≡ Ok request)
