-- What a field means: how its values are read, written and spelled, and which are legal; what the fields of an object say; and the table
-- of what each field means that is no object.
use Rattle.mv_json.specs.Words.{AllByRecursion, Data, Field, IsCode, IsExpiry, IsGtin, IsMarket, IsMoment, Members, MessageFault, PackFault, Version, array, as_bool, as_str, boolean, expiry_text, get, member, no_members, null, object, option_map_or, option_or, read_code, read_expiry, read_gtin, read_market, read_moment, result_err, standing_name, string}
use Rattle.mv_json.specs.Fields.{field_name}
use Rattle.mv_json.specs.Limits.{most_markets, most_serials, most_text_bytes}
use Rattle.mv_json.specs.Reading.{◌and_then◌, field_at, read_at, whole_number, whole_from, list_at, standing_at, free_text_at, national_at}
use Rattle.mv_json.specs.Values.{since_two, strings, whole}
use Rattle.std.specs.Prelude.{⊤, ◌≡◌, ℕ, List, [], ◌∷◌, Option, Some, None, Result, Ok, ◌≤◌, ◌<◌, ◌^◌, IfSome, false, length}
use Rattle.mv_json.specs.declared.field.Field.TheVariants as fields

-- What a field means: the values that it has, how one is read of an object, how it is written, if it is said at all, which
-- objects spell it, and which values are legal.
pub record Meaning : Type 1 where
  pub Value : Type 0
  pub read : Data → Result Value MessageFault
  pub written : Value → Option Data
  pub Spells : Data → Value → Type 0
  pub IsLegal : Value → Type 0

-- legal values, which have no spelling but as they are written, or left out
abbrev pub as_written : {A : Type 0} → (Field → Data → Result A MessageFault) → (A → Option Data) → (A → Type 0) → Field → Meaning
as_written {A} read written IsLegal field = record {
  Value = A;
  read = read field;
  written = written;
  Spells = λ value x. (get (field_name field) value ≡ written x) × IsLegal x;
  IsLegal = IsLegal;
}

-- the same of values that are always written
abbrev pub exactly : {A : Type 0} → (Field → Data → Result A MessageFault) → (A → Data) → (A → Type 0) → Field → Meaning
exactly read value_of IsLegal field = as_written read (λ x. Some (value_of x)) IsLegal field

-- values that are written as a text, and spelled by all texts that a reader takes for them
abbrev pub text_of : {A : Type 0} → (List ℕ → Result A PackFault) → (A → List ℕ) → (A → Type 0) → Field → Meaning
text_of reader text IsLegal field = record (exactly (read_at as_str reader) (λ x. string (text x)) IsLegal field) {
  Spells = λ value x. (said : List ℕ) × (get (field_name field) value ≡ Some (string said)) × (reader said ≡ Ok x);
}

-- what a field means that came with the second version: of the first the value is always that which stood before
abbrev pub from_two : Version → (meaning : Meaning) → meaning.Value → Meaning
from_two version meaning before = record meaning {
  read = λ value. since_two version (Ok before) (meaning.read value);
  written = λ x. since_two version None (meaning.written x);
  Spells = λ value x. since_two version (x ≡ before) (meaning.Spells value x);
  IsLegal = λ x. since_two version (x ≡ before) (meaning.IsLegal x);
}

-- what values of these fields make
abbrev pub Making : (Field → Meaning) → Type 0 → List Field → Type 0
Making meaning A [] = A
Making meaning A (field ∷ rest) = (meaning field).Value → Making meaning A rest

-- what the fields of an object make, each of which is read in its turn
abbrev pub made_at : {A : Type 0} → (meaning : Field → Meaning) → (listed : List Field) → Making meaning A listed → Data → Result A MessageFault
made_at meaning [] made value = Ok made
made_at meaning (field ∷ rest) makes value = (meaning field).read value and_then λ x. made_at meaning rest (makes x) value

-- the fault of the first of these fields that has one, each looked at by itself
abbrev pub first_fault : (Field → Meaning) → List Field → Data → Option MessageFault
first_fault meaning [] value = None
first_fault meaning (field ∷ rest) value = option_or (result_err ((meaning field).read value)) (first_fault meaning rest value)

-- values of these fields, one for each
abbrev pub Values : (Field → Meaning) → List Field → Type 0
Values meaning [] = ⊤
Values meaning (field ∷ rest) = (meaning field).Value × Values meaning rest

-- the members of an object whose fields have these values; where nothing is said there is no member
abbrev pub members_saying : (meaning : Field → Meaning) → (listed : List Field) → Values meaning listed → Members
members_saying meaning [] values = no_members
members_saying meaning (field ∷ rest) values =
    let members = members_saying meaning rest values.1 in
    option_map_or (λ value. member (field_name field) value members) ((meaning field).written values.0) members

-- the object whose fields have these values
abbrev pub object_of : (meaning : Field → Meaning) → (listed : List Field) → Values meaning listed → Data
object_of meaning listed values = object (members_saying meaning listed values)

-- that holds of the value of each of these fields
abbrev pub EachHolds : (meaning : Field → Meaning) → ((field : Field) → (meaning field).Value → Type 0) → (listed : List Field) → Values meaning listed → Type 0
EachHolds meaning Holds [] values = ⊤
EachHolds meaning Holds (field ∷ rest) values = Holds field values.0 × EachHolds meaning Holds rest values.1

-- the fields of the object spell these values
abbrev pub AreSpelled : (meaning : Field → Meaning) → (listed : List Field) → Values meaning listed → Data → Type 0
AreSpelled meaning listed values value = EachHolds meaning (λ field x. (meaning field).Spells value x) listed values

-- these values are legal
abbrev pub AreLegal : (meaning : Field → Meaning) → (listed : List Field) → Values meaning listed → Type 0
AreLegal meaning listed values = EachHolds meaning (λ field x. (meaning field).IsLegal x) listed values

-- 1 to most texts of which that holds
abbrev pub IsListOf : (List ℕ → Type 0) → ℕ → List (List ℕ) → Type 0
IsListOf Holds most texts = (1 ≤ length texts) × (length texts ≤ most) × AllByRecursion Holds texts

-- a product code
abbrev pub product_code : Field → Meaning
product_code = text_of read_gtin (λ gtin. gtin) IsGtin

-- a serial number or a batch number
abbrev pub code : Field → Meaning
code = exactly (read_at as_str read_code) string IsCode

-- serial numbers
abbrev pub serial_list : Field → Meaning
serial_list = exactly (list_at read_code most_serials) (λ serials. array (strings serials)) (IsListOf IsCode most_serials)

-- the standing of a pack
abbrev pub pack_standing : Field → Meaning
pack_standing = exactly standing_at (λ standing. string (standing_name standing)) (λ standing. ⊤)

-- What kind of values each field has in a version: free texts, where nothing else is said. The numbers of parties and queries
-- have 32 bits, as their types say.
abbrev pub kind_of : Version → Field → Field → Meaning
kind_of version fields.AfterBatch = code
kind_of version fields.AfterGtin = product_code
kind_of version fields.AfterSerials = serial_list
kind_of version fields.Asker = exactly (field_at (whole_from 0)) whole (λ party. party < 2 ^ 32)
kind_of version fields.At = exactly (read_at whole_number read_moment) whole IsMoment
kind_of version fields.Batch = code
kind_of version fields.BeforeBatch = code
kind_of version fields.BeforeGtin = product_code
kind_of version fields.BeforeSerials = serial_list
kind_of version fields.Expiry = text_of read_expiry expiry_text IsExpiry
kind_of version fields.Gtin = product_code
kind_of version fields.Markets =
    exactly (list_at read_market most_markets) (λ markets. array (strings markets)) (IsListOf IsMarket most_markets)
kind_of version fields.National = λ field.
    from_two version (exactly national_at (λ number. option_map_or string number null) (λ number. IfSome number IsCode) field) None
kind_of version fields.Q = exactly (field_at (whole_from 1)) whole (λ number. (1 ≤ number) × (number < 2 ^ 32))
kind_of version fields.Recalled = exactly (field_at as_bool) boolean (λ truth. ⊤)
kind_of version fields.Serial = code
kind_of version fields.Serials = serial_list
kind_of version fields.Standing = pack_standing
kind_of version fields.To = pack_standing
kind_of version fields.Withdrawn = λ field. from_two version (exactly (field_at as_bool) boolean (λ truth. ⊤) field) false
kind_of version field = exactly free_text_at string (λ text. (1 ≤ length text) × (length text ≤ most_text_bytes))

-- what each field means that is no object, and is neither the version nor the form
abbrev pub part_of : Version → Field → Meaning
part_of version field = kind_of version field field
