-- The fields of an object as they are met, one after the other, in any order; what stands in those of a message; and the tokens of
-- JSON that these are read from.
use Rattle.std.specs.Prelude.{◌≡◌, ℕ, List, map, All, Contains, Some, ⊤, Bool, true, false, ◌≢◌, ◌<◌, [], ◌∷◌, length, suc, get_or, set, IfErr, IfOk, Result, Ok}
use Rattle.mv_json.specs.Words.{AllByRecursion, Data, Members, get, object, Field, IsCode, IsMarket, Items, Memory, MessageFault, PackFault, Token, array, boolean, null, option_map_or, string, view}
use Rattle.mv_json.specs.Members.{keys_of}
use Rattle.mv_json.specs.declared.object.Object.{Object}
use Rattle.mv_json.specs.declared.object.Place.{Place}
use Rattle.mv_json.specs.contracts.field.Field.{the_type}
use Rattle.mv_json.specs.declared.part.Entry.{Entry}
use Rattle.mv_json.specs.declared.part.Met.{Met}
use Rattle.mv_json.specs.declared.part.Part.{Part}
use Rattle.mv_json.specs.Meanings.{IsListOf}
use Rattle.mv_json.specs.Fields.{field_name}
use Rattle.mv_json.specs.Shapes.{found_of}
use Rattle.mv_json.specs.Limits.{most_markets, most_serials}
use Rattle.mv_json.specs.Met.{BeginWith}
use Rattle.mv_json.specs.Reading.{GivesOr}
use Rattle.mv_json.specs.Values.{strings, whole}
use denote.Enum.Declared.{tag_of}
use Rattle.json.specs.Token as token
use Rattle.mv_json.specs.declared.object.Object.TheVariants as objects
use Rattle.mv_json.specs.declared.object.Place.TheVariants as places
use Rattle.mv_json.specs.declared.part.Part.TheVariants as parts

-- an object has what was met under these names, each saying so of what stands there, and nothing else
pub record HasMet {Met : Type 0} (name : Met → List ℕ) (Says : Data → Met → Type 0) (found : Data) (all : List Met) : Type 0 where
  pub members : Members
  pub is : found ≡ object members
  pub says : All (λ met. (part : Data) × (get (name met) found ≡ Some part) × Says part met) all
  pub only : AllByRecursion (Contains (map name all)) (keys_of members)

-- a field is one of these
unfoldable pub IsOneOf : {Field : Type 0} → List Field → Field → Type 0
IsOneOf listed field = Contains listed field

-- the tokens are a text of which this holds, then the rest
abbrev pub BeginWithText : List Token → (List ℕ → Type 0) → List Token → Type 0
BeginWithText ts Holds rest = (text : List ℕ) × (ts ≡ token.string text ∷ rest) × Holds text

-- the tokens are texts that a reader takes for these, up to the end of their list, then the rest
abbrev pub BeginWithTexts : {A : Type 0} → (List ℕ → Result A PackFault) → List Token → List A → List Token → Type 0
BeginWithTexts reader ts [] rest = ts ≡ token.end_array ∷ rest
BeginWithTexts reader ts (x ∷ xs) rest =
    (more : List Token) × BeginWithText ts (λ text. reader text ≡ Ok x) more × BeginWithTexts reader more xs rest

-- what stands in a field says this part
abbrev pub IsPart : Data → Part → Type 0
IsPart found (parts.Found sighting) =
    (members : Members) × (found ≡ object members) × (found_of sighting.version found ≡ Ok sighting.found)
IsPart found (parts.Markets markets) = (found ≡ array (strings markets.items)) × IsListOf IsMarket most_markets markets.items
IsPart found parts.Null = found ≡ null
IsPart found (parts.Serials serials) = (found ≡ array (strings serials.items)) × IsListOf IsCode most_serials serials.items
IsPart found parts.Taken = (items : Items) × (found ≡ array items)
IsPart found (parts.Text text) = found ≡ string text.now
IsPart found (parts.Truth truth) = found ≡ boolean truth
IsPart found (parts.Whole number) = found ≡ whole number

-- a field, and what stands there
abbrev pub entry : Field → Part → Entry
entry field part = record { field = field; part = part }

-- the name of the field
abbrev pub entry_name : Entry → List ℕ
entry_name met = field_name met.field

-- the number of a field
unfoldable pub field_number : Field → ℕ
field_number field = tag_of the_type field

-- one more than the place of each field stands under its number
unfoldable pub ArePlaced : Met → Type 0
ArePlaced met = (k : ℕ) (d : Entry) → k < length met.entries.items
    → get_or met.places (field_number (get_or met.entries.items k d).field) 0 ≡ suc k

-- an object has these fields, and no other
abbrev pub HasEntries : Data → Met → Type 0
HasEntries found met =
    HasMet entry_name (λ part entry. IsPart part entry.part) found met.entries.items × ArePlaced met

-- the tokens are a value that says this part, then the rest
abbrev pub BeginWithPart : ℕ → List Token → Part → List Token → Type 0
BeginWithPart deep ts part rest = (found : Data) × BeginWith deep ts found rest × IsPart found part

-- the tokens are an object that has these fields, and no other, then the rest
abbrev pub BeginWithEntries : ℕ → List Token → Met → List Token → Type 0
BeginWithEntries deep ts met rest = (found : Data) × BeginWith deep ts found rest × HasEntries found met

-- how deep what stands in an object nests at most, by whether the object stands inside another
abbrev pub deep_in : Bool → ℕ
deep_in true = 0
deep_in false = 1

-- the object is that value
abbrev pub Stands : Data → Object → Type 0
Stands value (objects.Met met) = HasEntries value met
Stands value (objects.Value said) = value ≡ view said.now

-- what stands in a field is that value
abbrev pub IsPlace : Data → Place → Type 0
IsPlace found (places.Part part) = IsPart found part.now
IsPlace found (places.Value said) = found ≡ view said.now

-- what stands in a field of a value, or `null` where nothing does
unfoldable pub there : Field → Data → Data
there field value = option_map_or (λ found. found) (get (field_name field) value) null

-- that stands in a field of a value
abbrev pub IsThere : Field → Data → Place → Type 0
IsThere field value place = (get (field_name field) value ≡ Some (there field value)) × IsPlace (there field value) place

-- it is no object of fields that were met
abbrev pub IsValue : Object → Type 0
IsValue (objects.Met met) = ⊥
IsValue (objects.Value said) = ⊤

-- a reading of the object gives this, whatever value it is, and takes no memory
abbrev pub Gives : {A : Type 0} → (Data → Result A MessageFault) → Object → Result A MessageFault → Type 0
Gives reading from result =
    ((value : Data) → Stands value from → result ≡ reading value) × IfErr result (λ fault. fault ≢ Memory)

-- a reading of the object gives this, or want of memory stands in its place
abbrev pub MayGive : {A : Type 0} → (Data → Result A MessageFault) → Object → Result A MessageFault → Type 0
MayGive reading from result = (value : Data) → Stands value from → GivesOr result (reading value) Memory

-- the same, after which the object is that value still
abbrev pub Takes : {A : Type 0} → (Data → Result A MessageFault) → Object → Object → Result A MessageFault → Type 0
Takes reading old new result = (value : Data) → Stands value old → GivesOr result (reading value) Memory × IfOk result (λ x. Stands value new)

-- that part was taken out of the field
pub record IsTaken (old : Met) (field : Field) (part : Part) (new : Met) : Type 0 where
  pub place : ℕ
  pub within : place < length old.entries.items
  pub was : get_or old.entries.items place (entry field part) ≡ entry field part
  pub taken : new.entries.items ≡ set old.entries.items place (entry field parts.Taken)
  pub kept : new.places ≡ old.places
