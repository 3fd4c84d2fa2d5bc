-- What stands in the fields of a line: its tokens, and what it asks.
use Rattle.mv_format.proofs.Words.{All, AreMet, Contains, Contains-append_left, Contains-push, Data, IsUtf8, LineField, LineKind, List, None, Ok, Option, Request, Some, Token, [], all_met, ap, arith, as_object, begin_object, begun_shorter, converted_some, end_object, field_name, get, IfSome, option_map, string, text_begins, is_some, key, keys_of, kind_at, kind_named, known_only, length, lt-ltb, message_at, names_of, nat_tests, none_met, none_unknown, number_at, one_more_met, read_at, read_line, read_request, refl, request_at, stands, text_at, tokens, true, unsigned, whole, whole_begins, ℕ, ◌++◌, ◌<◌, ◌^◌, ◌∷◌, ◌≡◌, ◌≢◌, ◌⊎◌, utf8_test, AreAll, Asks, asked_by, BeginWithFields, BeginWithPart, HasFields, IsMet, IsPart, LinePart, Meets, Message, Number, Text, met_of, shape_of}
use Rattle.mv_format.specs.Words.{read_code, read_gtin}
use Rattle.mv_format.specs.declared.line_fields.LineFields.{LineFields}
use Rattle.mv_message.specs.declared.message.Message.{Message as AMessage}
use Rattle.serde_json.specs.Read.{number_of}
use Rattle.std.specs.Prelude.{suc}
use Rattle.mv_json.specs.inside.Parts.{IsOneOf}
use Rattle.std.proofs.Common.{inl, inr, sym}
use Rattle.json.specs.Token as token
use Rattle.mv_format.specs.declared.field.LineField.TheVariants as fields

-- ---- tokens

-- a value that is a whole number of 32 bits
pub number_says : (ts rest : List Token) (n : ℕ) (text : List ℕ) → ts ≡ token.number text ∷ rest → number_of text ≡ Some (unsigned n) → n < 2 ^ 32
    → BeginWithPart ts (Number n) rest
number_says ts rest n text is numbered within = (whole n, rw is (whole_begins 2 n text rest numbered), (refl, within))

-- ---- names

-- two fields have two names
name_apart : (f g : LineField) → f ≢ g → field_name f ≡ field_name g → ⊥
name_apart f g apart same = grind (arith, nat_tests)

-- ---- fields that are met

-- the tokens up to there are members that have the fields that were met, and no other
abbrev pub AreFields : List Token → LineFields → List Token → Type 0
AreFields start met rest = (named : List LineField) × AreMet field_name (IsMet met) 2 start named rest × AreAll met named

pub no_field : (start : List Token) (met : LineFields) → ((field : LineField) → met_of met field ≡ None) → AreFields start met start
no_field start met none = ([], none_met field_name (IsMet met) 2 start, λ field is. grind (arith, none field))

pub one_more_field : (start more rest : List Token) (old new : LineFields) (field : LineField) (part : LinePart)
    → AreFields start old (key (field_name field) ∷ more) → BeginWithPart more part rest → Meets old field part new → AreFields start new rest
one_more_field start more rest old new field part (named, are, all) (found, begins, is) meets =
    let apart : All (λ other. other ≢ field) named = λ k d h.
    let (there, at, (was, stood, so)) = are.says k d h in λ same. grind (arith, meets.free, stood, same) in
    let kept : AreMet field_name (IsMet new) 2 start named (key (field_name field) ∷ more) = record {
      members = are.members;
      come = are.come;
      says = λ k d h.
          let (there, at, (was, stood, so)) = are.says k d h in
          (there, at, (was, grind (arith, meets.others, apart k d h), so));
      only = are.only;
    } in (
      named ++ field ∷ [],
      one_more_met field_name (IsMet new) 2 start more rest named _ field found kept begins (part, meets.met, is)
          (refl, λ k d h. name_apart _ field (apart k d h)),
      λ other there. grind (arith, meets.others other, all other, Contains-push named field, Contains-append_left named (field ∷ []) other),
    )

pub all_fields : (start rest : List Token) (met : LineFields) → AreFields start met (end_object ∷ rest) → BeginWithFields (begin_object ∷ start) met rest
all_fields start rest met (named, are, all) =
    let (found, begins, has) = all_met field_name (IsMet met) 2 start rest named are in (found, begins, (named, has, all))

-- a part takes tokens
pub part_shorter : (ts rest : List Token) (part : LinePart) → BeginWithPart ts part rest → length rest < length ts
part_shorter ts rest part (found, begins, says) = begun_shorter 2 ts rest found begins

-- ---- fields that are taken out

-- a field is one of these
abbrev pub AnyOf : LineField → List LineField → Type 0
AnyOf field [] = ⊥
AnyOf field (first ∷ rest) = (field ≡ first) ⊎ AnyOf field rest

-- what was met are the fields that were taken out, and those that were met of what is left
pub taken : (old left : LineFields) (out listed : List LineField) → AreAll left listed
    → ((field : LineField) → AnyOf field out ⊎ (met_of left field ≡ met_of old field)) → AreAll old (out ++ listed)
taken old left out listed all apart field some = among out (apart field)
  where
    among : (out : List LineField) → AnyOf field out ⊎ (met_of left field ≡ met_of old field) → Contains (out ++ listed) field
    among [] (inl none) = elim none [ ]
    among [] (inr kept) = all field (rw kept some)
    among (first ∷ rest) (inl (inl same)) = (0, omega arith, sym same)
    among (first ∷ rest) (inl (inr later)) = let (k, within, is) = among rest (inl later) in (suc k, omega (arith, within), is)
    among (first ∷ rest) (inr kept) = let (k, within, is) = among rest (inr kept) in (suc k, omega (arith, within), is)

-- ---- what a field is read as

-- what was met in a field stands there
there_is : (value : Data) (met : LineFields) (field : LineField) (part : LinePart) → met_of met field ≡ Some part → HasFields value met
    → (there : Data) × (get (field_name field) value ≡ Some there) × IsPart there part
there_is value met field part is (named, has, all) =
    let (there, at, (was, stood, so)) = stands field has (all field (rw is refl)) in
    (there, at, grind (arith, so))

-- so a text is what its field is read as
text_told : (met : LineFields) (field : LineField) (text : List ℕ) → met_of met field ≡ Some (Text text) → (value : Data) → HasFields value met
    → text_at field value ≡ Ok text
text_told met field text is value has = let (there, at, so) = there_is value met field (Text text) is has in rw (at, so)

-- and its kind, where it is that of `do`
kind_told : (met : LineFields) (text : List ℕ) (kind : LineKind) → met_of met fields.Do ≡ Some (Text text) → kind_named text ≡ Some kind
    → (value : Data) → HasFields value met → kind_at value ≡ Ok kind
unfolding kind_at
kind_told met text kind is named value has = rw (text_told met fields.Do text is value has, named)

-- or what is read of it
pub gtin_told : (met : LineFields) (text gtin : List ℕ) → met_of met fields.Gtin ≡ Some (Text text) → read_gtin text ≡ Ok gtin → (value : Data)
    → HasFields value met → read_at read_gtin fields.Gtin value ≡ Ok gtin
unfolding read_at
gtin_told met text gtin is reads value has = rw (text_told met fields.Gtin text is value has, reads)

pub serial_told : (met : LineFields) (text serial : List ℕ) → met_of met fields.Serial ≡ Some (Text text) → read_code text ≡ Ok serial → (value : Data)
    → HasFields value met → read_at read_code fields.Serial value ≡ Ok serial
unfolding read_at
serial_told met text serial is reads value has = rw (text_told met fields.Serial text is value has, reads)

-- a number
pub number_told : (met : LineFields) (field : LineField) (n : ℕ) → met_of met field ≡ Some (Number n) → (value : Data) → HasFields value met
    → number_at field value ≡ Ok n
unfolding number_at
number_told met field n is value has = let (there, at, (so, within)) = there_is value met field (Number n) is has in rw (at, so, lt-ltb _ _ within)

-- and a message
pub message_told : (met : LineFields) (message : AMessage) → met.message ≡ Some message → (value : Data) → HasFields value met → message_at value ≡ Ok message
unfolding message_at
message_told met message is value has = let (there, at, so) = there_is value met fields.Message (Message message) (rw is refl) has in rw (at, so)

-- ---- what a line asks

-- an object that has no other field than those of its kind asks what they do
pub request_read : (met : LineFields) (text : List ℕ) (kind : LineKind) (request : Request) → met_of met fields.Do ≡ Some (Text text) → kind_named text ≡ Some kind
    → AreAll met (fields.Do ∷ (shape_of kind).0)
    → (value : Data) → HasFields value met → asked_by kind value ≡ Ok request → read_request value ≡ Ok request
unfolding read_request request_at IsOneOf
request_read met text kind request asked is among value (named, has, all) asks =
    let known_fields : All (IsOneOf (fields.Do ∷ (shape_of kind).0)) named = λ k d h. let (there, at, (was, stood, so)) = has.says k d h in among _ (rw stood refl) in
    let (members, is_object, known) = known_only field_name (λ field. field) (fields.Do ∷ (shape_of kind).0) has known_fields in
    let opened : as_object value ≡ Some members = ap as_object is_object in
    rw (opened, kind_told met text kind asked is value (named, has, all), none_unknown (names_of kind) (keys_of members) known) asks

-- the line asks what its tokens ask
pub line_asks : (s : List ℕ) (request : Request) → IsUtf8 s → Asks (tokens s) request [] → read_line s ≡ Ok request
line_asks s request utf8 (found, begins, asks) = grind (arith, nat_tests, converted_some, utf8_test)

-- ---- what a place holds

-- what was put into the place of a field was met there
pub part_put : {A : Type 0} (make : A → LinePart) (value : Option A) (ts rest : List Token) {old new : LineFields} {field : LineField}
    {before after : Option A} → met_of old field ≡ option_map make before → met_of new field ≡ option_map make after
    → (before ≡ None) × (after ≡ value) × (is_some value ≡ true) → IfSome value (λ x. BeginWithPart ts (make x) rest)
    → ((other : LineField) → (other ≡ field) ⊎ (met_of new other ≡ met_of old other))
    → (part : LinePart) × BeginWithPart ts part rest × Meets old field part new
part_put make (Some x) ts rest was now (none, put, some) is others =
    (make x, is, record { free = rw was (rw none refl); met = rw now (rw put refl); others = others })
part_put make None ts rest was now (none, put, some) is others = absurd (grind (arith, some))

-- a text that was taken is a part
pub text_taken : {A : Type 0} (text_of : A → List ℕ) (value : Option A) (ts rest : List Token)
    → IfSome value (λ x. ts ≡ token.string (text_of x) ∷ rest) → IfSome value (λ x. BeginWithPart ts (Text (text_of x)) rest)
text_taken text_of (Some x) ts rest is = (string (text_of x), rw is (text_begins 2 (text_of x) rest), refl)
text_taken text_of None ts rest is = tt
