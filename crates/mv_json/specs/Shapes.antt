-- The shape of each form of message: its version and its name, its fields, what each of them means, the message that their values make,
-- and what they say of it; and that of what was found of a pack.
use Rattle.mv_json.specs.Words.{Data, Field, Form, Kind, Message, MessageFault, NotObject, One, Two, Version, as_null, as_object, as_str, get, null, ok_or, option_map_or, result_ok, string}
use Rattle.mv_json.specs.Fields.{field_name, names_in}
use Rattle.mv_json.specs.Meanings.{part_of, made_at, object_of, AreSpelled, AreLegal, Meaning, as_written, exactly, Making, Values}
use Rattle.mv_json.specs.Members.{first_unknown, HasOnly}
use Rattle.mv_json.specs.Reading.{whole_number, ◌and_then◌, field_at, member_at}
use Rattle.mv_json.specs.Values.{whole, since_two}
use Rattle.mv_message.specs.declared.found.Found.{Found}
use Rattle.mv_message.specs.declared.found.Found.TheVariants.{Absent, Present}
use Rattle.mv_pack.specs.Keys.{pack_key, batch_key}
use Rattle.std.specs.Prelude.{⊤, ◌==◌, if◌then◌else◌, Option, Some, None, Result, Ok, Err, ℕ, List, [], ◌∷◌, codes, bytes_eq, find, ◌≡◌, false, is_some, IfSome, MatchOption}
use Rattle.mv_json.specs.declared.field.Field.TheVariants as fields
use Rattle.mv_json.specs.declared.form.Form.TheVariants as forms
use Rattle.mv_message.specs.declared.message.Message.TheVariants as messages

-- the version of an object, by what stands in `v`: 1 where nothing does; 2 where the whole number 2 does; else M5
unfoldable pub version_at : Data → Result Version MessageFault
version_at value = option_map_or
    (λ found. ok_or (whole_number found) (Kind fields.V) and_then λ number. if number == 2 then Ok Two else Err (Kind fields.V))
    (get (field_name fields.V) value) (Ok One)

-- ---- the forms of messages, by the version and the text of their field `msg`

-- the text of `msg` in a message of the form
abbrev pub form_name : Form → List ℕ
form_name forms.Answer = codes "answer"
form_name forms.Master = codes "master"
form_name forms.Query = codes "query"
form_name forms.Recall = codes "recall"
form_name forms.Repack = codes "repack"
form_name forms.Status = codes "status"
form_name forms.Upload = codes "upload"
form_name forms.Withdraw = codes "withdraw"

-- the form of a message
abbrev pub form_of : Message → Form
form_of (messages.Master gtin product) = forms.Master
form_of (messages.Upload gtin batch expiry national serials) = forms.Upload
form_of (messages.Status key to user at) = forms.Status
form_of (messages.Recall key at) = forms.Recall
form_of (messages.Repack before before_serials after after_serials at) = forms.Repack
form_of (messages.Withdraw gtin at) = forms.Withdraw
form_of (messages.Query key) = forms.Query
form_of (messages.Answer asker q key found) = forms.Answer

-- the forms of a version: a withdrawal came with the second
abbrev pub forms_of : Version → List Form
forms_of One = forms.Answer ∷ forms.Master ∷ forms.Query ∷ forms.Recall ∷ forms.Repack ∷ forms.Status ∷ forms.Upload ∷ []
forms_of Two = forms.Answer ∷ forms.Master ∷ forms.Query ∷ forms.Recall ∷ forms.Repack ∷ forms.Status ∷ forms.Upload ∷ forms.Withdraw ∷ []

-- the form came with that version, or before it
abbrev pub IsIn : Form → Version → Type 0
IsIn forms.Withdraw One = ⊥
IsIn form version = ⊤

-- the form of a version that a text of `msg` names
abbrev pub form_named : Version → List ℕ → Option Form
form_named version text = find (λ form. bytes_eq text (form_name form)) (forms_of version)

-- the form of an object: M3, M5
unfoldable pub form_at : Version → Data → Result Form MessageFault
form_at version value = field_at as_str fields.Msg value and_then λ text. ok_or (form_named version text) (Kind fields.Msg)

-- the fields of a pack that was found, in byte order of their names
abbrev pub present_fields : List Field
present_fields = fields.Batch ∷ fields.Expiry ∷ fields.National ∷ fields.Recalled ∷ fields.Standing ∷ fields.Withdrawn ∷ []

-- the pack that the fields of an object give
abbrev pub present_at : Version → Data → Result Found MessageFault
present_at version value =
    made_at (part_of version) present_fields
    (λ batch expiry national recalled standing withdrawn. Present batch expiry national standing recalled withdrawn) value

-- the pack that the fields of an object give, which has no other key
unfoldable pub present_of : Version → Data → Result Found MessageFault
present_of version value =
    ok_or (as_object value) NotObject and_then λ members.
    if is_some (first_unknown (names_in version present_fields) members) then Err (Kind fields.Found)
    else present_at version value

-- what a value says was found: nothing where it is `null`; M5 of `found` where it is neither `null` nor a legal pack
abbrev pub found_of : Version → Data → Result Found MessageFault
found_of version value =
    if is_some (as_null value) then Ok Absent else ok_or (result_ok (present_of version value)) (Kind fields.Found)

-- the first version that says all of what was found: the second where there is a national number, or the product is withdrawn
abbrev pub found_version : Found → Version
found_version Absent = One
found_version (Present batch expiry None standing recalled false) = One
found_version found = Two

-- what the fields of a pack say that was found, where one was
abbrev pub found_parts : (version : Version) → Found → Option (Values (part_of version) present_fields)
found_parts version Absent = None
found_parts version (Present batch expiry national standing recalled withdrawn) =
    Some (batch, (expiry, (national, (recalled, (standing, (withdrawn, tt))))))

-- the value of what was found
abbrev pub found_value : Version → Found → Data
found_value version found = option_map_or (object_of (part_of version) present_fields) (found_parts version found) null

-- a part is `null` where nothing was found, else an object with exactly the fields of the pack
abbrev pub SpellsFound : Version → Data → Found → Type 0
SpellsFound version part found = MatchOption (found_parts version found) (part ≡ null)
    (λ values. HasOnly (names_in version present_fields) part × AreSpelled (part_of version) present_fields values part)

-- what was found of a pack
abbrev pub pack_found : Version → Meaning
pack_found version = record {
  Value = Found;
  read = λ value. member_at fields.Found value and_then found_of version;
  written = λ found. Some (found_value version found);
  Spells = λ value found. (part : Data) × (get (field_name fields.Found) value ≡ Some part) × SpellsFound version part found;
  IsLegal = λ found. IfSome (found_parts version found) (AreLegal (part_of version) present_fields);
}

-- What each field of a message means, whose version and form were read before the other fields: their own two say nothing more.
abbrev pub meaning_of : Version → Form → Field → Meaning
meaning_of version form fields.Found = pack_found version
meaning_of version form fields.Msg = exactly {A = ⊤} (λ field value. Ok tt) (λ said. string (form_name form)) (λ said. ⊤) fields.Msg
meaning_of version form fields.V =
    as_written {A = ⊤} (λ field value. Ok tt) (λ said. since_two version None (Some (whole 2))) (λ said. ⊤) fields.V
meaning_of version form field = part_of version field

-- the fields of the messages of a form, in byte order of their names
abbrev pub fields_of : Form → List Field
fields_of forms.Answer = fields.Asker ∷ fields.Found ∷ fields.Gtin ∷ fields.Msg ∷ fields.Q ∷ fields.Serial ∷ fields.V ∷ []
fields_of forms.Master =
    fields.Common ∷ fields.Form ∷ fields.Gtin ∷ fields.Markets ∷ fields.Msg ∷ fields.Name ∷ fields.PackSize
    ∷ fields.PackType ∷ fields.Scheme ∷ fields.Strength ∷ fields.V ∷ []
fields_of forms.Query = fields.Gtin ∷ fields.Msg ∷ fields.Serial ∷ fields.V ∷ []
fields_of forms.Recall = fields.At ∷ fields.Batch ∷ fields.Gtin ∷ fields.Msg ∷ fields.V ∷ []
fields_of forms.Repack =
    fields.AfterBatch ∷ fields.AfterGtin ∷ fields.AfterSerials ∷ fields.At ∷ fields.BeforeBatch
    ∷ fields.BeforeGtin ∷ fields.BeforeSerials ∷ fields.Msg ∷ fields.V ∷ []
fields_of forms.Status = fields.At ∷ fields.Gtin ∷ fields.Msg ∷ fields.Serial ∷ fields.To ∷ fields.User ∷ fields.V ∷ []
fields_of forms.Upload =
    fields.Batch ∷ fields.Expiry ∷ fields.Gtin ∷ fields.Msg ∷ fields.National ∷ fields.Serials ∷ fields.V ∷ []
fields_of forms.Withdraw = fields.At ∷ fields.Gtin ∷ fields.Msg ∷ fields.V ∷ []

-- the message of a form that values of its fields make
abbrev pub making_of : (version : Version) → (form : Form) → Making (meaning_of version form) Message (fields_of form)
making_of version forms.Answer = λ asker found gtin msg q serial v. messages.Answer asker q (pack_key gtin serial) found
making_of version forms.Master = λ common form gtin markets msg name pack_size pack_type scheme strength v. messages.Master gtin (record {
  scheme = scheme;
  name = name;
  common = common;
  form = form;
  strength = strength;
  pack_type = pack_type;
  pack_size = pack_size;
  markets = markets;
})
making_of version forms.Query = λ gtin msg serial v. messages.Query (pack_key gtin serial)
making_of version forms.Recall = λ at batch gtin msg v. messages.Recall (batch_key gtin batch) at
making_of version forms.Repack =
    λ after_batch after_gtin after_serials at before_batch before_gtin before_serials msg v.
    messages.Repack (batch_key before_gtin before_batch) before_serials (batch_key after_gtin after_batch) after_serials at
making_of version forms.Status = λ at gtin msg serial to user v. messages.Status (pack_key gtin serial) to user at
making_of version forms.Upload = λ batch expiry gtin msg national serials v. messages.Upload gtin batch expiry national serials
making_of version forms.Withdraw = λ at gtin msg v. messages.Withdraw gtin at

-- the names of the fields of a form
abbrev pub names_of : Version → Form → List (List ℕ)
names_of version form = names_in version (fields_of form)

-- the message of a form that the fields of an object give
unfoldable pub message_at : Version → Form → Data → Result Message MessageFault
message_at version form value = made_at (meaning_of version form) (fields_of form) (making_of version form) value

-- ---- what the fields of each message say

-- What the fields of a message say in a version, in their order.
abbrev pub contents_of : (version : Version) → (message : Message) → Values (meaning_of version (form_of message)) (fields_of (form_of message))
contents_of version (messages.Master gtin product) =
    (product.common, (product.form, (gtin, (product.markets, (tt, (product.name, (product.pack_size, (product.pack_type, (product.scheme, (product.strength, (tt, tt)))))))))))
contents_of version (messages.Upload gtin batch expiry national serials) = (batch, (expiry, (gtin, (tt, (national, (serials, (tt, tt)))))))
contents_of version (messages.Status key to user at) = (at, (key.gtin, (tt, (key.serial, (to, (user, (tt, tt)))))))
contents_of version (messages.Recall key at) = (at, (key.batch, (key.gtin, (tt, (tt, tt)))))
contents_of version (messages.Repack before before_serials after after_serials at) =
    (after.batch, (after.gtin, (after_serials, (at, (before.batch, (before.gtin, (before_serials, (tt, (tt, tt)))))))))
contents_of version (messages.Withdraw gtin at) = (at, (gtin, (tt, (tt, tt))))
contents_of version (messages.Query key) = (key.gtin, (tt, (key.serial, (tt, tt))))
contents_of version (messages.Answer asker q key found) = (asker, (found, (key.gtin, (tt, (q, (key.serial, (tt, tt)))))))

-- ---- which messages are legal: their values are those of readers, and their texts and lists keep their limits

-- what each field says is legal
abbrev pub IsLegal : Message → Type 0
IsLegal message = AreLegal (meaning_of Two (form_of message)) (fields_of (form_of message)) (contents_of Two message)

-- ---- which JSON values are which messages, as a relation

-- the value is an object with exactly the fields of the message in a version that has its form, each a spelling of what the message's says
abbrev pub Reads : Data → Message → Type 0
Reads value message =
    (version : Version) × (IsIn (form_of message) version × HasOnly (names_of version (form_of message)) value
    × AreSpelled (meaning_of version (form_of message)) (fields_of (form_of message)) (contents_of version message) value)
