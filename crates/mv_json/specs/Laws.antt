-- The laws of reading and writing messages.
use Rattle.mv_json.specs.Words.{Data, Form, IsStrictlySortedBy, Message, Version, nat_cmp, result_err, slice_cmp}
use Rattle.mv_json.specs.Keys.{KeysAscend}
use Rattle.mv_json.specs.Meanings.{first_fault}
use Rattle.mv_json.specs.Members.{HasOnly}
use Rattle.mv_json.specs.Messages.{read_message, value_of}
use Rattle.mv_json.specs.Shapes.{form_at, version_at, IsLegal, Reads, meaning_of, fields_of, names_of}
use Rattle.std.specs.Prelude.{◌≡◌, ◌↔◌, Ok}

-- each legal message is read back from its value
abbrev pub ReadsBack : Type 0
ReadsBack = (message : Message) → IsLegal message → read_message (value_of message) ≡ Ok message

-- the value of a legal message is a spelling of it
abbrev pub ValuesSpell : Type 0
ValuesSpell = (message : Message) → IsLegal message → Reads (value_of message) message

-- a value is read as a message exactly where it is a spelling of it
abbrev pub ReadsExactly : Type 0
ReadsExactly = (value : Data) (message : Message) → (read_message value ≡ Ok message) ↔ Reads value message

-- what is read is legal
abbrev pub ReadIsLegal : Type 0
ReadIsLegal = (value : Data) (message : Message) → read_message value ≡ Ok message → IsLegal message

-- no value is a spelling of two messages
abbrev pub ReadsOne : Type 0
ReadsOne = (value : Data) (left right : Message) → Reads value left → Reads value right → left ≡ right

-- the fault of an object with a version, a form and the keys of that form is that of the first of its fields that has one
abbrev pub FirstFaultIsGiven : Type 0
FirstFaultIsGiven =
    (value : Data) (version : Version) (form : Form)
    → version_at value ≡ Ok version → form_at version value ≡ Ok form → HasOnly (names_of version form) value
    → result_err (read_message value) ≡ first_fault (meaning_of version form) (fields_of form) value

-- the fields of a message are in byte order of their names, each once
abbrev pub FieldsAreInOrder : Type 0
FieldsAreInOrder = (version : Version) (form : Form) → IsStrictlySortedBy (slice_cmp nat_cmp) (names_of version form)

-- the keys of each object in the value of a message ascend
abbrev pub KeysOfValuesAscend : Type 0
KeysOfValuesAscend = (message : Message) → KeysAscend (value_of message)
