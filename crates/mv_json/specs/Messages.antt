-- Messages: what reading a value or bytes gives, where that takes memory, and the JSON value of each.
use Rattle.mv_json.specs.Words.{Data, Form, Message, MessageFault, NotJson, NotObject, One, Two, Unknown, Version, as_object, ok_or, option_map_or, read}
use Rattle.mv_json.specs.Meanings.{object_of}
use Rattle.mv_json.specs.Members.{first_unknown}
use Rattle.mv_json.specs.Reading.{◌and_then◌}
use Rattle.mv_json.specs.Shapes.{form_of, form_at, version_at, found_version, contents_of, fields_of, meaning_of, names_of, message_at}
use Rattle.std.specs.Prelude.{ℕ, List, if◌then◌else◌, Option, Some, None, Result, Err, ◌≡◌, Bool, true, false, ◌||◌, is_some, Ok}
use Rattle.std.specs.Str.{is_utf8}
use Rattle.mv_json.specs.declared.form.Form.TheVariants as forms
use Rattle.mv_message.specs.declared.message.Message.TheVariants as messages

-- The message that a value is, or the first fault: M2, M5 of `v`, those of `msg`, M4 with the first key that the form does not have,
-- then those of each field.
unfoldable pub read_message : Data → Result Message MessageFault
read_message value =
    ok_or (as_object value) NotObject and_then λ members.
    version_at value and_then λ version.
    form_at version value and_then λ form.
    option_map_or (λ key. Err (Unknown key)) (first_unknown (names_of version form) members) (message_at version form value)

-- the value of bytes, where they are text and JSON
abbrev pub json_value : List ℕ → Option Data
json_value bytes = if is_utf8 bytes then read bytes else None

-- the message that bytes are, or the first fault: M1, then those of their value
abbrev pub read_bytes : List ℕ → Result Message MessageFault
read_bytes bytes = ok_or (json_value bytes) NotJson and_then read_message

-- The first version that says all that a message holds: the second where it has a national number, is a withdrawal, or says that
-- the product of a pack is withdrawn.
abbrev pub message_version : Message → Version
message_version (messages.Upload gtin batch expiry (Some national) serials) = Two
message_version (messages.Withdraw gtin at) = Two
message_version (messages.Answer asker q key found) = found_version found
message_version message = One

-- the value of a message in a version
abbrev pub value_in : Version → Message → Data
value_in version message = object_of (meaning_of version (form_of message)) (fields_of (form_of message)) (contents_of version message)

-- the value of a message
abbrev pub value_of : Message → Data
value_of message = value_in (message_version message) message

-- ---- where reading a message takes memory: want of it stands in place of no other answer

-- the messages of a form hold free texts, or lists of markets or serial numbers
abbrev pub holds_texts : Form → Bool
holds_texts forms.Master = true
holds_texts forms.Repack = true
holds_texts forms.Status = true
holds_texts forms.Upload = true
holds_texts form = false

-- Reading this value may take memory: it is an object whose version and form are read, and memory is taken to name a key that the
-- form does not have, or to keep what it holds.
abbrev pub MayTakeMemory : Data → Type 0
MayTakeMemory value =
    (ok_or (as_object value) NotObject and_then λ members.
    version_at value and_then λ version.
    form_at version value and_then λ form.
    Ok (is_some (first_unknown (names_of version form) members) || holds_texts form)) ≡ Ok true
