-- The fields of a message, by the names that they bear in its JSON object.
use Rattle.std.specs.Prelude.{ℕ, Bool, true, false, List, map, filter, codes}
use Rattle.mv_json.specs.Words.{Field, One, Version}
use Rattle.mv_json.specs.declared.field.Field.TheVariants as fields

-- the name of a field
abbrev pub field_name : Field → List ℕ
field_name fields.AfterBatch = codes "after_batch"
field_name fields.AfterGtin = codes "after_gtin"
field_name fields.AfterSerials = codes "after_serials"
field_name fields.Asker = codes "asker"
field_name fields.At = codes "at"
field_name fields.Batch = codes "batch"
field_name fields.BeforeBatch = codes "before_batch"
field_name fields.BeforeGtin = codes "before_gtin"
field_name fields.BeforeSerials = codes "before_serials"
field_name fields.Common = codes "common"
field_name fields.Expiry = codes "expiry"
field_name fields.Form = codes "form"
field_name fields.Found = codes "found"
field_name fields.Gtin = codes "gtin"
field_name fields.Markets = codes "markets"
field_name fields.Msg = codes "msg"
field_name fields.Name = codes "name"
field_name fields.National = codes "national"
field_name fields.PackSize = codes "pack_size"
field_name fields.PackType = codes "pack_type"
field_name fields.Q = codes "q"
field_name fields.Recalled = codes "recalled"
field_name fields.Scheme = codes "scheme"
field_name fields.Serial = codes "serial"
field_name fields.Serials = codes "serials"
field_name fields.Standing = codes "standing"
field_name fields.Strength = codes "strength"
field_name fields.To = codes "to"
field_name fields.User = codes "user"
field_name fields.V = codes "v"
field_name fields.Withdrawn = codes "withdrawn"

-- Whether a field came with that version, or before it. What has the key `v` is not of version 1, so that there it may stand
-- among the fields.
abbrev pub is_in : Field → Version → Bool
is_in fields.National One = false
is_in fields.Withdrawn One = false
is_in field version = true

-- the names of fields in a version
abbrev pub names_in : Version → List Field → List (List ℕ)
names_in version listed = map field_name (filter (λ field. is_in field version) listed)
