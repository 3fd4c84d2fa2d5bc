-- The fields of a line, by the names that they bear in its JSON object.
use Rattle.std.specs.Prelude.{ℕ, List, codes}
use Rattle.mv_format.specs.declared.field.LineField.{LineField}
use Rattle.mv_format.specs.declared.field.LineField.TheVariants as fields

-- the name of a field
abbrev pub field_name : LineField → List ℕ
field_name fields.Do = codes "do"
field_name fields.From = codes "from"
field_name fields.Gtin = codes "gtin"
field_name fields.Message = codes "message"
field_name fields.Number = codes "number"
field_name fields.Parties = codes "parties"
field_name fields.Party = codes "party"
field_name fields.Q = codes "q"
field_name fields.Serial = codes "serial"
field_name fields.Submissions = codes "submissions"
field_name fields.To = codes "to"
field_name fields.Uplink = codes "uplink"
field_name fields.Window = codes "window"
field_name fields.Wire = codes "wire"
