-- The kinds of lines, by the text of their field `do`, and what the fields of each ask.
use Rattle.std.specs.Prelude.{ℕ, List, [], ◌∷◌, map, codes, bytes_eq, find, Option, option_map, Result, ok_or}
use Rattle.mv_format.specs.Words.{Data, Kind, LineFault, LineField, LineKind, Open, Request, Step, ◌and_then◌}
use Rattle.mv_pack.specs.Keys.{pack_key}
use Rattle.mv_format.specs.Fields.{field_name}
use Rattle.mv_format.specs.Meanings.{meaning_of}
use Rattle.mv_format.specs.Reading.{text_at}
use Rattle.mv_machine.specs.declared.step.Step.TheVariants as steps
use Rattle.mv_format.specs.declared.field.LineField.TheVariants as fields
use Rattle.mv_format.specs.declared.kind.LineKind.TheVariants as kinds

-- the kinds by their names
abbrev pub named_kinds : List (List ℕ × LineKind)
named_kinds =
    (codes "open", kinds.Open) ∷ (codes "submit", kinds.Submit) ∷ (codes "route", kinds.Route) ∷ (codes "relay", kinds.Relay)
    ∷ (codes "apply", kinds.Apply) ∷ (codes "repeat", kinds.Repeat) ∷ (codes "close", kinds.Close) ∷ (codes "lose", kinds.Lose)
    ∷ (codes "verify", kinds.Verify) ∷ (codes "verdict", kinds.Verdict) ∷ []

-- the kind that a text of `do` names
abbrev pub kind_named : List ℕ → Option LineKind
kind_named text = option_map (λ row. row.1) (find (λ row. bytes_eq text row.0) named_kinds)

-- what is asked, once each of these fields has a value
abbrev pub Asking : List LineField → Type 0
Asking [] = Request
Asking (field ∷ rest) = (meaning_of field).Value → Asking rest

-- the fields of a line of a kind behind `do`, in byte order of their names, and what their values ask
abbrev pub shape_of : LineKind → (others : List LineField) × Asking others
shape_of kinds.Open = (fields.Parties ∷ fields.Submissions ∷ fields.Uplink ∷ fields.Window ∷ fields.Wire ∷ [], Open)
shape_of kinds.Submit = (fields.From ∷ fields.Message ∷ [], λ from message. Step (steps.Submit from message))
shape_of kinds.Route = (fields.From ∷ [], λ from. Step (steps.Route from))
shape_of kinds.Relay = (fields.From ∷ fields.To ∷ [], λ from to. Step (steps.Relay from to))
shape_of kinds.Apply = (fields.From ∷ fields.To ∷ [], λ from to. Step (steps.Apply from to))
shape_of kinds.Repeat = (fields.From ∷ fields.Number ∷ fields.To ∷ [], λ from number to. Step (steps.Repeat from to number))
shape_of kinds.Close = (fields.From ∷ fields.To ∷ [], λ from to. Step (steps.Close from to))
shape_of kinds.Lose = (fields.From ∷ fields.To ∷ [], λ from to. Step (steps.Lose from to))
shape_of kinds.Verify =
    (fields.Gtin ∷ fields.Party ∷ fields.Serial ∷ [], λ gtin party serial. Step (steps.Verify party (pack_key gtin serial)))
shape_of kinds.Verdict = (fields.Party ∷ fields.Q ∷ [], λ party q. Step (steps.Verdict party q))

-- the names of the fields of a kind, in byte order
abbrev pub names_of : LineKind → List (List ℕ)
names_of kind = map field_name (fields.Do ∷ (shape_of kind).0)

-- the kind of an object: M3, M5
unfoldable pub kind_at : Data → Result LineKind LineFault
kind_at value = text_at fields.Do value and_then λ text. ok_or (kind_named text) (Kind fields.Do)
