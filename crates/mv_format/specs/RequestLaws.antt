-- The laws of the line that asks a request.
use Rattle.std.specs.Prelude.{◌≡◌, ℕ, List, [], ◌∷◌, map, codes, Ok}
use Rattle.mv_format.specs.Words.{AllByRecursion, Data, LineField, Open, Request, Step, string}
use Rattle.mv_format.specs.Fields.{field_name}
use Rattle.mv_format.specs.Meanings.{meaning_of}
use Rattle.mv_format.specs.Objects.{object_of}
use Rattle.mv_format.specs.Requests.{read_request}
use Rattle.mv_machine.specs.declared.step.Step.TheVariants as steps
use Rattle.mv_format.specs.declared.field.LineField.TheVariants as fields

-- the line that asks a request: the name of its kind, and its other fields in byte order of their names, each with its value
abbrev pub line_of : Request → List ℕ × List ((field : LineField) × (meaning_of field).Value)
line_of (Open parties submissions uplink window wire) = (
  codes "open",
  (fields.Parties, parties) ∷ (fields.Submissions, submissions) ∷ (fields.Uplink, uplink) ∷ (fields.Window, window) ∷ (fields.Wire, wire) ∷ [],
)
line_of (Step (steps.Submit from message)) = (codes "submit", (fields.From, from) ∷ (fields.Message, message) ∷ [])
line_of (Step (steps.Verify party key)) =
    (codes "verify", (fields.Gtin, key.gtin) ∷ (fields.Party, party) ∷ (fields.Serial, key.serial) ∷ [])
line_of (Step (steps.Route from)) = (codes "route", (fields.From, from) ∷ [])
line_of (Step (steps.Relay from to)) = (codes "relay", (fields.From, from) ∷ (fields.To, to) ∷ [])
line_of (Step (steps.Apply from to)) = (codes "apply", (fields.From, from) ∷ (fields.To, to) ∷ [])
line_of (Step (steps.Repeat from to number)) = (codes "repeat", (fields.From, from) ∷ (fields.Number, number) ∷ (fields.To, to) ∷ [])
line_of (Step (steps.Close from to)) = (codes "close", (fields.From, from) ∷ (fields.To, to) ∷ [])
line_of (Step (steps.Lose from to)) = (codes "lose", (fields.From, from) ∷ (fields.To, to) ∷ [])
line_of (Step (steps.Verdict party q)) = (codes "verdict", (fields.Party, party) ∷ (fields.Q, q) ∷ [])

-- the value of the line that asks a request
abbrev pub request_value : Request → Data
request_value request = object_of (
    (field_name fields.Do, string (line_of request).0)
    ∷ map (λ (field, value). (field_name field, (meaning_of field).value value)) (line_of request).1
    )

-- the values that its line has are legal
abbrev pub IsLegalRequest : Request → Type 0
IsLegalRequest request = AllByRecursion (λ (field, value). (meaning_of field).IsLegal value) (line_of request).1

-- the line that asks a request is read as that request
abbrev pub RequestsReadBack : Type 0
RequestsReadBack = (request : Request) → IsLegalRequest request → read_request (request_value request) ≡ Ok request

-- what a line asks is legal
abbrev pub ReadRequestsAreLegal : Type 0
ReadRequestsAreLegal = (value : Data) (request : Request) → read_request value ≡ Ok request → IsLegalRequest request
