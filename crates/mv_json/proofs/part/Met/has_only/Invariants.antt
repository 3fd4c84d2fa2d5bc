use Rattle.mv_json.proofs.Words.{All, Field, IsOneOf, IsTrue, false, field_number, get_or, take}
use Rattle.mv_json.proofs.part.Met.has_only.Given as goal

-- what has a mark is one of these
abbrev pub invariant-loop-field : goal.invariant-loop-field
invariant-loop-field l = (field : Field) → IsTrue (get_or l.marks (field_number field) false) → IsOneOf l.fields field

-- each field so far is one of these
abbrev pub invariant-loop-met : goal.invariant-loop-met
invariant-loop-met l = All (λ met. IsOneOf l.fields met.field) (take l.met-index l.met-items)
