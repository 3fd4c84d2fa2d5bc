use Rattle.mv_json.proofs.Words.{◌≡◌, bytes_eq, drop, map, list_any}
use Rattle.mv_json.proofs.members.is_named.Given as goal

-- no field so far has that name
abbrev pub invariant-loop-field : goal.invariant-loop-field
invariant-loop-field g l =
    list_any (bytes_eq l.key) (map g.N.Named.name l.fields) ≡ list_any (bytes_eq l.key) (map g.N.Named.name (drop l.field-index l.fields))
