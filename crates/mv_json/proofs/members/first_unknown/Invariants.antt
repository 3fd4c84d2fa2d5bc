use Rattle.mv_json.proofs.Words.{◌≡◌, bytes_eq, find, map, not, option_map, string_bytes, first_unknown, list_any, members_view}
use Rattle.mv_json.proofs.members.first_unknown.Given as goal

-- the first unknown key is the first one among those that are left
abbrev pub invariant-loop-key : goal.invariant-loop-key
invariant-loop-key g l =
    first_unknown (map g.N.Named.name l.fields) (members_view l.members.entries)
    ≡ option_map string_bytes (find (λ key. not (list_any (bytes_eq (string_bytes key)) (map g.N.Named.name l.fields))) l.key-iterator)
