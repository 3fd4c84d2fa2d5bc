-- Keys of objects.
use Rattle.mv_json.proofs.Words.{◌≡◌, ℕ, not, map, List, [], ◌∷◌, refl, arith, bytes_eq, option_map, find, String, string_bytes, Value, first_unknown, list_any, members_view}
use Rattle.std.specs.declared.alloc.Global.{Global}

-- the first unknown key of a map is that of its members
pub first_unknown_of_entries : (names : List (List ℕ)) (es : List (String Global × Value)) → option_map string_bytes (find (λ key. not (list_any (bytes_eq (string_bytes key)) names)) (map (λ e. e.0) es)) ≡ first_unknown names (members_view es)
first_unknown_of_entries names [] = refl
first_unknown_of_entries names (e ∷ es) = grind (arith, first_unknown_of_entries names es)
