-- How what a writer has written is stored.
use Rattle.mv_json.specs.Tokens.{Written}
use Rattle.std.specs.Coded.{Coded, code_by, coded×, coded_bool, coded_list, coded_ℕ}
use Rattle.std.specs.Prelude.{ℕ, List, Bool, refl}

-- as the tuple of its fields
abbrev pub written_code : Coded Written
written_code =
    code_by (List ℕ × (List ℕ × Bool)) (coded× (coded_list coded_ℕ) (coded× (coded_list coded_ℕ) coded_bool))
    (λ w. (w.before, (w.text, w.after_value))) (λ p. record { before = p.0; text = p.1.0; after_value = p.1.1 }) (λ _. refl)
