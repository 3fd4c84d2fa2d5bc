-- The names of the library, of the definitions, and of the crates below that the proofs cite, passed on from one place. Declares nothing.
pub use Rattle.mv_pack.specs.Code.{IsCode, filled_up, first_wrong, is_code_character, most_code_bytes, read_code}
pub use Rattle.mv_pack.specs.Gtin.{IsGtin, check_sum, is_digit, padded, read_gtin}
pub use Rattle.mv_pack.specs.inside.Code.{IsFilledUp, is_filled, is_zero, text_before}
pub use Rattle.std.proofs.Common.{Bool, Err, IsUtf8, List, None, Ok, Result, Some, [], ap, append_assoc, ap₂, arith, cond, drop, false, get_or, length, not, pos, refl, replicate, subst, suc, sym, take, true, zero, ℕ, ◌&&◌, ◌*◌, ◌++◌, ◌+◌, ◌-◌, ◌<◌, ◌==◌, ◌∙◌, ◌∷◌, ◌≡◌, ◌≤ℤ◌, ◌≤◌, ◌↔◌}
pub use Rattle.std.proofs.lemmas.Bool.Decides.{nat_tests}
pub use Rattle.std.proofs.lemmas.Grind.{common_steps, same_number_lists}
pub use Rattle.std.proofs.lemmas.List.{at_drop_more, drop-drop, drop-replicate, get_or-map, length-append, length-drop, length-map, length-replicate, length-take-le, take-append-drop, take-append-le, take-take, take_all, take_rest}
pub use Rattle.std.proofs.lemmas.List.Folds.{list_all-append, list_all_at, sum_by-replicate}
pub use Rattle.std.proofs.lemmas.List.Sums.{count_by-le-length, sum_by-cons, sum_by-take-drop}
pub use Rattle.std.specs.List.{count_by, list_all, position_from}
