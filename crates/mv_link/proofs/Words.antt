-- The names of the library, of the definitions, and of the crates below that the proofs cite, passed on from one place. Declares nothing.
pub use Rattle.mv_link.specs.PartySets.{those}
unfoldable pub use Rattle.mv_link.specs.PartySets.{has_party, parties_in}
pub use Rattle.std.proofs.Common.{All, Bool, List, None, Some, [], ap, append-nil, append_assoc, arith, bit_and, bit_or, cond, drop, drop-cons, false, filter, find, inl, inr, length, length-append, max, min, not, refl, slice_get, suc, sym, take, true, w64, zero, zero-add, ℕ, ◌%◌, ◌&&◌, ◌*◌, ◌++◌, ◌+◌, ◌-◌, ◌/◌, ◌<◌, ◌==◌, ◌^◌, ◌||◌, ◌∙◌, ◌∷◌, ◌≡◌, ◌≤◌}
pub use Rattle.std.proofs.lemmas.Bool.{cases_eq, cases_lt, eq-eqb, eqb-true, ne_eqb}
pub use Rattle.std.proofs.lemmas.Bool.Decides.{nat_tests}
pub use Rattle.std.proofs.lemmas.List.Elements.{All-tail, filter-append}
pub use Rattle.std.proofs.lemmas.List.FromFn.{get_or-range_with_len, length-range_with_len}
pub use Rattle.std.specs.List.{range_with_len}
pub use Rattle.std.specs.List.Sorted.{IsStrictlyIncreasing}
