-- The names of the library, and of the crates below that the definitions cite, passed on from one place. Declares nothing.
pub use Rattle.mv_pack.specs.declared.fault.PackFault.{PackFault}
pub use Rattle.mv_pack.specs.declared.fault.PackFault.TheVariants.{Character, CheckDigit, Date, Digit, Empty, Length, Market, Moment, TooLong}
pub use Rattle.std.specs.Cmp.Lexicographic.{nat_list_cmp_total, nat_list_eq_equiv, pointwise, slice_cmp, texts_po, texts_ties}
pub use Rattle.std.specs.Cmp.Rules.{hashing}
pub use Rattle.std.specs.List.{count_by, list_all, position_from}
pub use Rattle.std.specs.Ordering.{nat_cmp, ordering_then}
