-- The names of the library, and of the crates below that the definitions cite, passed on from one place. Declares nothing.
pub use Rattle.mv_link.specs.declared.fault.LinkFault.{LinkFault}
pub use Rattle.mv_link.specs.declared.fault.LinkFault.TheVariants.{Gone, Memory, NotSent, Nothing}
pub use Rattle.mv_link.specs.declared.item.Frame.{Frame}
pub use Rattle.mv_link.specs.declared.item.Item.{Item}
