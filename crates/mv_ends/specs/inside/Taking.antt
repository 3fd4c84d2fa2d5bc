-- How an end takes the frame that is at the front of a link.
use Rattle.std.specs.Prelude.{◌≡◌, ℕ, Bool, None}
use Rattle.mv_ends.specs.Words.{Frame, Look, SiteState}
use Rattle.mv_ends.specs.RepoEnd.{stands_to}
use Rattle.mv_link.specs.declared.incoming.Look.TheVariants.{Next}
use Rattle.mv_party.specs.Calls.{apply_fault, taken_by}
use Rattle.mv_party.specs.declared.taken.Taken.{Taken}

-- the frame stands so to what the party accepted from its sender, and the party takes it
pub record IsTakenAs (site : SiteState) (full : Bool) (from : ℕ) (stands : Look) (frame : Frame) : Type 0 where
  pub stands_so : stands_to site from frame ≡ stands
  pub free : apply_fault full site from frame.item stands ≡ None

-- the frame of this number is not the next, and this is what the party does with it
pub record IsPassedAs (site : SiteState) (from number : ℕ) (taken : Taken) (frame : Frame) : Type 0 where
  pub numbered : frame.number ≡ number
  pub other : stands_to site from frame ≡ Next → ⊥
  pub is_taken : taken ≡ taken_by site from frame.item (stands_to site from frame)
