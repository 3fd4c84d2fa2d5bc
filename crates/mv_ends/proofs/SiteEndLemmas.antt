-- What a repository's end keeps as it takes frames.
use Rattle.mv_ends.proofs.Words.{◌≡◌, ◌<◌, ℕ, List, [], ◌∷◌, ◌++◌, length, arith, Bool, None, Some, ap, ◌∙◌, Reply, IsPassedAs, IsRepoOpened, KeepsOthers, false, true, is_some, known_free, Inflow, Outlet, IsTakenAs, eqb, append-nil, drop, refl, subst, sym, nat_tests, get_or-set_same, get_or-set_other, sent, Message, Item, Frame, accepted, one_more, items_from, SiteState, Taken, apply_fault, with_taken, Submitted, Refused, Memory, refusal_of, reply_to, RepoEnd, IsFront, with_item, stands_to, AreAccepted, is_full, IsRepoUnchanged, Submits, TakesFrame, Applies, Look, Refusal, eq-eqb, drop-append_seam, drop-length, answer_after, answer_fault}
use Rattle.mv_link.specs.declared.incoming.Look.TheVariants as look
use Rattle.mv_party.specs.declared.fault.SiteFault.{SiteFault}
use Rattle.mv_party.proofs.CallerLemmas.{items_from-push}

-- one frame alone is at the front
pub one_front : {T : Type 0} (inlets : Inflow T) (from : ℕ) (one other : T) → IsFront inlets from one → IsFront inlets from other → one ≡ other
one_front inlets from one other first second = grind (arith, first.1, second.1)

-- where the party refuses the frame at the front, no frame was taken
pub apply_refused : (from : ℕ) (old new : RepoEnd) (frame : Frame) (fault : SiteFault) → IsRepoUnchanged old new
    → IsFront new.inlets from frame → apply_fault (is_full new.uplink) old.site from frame.item (stands_to old.site from frame) ≡ Some fault
    → Applies from old new (Refused (refusal_of fault))
apply_refused from old new frame fault unchanged front why = grind (arith, nat_tests)

-- where it refuses none, want of memory alone refuses the next
pub apply_wanting : (from : ℕ) (old new : RepoEnd) (frame : Frame) → IsRepoOpened from old new → IsFront new.inlets from frame
    → apply_fault (is_full new.uplink) old.site from frame.item look.Next ≡ None → stands_to old.site from frame ≡ look.Next
    → Applies from old new (Refused Memory)
apply_wanting from old new frame opened front free next = (opened, (frame, front, rw next free, next))

-- what a party takes whatever room its uplink has, it takes where that has room
pub taken_freely : (full : Bool) (site : SiteState) (from : ℕ) (item : Item) (stands : Look) → apply_fault full site from item stands ≡ None → apply_fault false site from item stands ≡ None
taken_freely full site from item stands free = grind (arith, nat_tests)

-- what was submitted more stands behind what was submitted
pub more_submitted : (old more new : List Message) → old ++ more ≡ new → more ≡ drop (length old) new
more_submitted old more new is = subst (λ l. more ≡ drop (length old) l) is (sym (drop-append_seam old more))

module _ (from number : ℕ) (old looked new : RepoEnd) (taken : Taken) (site : looked.site ≡ old.site) (pushed : sent looked.uplink ≡ sent old.uplink)
    (inlets : looked.inlets.taken ≡ old.inlets.taken) (others : KeepsOthers from old.inlets looked.inlets) where
  -- what is taken at an end that was looked at is taken at that end
  pub applied_after : TakesFrame from looked new (reply_to number taken) → Applies from old new (reply_to number taken)
  applied_after takes = grind (arith, nat_tests)

-- a frame that is not the next changes nothing
pub passed : (site : SiteState) (from : ℕ) (item : Item) (stands : Look) → (stands ≡ look.Next → ⊥)
    → (with_taken site from item stands ≡ site) × (apply_fault false site from item stands ≡ None)
passed site from item stands other = grind (arith, nat_tests)

module _ (message : Message) (old looked new : RepoEnd) (site : looked.site ≡ old.site) (pushed : sent looked.uplink ≡ sent old.uplink)
    (inlets : looked.inlets.taken ≡ old.inlets.taken) (in_hand : looked.inlets.in_hand ≡ old.inlets.in_hand) where
  -- what is submitted at an end whose uplink was looked at is submitted at that end
  pub submitted_after : (k : ℕ) → Submits message looked new (Submitted k) → Submits message old new (Submitted k)
  submitted_after k (puts, told, free) = grind (arith, nat_tests)

  -- and what is refused there is refused
  pub refused_after : (refusal : Refusal) → Submits message looked new (Refused refusal) → Submits message old new (Refused refusal)
  refused_after refusal (unchanged, why) = grind (arith, nat_tests)

-- what its repository applied from another sender
from_other : (site : SiteState) (sender from : ℕ) (item : Item) (stands : Look) → eqb sender from ≡ false
    → items_from (with_taken site sender item stands).log from ≡ items_from site.log from
from_other site sender from item stands other = grind (arith, nat_tests, append-nil, items_from-push)

-- and from the sender itself
from_sender : (site : SiteState) (sender : ℕ) (frame : Frame) (frames : List Frame) → accepted frames ≡ items_from site.log sender
    → accepted (frames ++ frame ∷ []) ≡ items_from (with_taken site sender frame.item (stands_to site sender frame)).log sender
from_sender site sender frame frames seen = grind (arith, nat_tests, eq-eqb sender sender refl, items_from-push, one_more frames frame)

-- just the frames that the log has were accepted, with one more
pub accepted_taken : (site : SiteState) (sender : ℕ) (frame : Frame) (taken : List (List Frame)) → sender < length taken → AreAccepted site.parties site.log taken
    → let next = with_taken site sender frame.item (stands_to site sender frame) in AreAccepted next.parties next.log (with_item taken sender frame)
accepted_taken site sender frame taken there all from in_range = grind (arith, nat_tests, from_other, from_sender, get_or-set_other, get_or-set_same)

-- what a frame that is not the next leaves
pub ruleset passing = (passed, append-nil, drop-length)

-- the next frame of those at the front
module _ (site : SiteState) (full : Bool) (from : ℕ) (frame : Frame) (is : IsTakenAs site full from look.Next frame) where
  pub next_free : answer_fault false site (answer_after site.log from frame.item) ≡ None
  next_free = taken_freely full site from frame.item look.Next is.free

  pub next_room : (uplink : Outlet Message) → full ≡ is_full uplink → is_some (answer_after site.log from frame.item) ≡ true → 0 < known_free uplink
  next_room uplink e calls = grind (arith, nat_tests, is.free)
