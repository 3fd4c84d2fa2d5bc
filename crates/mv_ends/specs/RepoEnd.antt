-- What a contract sees of a repository's end, and what its calls leave, by their replies.
use Rattle.std.specs.Prelude.{◌≡◌, ℕ, ◌+◌, ◌<◌, [], ◌∷◌, ◌++◌, length, List, false, None, drop}
use Rattle.mv_ends.specs.Words.{Asked, Frame, Known, Look, Memory, Message, Party, Refused, Reply, SiteState, Submitted, WireEmpty, count_from, opened_site, refusal_of, reply_to, sent, with_submission}
use Rattle.mv_ends.specs.Refusals.{IsRefusedBy}
use Rattle.mv_pack.specs.declared.key.PackKey.{PackKey}
use Rattle.mv_message.specs.declared.message.Message.TheVariants.{Query}
use Rattle.mv_link.specs.declared.incoming.Look.TheVariants.{Next}
use Rattle.mv_link.specs.Receiving.{look_at}
use Rattle.mv_repository.specs.declared.verdict.Local.TheVariants.{Known as KnownPack, Absent}
use Rattle.mv_repository.specs.Verdict.{local_verdict}
use Rattle.mv_party.specs.Calls.{ask_fault, submit_fault, apply_fault, taken_by, with_taken}
use Rattle.mv_ends.specs.declared.repo_end.RepoEnd.{RepoEnd}
use Rattle.mv_ends.specs.Rings.{Ring, ring_put, is_full, IsEmptyFrom, IsFront, KeepsOthers, with_item}

-- What stays of a repository's end: its party, as it was when the system opened, and the rings that it has ends of.
pub record RepoSeat : Type 0 where
  pub site : SiteState
  pub uplink : Ring
  pub inlets : List Ring

-- what stays of this end
abbrev pub repo_seat : RepoEnd → RepoSeat
repo_seat end = record { site = opened_site end.site; uplink = ring_put end.uplink; inlets = end.inlets.rings }

-- the same end of one opening, at two moments
abbrev pub SameRepoEnd : RepoEnd → RepoEnd → Type 0
SameRepoEnd old new = repo_seat new ≡ repo_seat old

-- nothing has changed: neither the party nor what was put or taken, nor what is in hand
pub record IsRepoUnchanged (old new : RepoEnd) : Type 0 where
  pub site : new.site ≡ old.site
  pub pushed : sent new.uplink ≡ sent old.uplink
  pub taken : new.inlets.taken ≡ old.inlets.taken
  pub in_hand : new.inlets.in_hand ≡ old.inlets.in_hand

-- nothing has changed, but that what is at the front of the link from a party may be in hand
pub record IsRepoOpened (from : ℕ) (old new : RepoEnd) : Type 0 where
  pub site : new.site ≡ old.site
  pub pushed : sent new.uplink ≡ sent old.uplink
  pub taken : new.inlets.taken ≡ old.inlets.taken
  pub others : KeepsOthers from old.inlets new.inlets

-- The party submitted just this message, and just this was put on its uplink.
pub record Puts (message : Message) (old new : RepoEnd) : Type 0 where
  pub site : new.site ≡ with_submission old.site message
  pub pushed : sent new.uplink ≡ sent old.uplink ++ message ∷ []
  pub taken : new.inlets.taken ≡ old.inlets.taken
  pub in_hand : new.inlets.in_hand ≡ old.inlets.in_hand

-- what `submit` leaves, by its reply: a refusal is by whether the uplink was full, and where there is no fault for want of memory alone
abbrev pub Submits : Message → RepoEnd → RepoEnd → Reply → Type 0
Submits message old new (Refused refusal) =
    IsRepoUnchanged old new × IsRefusedBy refusal_of (submit_fault (is_full new.uplink) old.site message) refusal
Submits message old new reply =
    Puts message old new × (reply ≡ Submitted (length old.site.submissions + 1)) × (submit_fault false old.site message ≡ None)

-- what `ask` leaves, by its reply
abbrev pub Asks : PackKey → RepoEnd → RepoEnd → Reply → Type 0
Asks key old new (Refused refusal) = IsRepoUnchanged old new × IsRefusedBy refusal_of (ask_fault (is_full new.uplink) old.site) refusal
Asks key old new reply = Puts (Query key) old new × (reply ≡ Asked (length old.site.submissions + 1)) × (ask_fault false old.site ≡ None)

-- what `verify` leaves, by its reply
abbrev pub Verifies : PackKey → RepoEnd → RepoEnd → Reply → Type 0
Verifies key old new (Known verdict) = IsRepoUnchanged old new × (local_verdict key old.site.log ≡ KnownPack verdict)
Verifies key old new reply = Asks key old new reply × (local_verdict key old.site.log ≡ Absent)

-- how a frame from a sender stands to what a party applied of it
abbrev pub stands_to : SiteState → ℕ → Frame → Look
stands_to site sender frame = look_at (count_from site.log sender) frame.number

-- Just this frame was taken, from the link from a sender, which is one of the parties. The party of this end took it; what it submitted more by
-- that was put on its uplink, and the reply says what it did with the frame.
pub record TakesFrame (from : ℕ) (old new : RepoEnd) (reply : Reply) : Type 0 where
  pub sender : from < old.site.parties
  pub frame : Frame
  pub free : apply_fault false old.site from frame.item (stands_to old.site from frame) ≡ None
  pub taken : new.inlets.taken ≡ with_item old.inlets.taken from frame
  pub others : KeepsOthers from old.inlets new.inlets
  pub site : new.site ≡ with_taken old.site from frame.item (stands_to old.site from frame)
  pub pushed : sent new.uplink ≡ sent old.uplink ++ drop (length old.site.submissions) new.site.submissions
  pub reply_is : reply ≡ reply_to frame.number (taken_by old.site from frame.item (stands_to old.site from frame))

-- What `apply` leaves, by its reply: no frame is taken where there is no such party, where the link was empty, and where the party
-- refuses the one at the front, by whether the uplink was full. Want of memory never stands in place of an old frame or one behind a gap.
-- It alone may leave the frame in hand.
abbrev pub Applies : ℕ → RepoEnd → RepoEnd → Reply → Type 0
Applies from old new (Refused Party) = IsRepoUnchanged old new × (from < old.site.parties → ⊥)
Applies from old new (Refused WireEmpty) = IsRepoUnchanged old new × (from < old.site.parties) × IsEmptyFrom new.inlets from
Applies from old new (Refused Memory) = IsRepoOpened from old new × ((frame : Frame) × IsFront new.inlets from frame
    × (apply_fault (is_full new.uplink) old.site from frame.item (stands_to old.site from frame) ≡ None) × (stands_to old.site from frame ≡ Next))
Applies from old new (Refused refusal) = IsRepoUnchanged old new × ((frame : Frame) × IsFront new.inlets from frame
    × IsRefusedBy refusal_of (apply_fault (is_full new.uplink) old.site from frame.item (stands_to old.site from frame)) refusal)
Applies from old new reply = TakesFrame from old new reply
