-- The headline: what holds after every step, query and run of a system, whatever came before it.
use Rattle.std.specs.Prelude.{◌≡◌, ◌<◌, ◌≤◌, ◌-◌, ℕ, length, take, All, Some, slice_get, IsTrue, Bool, true, false, not, map, filter}
use Rattle.std.specs.List.Sorted.{IsStrictlyIncreasing}
use Rattle.mv_machine.specs.Words.{IsPrefix, Item, Message, is_query, is_reached, items_from, number_of, reach}
use Rattle.mv_link.specs.declared.item.Item.TheVariants.{Receipt, Carried}
use Rattle.mv_hub.specs.declared.entry.Entry.TheVariants.{Routed}
use Rattle.mv_machine.specs.State.{State, submissions_of, log_of}
use Rattle.mv_machine.specs.Lawful.{IsLawful, IsWellFormed}
use Rattle.mv_machine.specs.Closing.{NothingRoutedLater, NothingSubmittedLater}
use Rattle.mv_machine.specs.Stamps.{RepositoriesAgree}

-- a later state of a system: it has the same parties and limits, and its record begins with that of the earlier one
pub record Follows (old new : State) : Type 0 where
  pub parties : new.hub.parties ≡ old.hub.parties
  pub limits : new.limits ≡ old.limits
  pub entries : IsPrefix old.hub.entries new.hub.entries

-- a party submitted this message as its k-th, and the entry of the record with this number, its stamp, routed it; both are
-- counted from 1
pub record IsRoutedAt (st : State) (from k stamp : ℕ) (message : Message) : Type 0 where
  pub numbered : 1 ≤ k
  pub submitted : slice_get (submissions_of st from) (k - 1) ≡ Some message
  pub stamped : 1 ≤ stamp
  pub routed : slice_get st.hub.entries (stamp - 1) ≡ Some (Routed from k message)

-- An item on the link from one party to another is about a message that the sender submitted under the item's number, and that
-- the hub routed. Where it carries the message, the receiver was a target of it then, over an open link; where it is a receipt, it
-- names the parties that the message reached then.
abbrev pub IsOfSubmission : State → ℕ → ℕ → Item → Type 0
IsOfSubmission st from to (Carried k stamp message) =
    IsRoutedAt st from k stamp message × IsTrue (is_reached st.hub.parties (take (stamp - 1) st.hub.entries) from message to)
IsOfSubmission st from to (Receipt k reached query) = (stamp : ℕ) × (message : Message)
    × IsRoutedAt st from k stamp message
    × (reached ≡ reach st.hub.parties (take (stamp - 1) st.hub.entries) from message)
    × (query ≡ is_query message)

-- each item that a repository applied is from a party, and about what that party submitted, for this repository
abbrev pub AppliedIsSubmitted : State → Type 0
AppliedIsSubmitted st = (party : ℕ) → party < length st.hub.parties
    → All (λ entry. (entry.sender < length st.hub.parties) × IsOfSubmission st entry.sender party entry.item) (log_of st party)

-- an item that carries its message, and is no receipt
abbrev pub is_carried : Item → Bool
is_carried (Carried k stamp message) = true
is_carried (Receipt k reached query) = false

-- what a repository applied from each sender is in the order in which that sender submitted it, and each once: the numbers of the
-- messages that came rise, and so do those of the messages that receipts came for
abbrev pub NumbersRise : State → Type 0
NumbersRise st = (from to : ℕ) → from < length st.hub.parties → to < length st.hub.parties
    → IsStrictlyIncreasing (map number_of (filter is_carried (items_from (log_of st to) from)))
    × IsStrictlyIncreasing (map number_of (filter (λ item. not (is_carried item)) (items_from (log_of st to) from)))

-- What a repository applied from each sender is a prefix of what that sender submitted for the markets that it serves, in order and
-- each once; nothing submitted after a link closed is applied over that link; and two repositories that applied the same messages
-- about a pack agree on it. This holds of two states of a system, of which one follows the other.
pub record HeadlineHolds (old new : State) : Type 0 where
  pub began : IsLawful old
  pub well_formed : IsWellFormed new
  pub lawful : IsLawful new  -- what was applied is a prefix of what the record put on its link, and what was routed of what was submitted
  pub follows : Follows old new
  pub submitted : AppliedIsSubmitted new
  pub rising : NumbersRise new
  pub closed : NothingSubmittedLater old new
  pub closing : NothingRoutedLater new
  pub agreed : RepositoriesAgree new
