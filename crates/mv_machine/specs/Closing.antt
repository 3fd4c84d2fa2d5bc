-- What is applied over a link that is closed.
use Rattle.std.specs.Prelude.{◌≡◌, ◌<◌, ◌≤◌, ℕ, List, [], ◌∷◌, length, All, false, take_while}
use Rattle.mv_machine.specs.Words.{Entry, is_open, items_from, number_of, routed_count}
use Rattle.mv_machine.specs.State.{State, submissions_of, log_of}

-- the entries of a record that stand before the closing of a link: all of them where it is open
abbrev pub before_closing : List Entry → ℕ → ℕ → List Entry
before_closing entries from to = take_while (λ entry. is_open (entry ∷ []) from to) entries

-- over no link was applied what was routed after its closing: each item is about a message that was routed before
abbrev pub NothingRoutedLater : State → Type 0
NothingRoutedLater st = (from to : ℕ) → from < length st.hub.parties → to < length st.hub.parties
    → All (λ item. number_of item ≤ routed_count (before_closing st.hub.entries from to) from) (items_from (log_of st to) from)

-- over the links that are closed in one state there is applied, in a later one, nothing that was submitted since: each item is about a
-- message that was submitted before
abbrev pub NothingSubmittedLater : State → State → Type 0
NothingSubmittedLater old new = (from to : ℕ) → from < length old.hub.parties → to < length old.hub.parties
    → is_open old.hub.entries from to ≡ false
    → All (λ item. number_of item ≤ length (submissions_of old from)) (items_from (log_of new to) from)
