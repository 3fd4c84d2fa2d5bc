-- What every run of the list machine keeps.
use Rattle.std.specs.Prelude.{◌≡◌, ◌<◌, ◌≤◌, ◌+◌, ◌*◌, ◌-◌, ℕ, List, length, nat_lt}
use Rattle.mv_machine.specs.Words.{Entry, Message, PARTIES_LIMIT, PackKey, Reply, SUBMISSIONS_LIMIT, Step, is_busy, items_on, next_items, routed_count, sent_of}
use Rattle.mv_machine.specs.Limits.{Bounds}
use Rattle.mv_machine.specs.State.{State, submissions_of, opening}
use Rattle.mv_machine.specs.Steps.{ask}
use Rattle.mv_machine.specs.Runs.{Meets, Allows, Runs}
use Rattle.mv_machine.specs.Lawful.{IsLawful, IsLawfulRecord}
use Rattle.mv_machine.specs.Closing.{NothingRoutedLater, NothingSubmittedLater}

-- P holds of each state that a system comes to from its opening, whatever the steps and whatever their order
abbrev pub InRuns : (State → Type 0) → Type 0
InRuns P = (parties : List (List (List ℕ))) (limits : Bounds) (steps : List Step) (replies : List Reply) (new : State)
    → Runs (opening parties limits) steps replies new → P new

-- P holds of each lawful state
abbrev pub InLawfulStates : (State → Type 0) → Type 0
InLawfulStates P = (st : State) → IsLawful st → P st

-- P holds of each step, and of each query that is asked: of the state before it, its reply, and the state that it leaves
abbrev pub InSteps : (State → Reply → State → Type 0) → Type 0
InSteps P = ((old : State) (step : Step) (reply : Reply) (new : State) → Allows old step reply new → P old reply new)
    × ((old : State) (party : ℕ) (key : PackKey) (reply : Reply) (new : State) → Meets old (ask old party key) reply new → P old reply new)

-- Steps are run, and then others: over a link that stood closed in between, nothing that was submitted after that was applied;
-- and nothing that was routed after the closing of a link was ever applied over it.
abbrev pub ClosedLinksStayClosed : Type 0
ClosedLinksStayClosed = InRuns (λ between. (steps : List Step) (replies : List Reply) (new : State) → Runs between steps replies new
    → NothingSubmittedLater between new × NothingRoutedLater new)

-- A lawful record of no more parties than there may be, from none of whom more was routed than it may submit, has far fewer than 2 ^ 32
-- entries: each party is routed as often as it may submit, and each of its links is closed once, at most.
abbrev pub StampsSuffice : Type 0
StampsSuffice = (count : ℕ) (entries : List Entry) → IsLawfulRecord count entries → count ≤ PARTIES_LIMIT
    → ((party : ℕ) → party < count → routed_count entries party ≤ SUBMISSIONS_LIMIT)
    → length entries ≤ PARTIES_LIMIT * SUBMISSIONS_LIMIT + PARTIES_LIMIT * PARTIES_LIMIT

-- In a lawful state a link is busy for a message of a party that submitted no more than it may only where its window has no room: a link
-- carries two items at most for each message, so that their numbers have far fewer than 32 bits.
abbrev pub NumbersSuffice : Type 0
NumbersSuffice = (st : State) (from to : ℕ) (message : Message) → IsLawful st → from < length st.hub.parties
    → length (submissions_of st from) ≤ SUBMISSIONS_LIMIT → is_busy st.hub from message to
    ≡ nat_lt st.hub.window (length (items_on st.hub from to) - sent_of st.hub from to + length (next_items st.hub from message to))

-- what holds from a first to a second, and from there to a third, holds from the first to the third
abbrev pub IsTransitive : {A : Type 0} → (A → A → Type 0) → Type 0
IsTransitive {A = A} Holds = (first second third : A) → Holds first second → Holds second third → Holds first third
