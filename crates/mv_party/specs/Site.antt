-- What a party is seen as, and when it is lawful. What it accepted of each sender follows from its log.
use Rattle.std.specs.Prelude.{◌≡◌, ◌<◌, ◌+◌, ◌==◌, ℕ, List, [], ◌∷◌, ◌++◌, length, Bool, Option, Some, None, option_to_list}
use Rattle.mv_party.specs.Words.{Answer, Item, LogEntry, Message, answer_to, answers_of, items_from}
use Rattle.std.specs.List.{AllByRecursion}

-- one party of a system
pub record SiteState : Type 0 where
  pub party : ℕ  -- which party it is
  pub parties : ℕ  -- how many parties there are
  pub limit : ℕ  -- how many messages it submits in all, at most
  pub submissions : List Message  -- what it submitted, the oldest first
  pub log : List LogEntry  -- what its repository applied, the oldest entry first

-- a party that did nothing yet
abbrev pub new_site : ℕ → ℕ → ℕ → SiteState
new_site party parties limit = record { party = party; parties = parties; limit = limit; submissions = []; log = [] }

-- an item as it stands in the log of who applies it
abbrev pub entry_from : ℕ → Item → LogEntry
entry_from sender item = record { sender = sender; item = item }

-- how many items of a sender are in a log
abbrev pub count_from : List LogEntry → ℕ → ℕ
count_from log sender = length (items_from log sender)

-- the number of an answer behind these submissions
abbrev pub answer_number : List Message → Option Message → Option ℕ
answer_number submissions None = None
answer_number submissions (Some answer) = Some (length submissions + 1)

-- a party submitted as many messages as it may
abbrev pub is_full : SiteState → Bool
is_full site = length site.submissions == site.limit

-- the party once it submitted one more message
abbrev pub with_submission : SiteState → Message → SiteState
with_submission site message = record site { submissions = site.submissions ++ message ∷ [] }

-- the party once it applied an item from a sender, and submitted the answer that this calls for, if it does
abbrev pub with_applied : SiteState → ℕ → Item → SiteState
with_applied site sender item = record site {
  submissions = site.submissions ++ option_to_list (answer_to site.log (entry_from sender item));
  log = site.log ++ entry_from sender item ∷ [];
}

-- the answers among messages, in order
abbrev pub answers_in : List Message → List Message
answers_in [] = []
answers_in (Answer asker q key found ∷ messages) = Answer asker q key found ∷ answers_in messages
answers_in (message ∷ messages) = answers_in messages

-- A party is lawful, one of so many: the answers among what it submitted are those that the log of its repository calls for, and
-- that log is of items from parties alone.
pub record IsLawfulParty (count : ℕ) (submissions : List Message) (log : List LogEntry) : Type 0 where
  pub answered : answers_in submissions ≡ answers_of log
  pub from_parties : AllByRecursion (λ entry. entry.sender < count) log
