-- The answers among what a party submits are those that its repository's log calls for.
use Rattle.mv_party.proofs.Words.{◌≡◌, ℕ, false, List, [], ◌∷◌, ◌++◌, sym, refl, ap, ◌∙◌, append_assoc, append-nil, arith, option_to_list, Item, LogEntry, Message, answer_after, answer_to, answers_from, answers_in, answers_of, is_query_or_answer, ◌+◌, ◌<◌, ◌≤◌, Bool, length, cond, set, get_or, length-set, eqb, Option, Some, None, length-append, IsLawfulParty, IsSite, SiteState, answer_fault, ask_fault, count_from, entry_from, site_of, submit_fault}
use Rattle.std.specs.List.{AllByRecursion, count_by}
use Rattle.std.proofs.lemmas.Bool.{cases_eq}
use Rattle.std.proofs.lemmas.Bool.Decides.{nat_tests}
use Rattle.std.proofs.lemmas.Grind.{elements}
use Rattle.std.proofs.lemmas.List.Recursion.{is_count_by}
use Rattle.mv_repository.specs.Repository.{items_from, RepositoryState, with_applied as repository_with}

pub answers_in-append : (xs ys : List Message) → answers_in (xs ++ ys) ≡ answers_in xs ++ answers_in ys
answers_in-append [] ys = refl
answers_in-append (message ∷ xs) ys = grind (arith, answers_in-append xs ys)

-- what a party may submit is no answer
pub no_answer : (message : Message) → is_query_or_answer message ≡ false → answers_in (message ∷ []) ≡ []
no_answer message e = grind (arith, e)

-- one more message that is no answer
pub answers_in-more : (messages : List Message) (message : Message) → answers_in (message ∷ []) ≡ [] → answers_in (messages ++ message ∷ []) ≡ answers_in messages
answers_in-more messages message none = answers_in-append messages (message ∷ []) ∙ ap (λ l. answers_in messages ++ l) none ∙ append-nil (answers_in messages)

-- what an item calls for is an answer
called_for : (log : List LogEntry) (sender : ℕ) (item : Item) → answers_in (option_to_list (answer_after log sender item)) ≡ option_to_list (answer_after log sender item)
called_for log sender item = grind arith

answers_from-push : (before log : List LogEntry) (entry : LogEntry) → answers_from before (log ++ entry ∷ []) ≡ answers_from before log ++ option_to_list (answer_to (before ++ log) entry)
answers_from-push before [] entry = append-nil (option_to_list (answer_to before entry)) ∙ ap (λ b. option_to_list (answer_to b entry)) (sym (append-nil before))
answers_from-push before (x ∷ log) entry = grind (arith, answers_from-push (before ++ x ∷ []) log entry, append_assoc)

-- an entry is applied, and the answer that it calls for is submitted
pub answers_in-applied : (messages : List Message) (log : List LogEntry) (entry : LogEntry) → answers_in messages ≡ answers_of log
    → answers_in (messages ++ option_to_list (answer_to log entry)) ≡ answers_of (log ++ entry ∷ [])
answers_in-applied messages log entry same = grind (arith, answers_in-append, called_for, answers_from-push [] log entry)

-- ---- What a party keeps with one more submission, and with one more item of its repository

-- the items of a party once an entry is last
pub items_from-push : (log : List LogEntry) (entry : LogEntry) (party : ℕ) → items_from (log ++ entry ∷ []) party ≡ items_from log party ++ cond (eqb entry.sender party) (entry.item ∷ []) []
items_from-push [] entry party = refl
items_from-push (x ∷ log) entry party = grind (arith, items_from-push log entry party)

-- a party submitted a message that is no answer
pub party-submitted : (count : ℕ) (submissions : List Message) (log : List LogEntry) (message : Message) → IsLawfulParty count submissions log
    → answers_in (message ∷ []) ≡ [] → IsLawfulParty count (submissions ++ message ∷ []) log
party-submitted count submissions log message lawful none = grind (arith, answers_in-more)

-- one more entry from a party
from_parties-push : (count : ℕ) (log : List LogEntry) (entry : LogEntry) → AllByRecursion (λ (entry : LogEntry). entry.sender < count) log → entry.sender < count → AllByRecursion (λ (entry : LogEntry). entry.sender < count) (log ++ entry ∷ [])
from_parties-push count [] entry all from_party = (from_party, tt)
from_parties-push count (x ∷ log) entry all from_party = (all.0, from_parties-push count log entry all.1 from_party)

-- its repository applied an entry, and it submitted the answer that this calls for, if it does
pub party-applied : (count : ℕ) (submissions : List Message) (log : List LogEntry) (entry : LogEntry) → IsLawfulParty count submissions log
    → entry.sender < count → IsLawfulParty count (submissions ++ option_to_list (answer_to log entry)) (log ++ entry ∷ [])
party-applied count submissions log entry lawful from_party = grind (arith, answers_in-applied, from_parties-push)

-- one more submission that is no answer
pub submitted_kept : (site : SiteState) (accepted : List ℕ) (messages : List Message) (message : Message) → IsSite site accepted → length site.submissions < site.limit
    → answers_in (message ∷ []) ≡ [] → messages ≡ site.submissions ++ message ∷ [] → IsSite (record site { submissions = messages }) accepted
submitted_kept site accepted messages message k room none more = grind (arith, party-submitted, length-append)

-- where a message can be submitted, it is neither a query nor an answer, and there is room
pub submit-free : (full : Bool) (site : SiteState) (message : Message) → submit_fault full site message ≡ None
    → (is_query_or_answer message ≡ false) × (ask_fault full site ≡ None)
submit-free full site message free = (grind (arith, free), grind (arith, free))

-- where the answer can be submitted, there is room for it
pub answer-room : (full : Bool) (site : SiteState) (answer : Option Message) → length site.submissions ≤ site.limit → answer_fault full site answer ≡ None
    → length (site.submissions ++ option_to_list answer) ≤ site.limit
answer-room full site None few free = omega (arith, few, length-append site.submissions [])
answer-room full site (Some answer) few free = grind (arith, free, length-append site.submissions (answer ∷ []))

-- how many items of each party were accepted, once one more is
accepted-push : (log : List LogEntry) (accepted : List ℕ) (sender : ℕ) (item : Item) (party : ℕ) → sender < length accepted
    → get_or accepted sender 0 ≡ count_from log sender → get_or accepted party 0 ≡ count_from log party
    → get_or (set accepted sender (get_or accepted sender 0 + 1)) party 0 ≡ count_from (log ++ entry_from sender item ∷ []) party
accepted-push log accepted sender item party lt own other = grind (arith, elements, cases_eq party sender, items_from-push log (entry_from sender item) party, length-append {A = Item})

-- one more item, and the answer that it calls for
pub applied_kept : (limit : ℕ) (submissions messages : List Message) (old new : RepositoryState) (accepted : List ℕ) (sender : ℕ) (item : Item) (count : ℕ)
    → IsSite (site_of limit submissions old (length accepted)) accepted → sender < length accepted
    → answer_fault false (site_of limit submissions old (length accepted)) (answer_to old.log (entry_from sender item)) ≡ None
    → messages ≡ submissions ++ option_to_list (answer_to old.log (entry_from sender item)) → new ≡ repository_with old sender item → count ≡ get_or accepted sender 0 + 1
    → IsSite (site_of limit messages new (length (set accepted sender count))) (set accepted sender count)
applied_kept limit submissions messages old new accepted sender item count k lt free more applied counted =
    rw (length-set accepted sender count, counted, applied, more) (record {
      lawful = party-applied (length accepted) submissions old.log (entry_from sender item) k.lawful lt;
      few = answer-room false (site_of limit submissions old (length accepted)) (answer_to old.log (entry_from sender item)) k.few free;
      limit = k.limit;
      counts = λ party is_party. accepted-push old.log accepted sender item party lt (k.counts sender lt) (k.counts party is_party);
    })

-- the items of a party are as many as the entries that are from it
pub from_counted : (party : ℕ) (log : List LogEntry) → length (items_from log party) ≡ count_by (λ (entry : LogEntry). eqb entry.sender party) log
from_counted party = is_count_by (λ log. length (items_from log party)) (λ entry. eqb entry.sender party) refl
    (λ entry log. by (eqb entry.sender party) entry.item (items_from log party))
  where
    by : (own : Bool) (item : Item) (rest : List Item) → length (cond own (item ∷ rest) rest) ≡ cond own (1 + length rest) (length rest)
    by own item rest = grind (arith, nat_tests)
