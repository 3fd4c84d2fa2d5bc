-- The events of a run tell the record, the logs and the submissions: each grows over a step by what the event of the step tells.
use Rattle.mv_show.proofs.Words.{◌≡◌, ℕ, List, [], ◌++◌, Option, None, option_and_then, option_to_list, arith, IsTrue, nat_tests, Change, drops, Step, Reply, State, Event, event_of_step, Item, Message, SiteState, Some, answer_after, answer_number, ap, append-nil, applied_change, applied_told, asked_change, common_steps, dropped, elements, entry_from, entry_told, enumerate_from, false, get_or, get_or-set_other, get_or-set_same, if◌then◌else◌, is_party, is_query_or_answer, last_of, length, length-append, log_of, map, new_site, nothing, option_map, refl, rules, set, site_of, slice_get, slice_get-behind, submission_told, submissions_of, submitted_change, unless_answer, with_site, ◌+◌, ◌<◌, ◌==◌, ◌∙◌, ◌∷◌, Effect, length-map, map-append, set_past, Answered, AreReplies, AreTold, EventsAreWritten, IsEvent, IsSound, IsTaken, Line, LogsAreTold, Open, RecordIsTold, SubmissionsAreTold, append_assoc, change-sound, event_of, event_text, filter_map, opening, opening-sound, range_with_len, said_texts, step-changes, suc, sym, zero, ⊤, numbered, subst, inr, IfOk, IfErr, Bool, Result, Ok, Err, Entry, line_at, GotNoReply, Readied, said, routed, routing, Says, Tells, event_value, applied, applied_fields, members_where, object}
use Rattle.mv_machine.specs.Replies.{changes_nothing}
use Rattle.mv_repository.specs.declared.verdict.Verdict.{Verdict}
use Rattle.mv_pack.specs.declared.key.PackKey.{PackKey}
use Rattle.mv_show.specs.Events as events
use Rattle.mv_repository.specs.declared.entry.LogEntry.{LogEntry}
use Rattle.mv_machine.specs.Lawful.{IsWellFormed}
use Rattle.mv_machine.specs.Limits.{Bounds}
use Rattle.mv_machine.specs.Runs.{Allows}
use Rattle.mv_format.specs.declared.answered.Answered.TheVariants as answers
use Rattle.mv_format.specs.declared.line_fault.LineFault.{LineFault}
use Rattle.mv_format.specs.declared.open_fault.OpenFault.{OpenFault}
use Rattle.mv_hub.specs.declared.entry.Entry.TheVariants as entries
use Rattle.mv_machine.specs.declared.reply.Reply.TheVariants as replies
use Rattle.mv_machine.specs.declared.step.Step.TheVariants as steps

-- what an event, where there is one, tells
abbrev told : {X : Type 0} → (Event → Option X) → Option Event → List X
told tell event = option_to_list (option_and_then tell event)

-- a list that is kept of the state grows over a step by what its event tells
abbrev Grows : {X : Type 0} → (Event → Option X) → (State → List X) → State → Type 0
Grows tell kept st = (step : Step) (reply : Reply) (new : State) → Change st step reply new → kept new ≡ kept st ++ told tell (event_of_step step reply new)

-- where a reply says that nothing has changed, nothing is told, unless verdicts tell something
quiet-silent : {X : Type 0} (tell : Event → Option X)
    → ((party : ℕ) (key : PackKey) (verdict : Verdict) → tell (events.verified party key verdict) ≡ None)
    → ((party q : ℕ) (key : PackKey) (verdict : Verdict) → tell (events.decided party q key verdict) ≡ None)
    → (step : Step) (reply : Reply) (st : State) → IsTrue (changes_nothing reply) → told tell (event_of_step step reply st) ≡ []
quiet-silent tell known joint step reply st quiet = grind (arith, nat_tests, known, joint)

-- a frame that is dropped or lost has no event
drop-silent : (step : Step) (reply : Reply) (st : State) → IsTrue (drops reply) → event_of_step step reply st ≡ None
drop-silent step reply st gone = grind (arith, nat_tests)

-- the last of a list that grew by one
last-pushed : {A : Type 0} (xs : List A) (x : A) → last_of (xs ++ x ∷ []) ≡ Some x
last-pushed xs x = ap (slice_get (xs ++ x ∷ [])) (omega (arith, length-append xs (x ∷ []))) ∙ slice_get-behind xs x []

enumerate-pushed : {A : Type 0} (first place : ℕ) (xs : List A) (x : A) → place ≡ first + length xs
    → enumerate_from first (xs ++ x ∷ []) ≡ enumerate_from first xs ++ (place, x) ∷ []
enumerate-pushed first place [] x is = ap (λ k. (k, x) ∷ []) (omega (arith, is))
enumerate-pushed first place (y ∷ ys) x is = ap (λ l. (first, y) ∷ l) (enumerate-pushed (first + 1) place ys x (omega (arith, is)))

record_told : (st : State) → Grows entry_told (λ st. enumerate_from 1 st.hub.entries) st
record_told st _ _ _ (nothing step reply quiet) = rw (quiet-silent entry_told (λ _ _ _. refl) (λ _ _ _ _. refl) step reply st quiet, append-nil) refl
record_told st _ _ _ (dropped step reply from to number rest gone front) = rw (drop-silent step reply _ gone, append-nil) refl
record_told st _ _ _ change = search (rules, append-nil, enumerate-pushed, last-pushed, length-append)

-- what is seen of each party is as it was, where one that was written shows the same
shown-same : {A : Type 0} (shown : SiteState → A) (sites : List SiteState) (by party : ℕ) (site : SiteState) → shown site ≡ shown (get_or sites by (new_site 0 0 0))
    → shown (get_or (set sites by site) party (new_site 0 0 0)) ≡ shown (get_or sites party (new_site 0 0 0))
shown-same shown sites by party site same = grind (arith, get_or-set_same, set_past, get_or-set_other)

-- what is told of the last entry of a log that just came into it
last-told : {X : Type 0} (tell : Event → Option X) (event : LogEntry → Event) (sites : List SiteState) (to : ℕ) (site : SiteState) (log : List LogEntry) (entry : LogEntry) → to < length sites
    → site.log ≡ log ++ entry ∷ []
    → told tell (option_map event (last_of (get_or (set sites to site) to (new_site 0 0 0)).log)) ≡ option_to_list (tell (event entry))
last-told tell event sites to site log entry within is = grind (arith, nat_tests, get_or-set_same, last-pushed, told)

-- a party that was written is read
module _ (party : ℕ) (st : State) (well_formed : IsWellFormed st) where
  has_site : (to : ℕ) → to < length st.hub.parties → to < length st.sites
  has_site to is_party = omega (arith, is_party, well_formed.sites_each)

  -- the log of each party is as it was where one has the same log
  log-same : (by : ℕ) (site : SiteState) → by < length st.hub.parties → site.log ≡ log_of st by → log_of (with_site st by site) party ≡ log_of st party
  log-same by site is_party same = shown-same (λ it. it.log) st.sites by party site same

  log_told : Grows (applied_told party) (λ st. log_of st party) st
  log_told _ _ _ (nothing step reply quiet) = rw (quiet-silent (applied_told party) (λ _ _ _. refl) (λ _ _ _ _. refl) step reply st quiet, append-nil) refl
  log_told _ _ _ (submitted_change from message is_party none free) = search (rules, append-nil, has_site, last-pushed, log-same, get_or-set_same, get_or-set_other)
  log_told _ _ _ (asked_change by key is_party free) = search (rules, append-nil, has_site, last-pushed, log-same, get_or-set_same, get_or-set_other)
  log_told _ _ _ (applied_change from to number rest item from_is_party to_is_party front next free) = search (rules, append-nil, has_site, last-pushed, log-same, get_or-set_same, get_or-set_other)
  log_told _ _ _ (dropped step reply from to number rest gone front) = rw (drop-silent step reply _ gone, append-nil) refl
  log_told _ _ _ change = search (rules, append-nil)

-- what a party submits itself is none
own-is_none : (message : Message) → is_query_or_answer message ≡ false → unless_answer message ≡ Some message
own-is_none message e = grind (arith, nat_tests)

-- what is kept of some submissions
abbrev kept_submissions : List Message → List (ℕ × Option Message)
kept_submissions messages = enumerate_from 1 (map unless_answer messages)

-- where a party submitted one more message, what is kept of its own submissions alone grew by it
submissions-grow : (sites : List SiteState) (by party : ℕ) (message : Message) (log : List LogEntry) (known : Option Message) → unless_answer message ≡ known → by < length sites
    → let here = get_or sites by (new_site 0 0 0) in
    kept_submissions (get_or (set sites by (record here { submissions = here.submissions ++ message ∷ []; log = log })) party (new_site 0 0 0)).submissions
    ≡ kept_submissions (get_or sites party (new_site 0 0 0)).submissions ++ option_to_list (if by == party then Some (length here.submissions + 1, known) else None)
submissions-grow sites by party message log known is within = grind (arith, common_steps, append-nil, length-map, map-append, enumerate-pushed)

module _ (party : ℕ) (st : State) (well_formed : IsWellFormed st) where
  abbrev kept_here : List (ℕ × Option Message)
  kept_here = kept_submissions (submissions_of st party)

  -- what an application adds, by the answer that it calls for
  applied-grows : (from to number : ℕ) (effect : Effect) (item : Item) → to < length st.hub.parties → (answer : Option Message)
      → answer_after (log_of st to) from item ≡ answer
      → let site = record (site_of st to) { submissions = submissions_of st to ++ option_to_list answer; log = log_of st to ++ entry_from from item ∷ [] } in
      kept_submissions (get_or (set st.sites to site) party (new_site 0 0 0)).submissions
      ≡ kept_here ++ told (submission_told party) (option_map (events.applied to number effect (answer_number (submissions_of st to) answer))
      (last_of (get_or (set st.sites to site) to (new_site 0 0 0)).log))
  applied-grows from to number effect item h1 answer h2 =
      grind (arith, elements, last-told, has_site, shown-same, append-nil, submissions-grow)

  submissions_told : Grows (submission_told party) (λ st. kept_submissions (submissions_of st party)) st
  submissions_told _ _ _ (nothing step reply quiet) = rw (quiet-silent (submission_told party) (λ _ _ _. refl) (λ _ _ _ _. refl) step reply st quiet, append-nil) refl
  submissions_told _ _ _ (submitted_change from message is_party none free) = search (rules, append-nil, applied-grows, has_site, own-is_none, submissions-grow)
  submissions_told _ _ _ (asked_change by key is_party free) = search (rules, append-nil, applied-grows, has_site, own-is_none, submissions-grow)
  submissions_told _ _ _ (applied_change from to number rest item from_is_party to_is_party front next free) = search (rules, append-nil, applied-grows, has_site, own-is_none, submissions-grow)
  submissions_told _ _ _ (dropped step reply from to number rest gone front) = rw (drop-silent step reply _ gone, append-nil) refl
  submissions_told _ _ _ change = search (rules, append-nil)

-- What came of a line: it was refused, it opened a system, or a step was taken.
data Came (before : Open) : Answered → Open → Type 0 where
  unread : (fault : LineFault) → Came before (answers.Unread fault) before
  not_taken : (fault : OpenFault) → Came before (answers.NotTaken fault) before
  opened : (parties : List (List (List ℕ))) (limits : Bounds) (count : ℕ) → before ≡ None
      → Came before (answers.Opened count) (Some (opening parties limits))
  stepped : (old : State) (step : Step) (reply : Reply) (new : State) → before ≡ Some old → Allows old step reply new
      → Came before (answers.Stepped step reply) (Some new)

opened_as : (before after : Open) (parties : List (List (List ℕ))) (limits : Bounds) (count : ℕ) → before ≡ None → after ≡ Some (opening parties limits)
    → Came before (answers.Opened count) after
opened_as before after parties limits count none is = rw is (opened parties limits count none)

came : (before : Open) (line : List ℕ) (answered : Answered) (after : Open) → IsTaken before line answered after → Came before answered after
came before line answered after taken = grind (arith, nat_tests, not_taken, opened_as, stepped, unread)

told-first : {X : Type 0} (tell : Event → Option X) (line : ℕ) (event : Option Event) (rest : List (ℕ × Event))
    → filter_map (λ (it : ℕ × Event). tell it.1) (numbered line event ++ rest) ≡ told tell event ++ filter_map (λ (it : ℕ × Event). tell it.1) rest
told-first tell line event rest = grind (arith, nat_tests)

-- what holds of what is open, if something is
abbrev OfOpen : (State → Type 0) → Open → Type 0
OfOpen P None = ⊤
OfOpen P (Some st) = P st

came-sound : (before : Open) (answered : Answered) (after : Open) → Came before answered after → OfOpen IsSound before → OfOpen IsSound after
came-sound before answered after h1 h2 = grind (arith, opening-sound, change-sound, step-changes)

-- what a state keeps, of what is open; nothing, before something is
abbrev kept_of : {X : Type 0} → (State → List X) → Open → List X
kept_of kept None = []
kept_of kept (Some st) = kept st

module _ {X : Type 0} (tell : Event → Option X) (kept : State → List X)
    (begins : (parties : List (List (List ℕ))) (limits : Bounds) → kept (opening parties limits) ≡ [])
    (silent : (parties : List (List (List ℕ))) (limits : Bounds) → tell (events.opened parties limits) ≡ None)
    (grows : (st : State) → IsSound st → Grows tell kept st) where
  line-told : (before : Open) (answered : Answered) (after : Open) → Came before answered after → OfOpen IsSound before
      → kept_of kept after ≡ kept_of kept before ++ told tell (event_of answered after)
  line-told before answered after came sound = grind (arith, nat_tests, IsSound, append-nil, grows, step-changes)

  lines-told : (lines : List Line) (events : List (ℕ × Event)) (before after : Open) → OfOpen IsSound before → AreTold before lines events after
      → kept_of kept after ≡ kept_of kept before ++ filter_map (λ (it : ℕ × Event). tell it.1) events
  lines-told [] events before after sound are = search (rules, append-nil)
  lines-told (line ∷ lines) events before after sound are =
      let first = came before line.bytes are.0 are.1 are.3 in
      let rest = lines-told lines are.2 are.1 after (came-sound before are.0 are.1 first sound) are.5 in
      search (rules, rest, line-told before are.0 are.1 first sound, append_assoc, told-first, are.4)

  -- the events of a whole run tell all that is kept of its last state
  pub run-told : (lines : List Line) (events : List (ℕ × Event)) (st : State) → AreTold None lines events (Some st)
      → filter_map (λ (it : ℕ × Event). tell it.1) events ≡ kept st
  run-told lines events st are = sym (lines-told lines events None (Some st) tt are)

pub record_is_told : RecordIsTold
record_is_told = run-told entry_told (λ st. enumerate_from 1 st.hub.entries) (λ parties limits. refl) (λ parties limits. refl) (λ st sound. record_told st)

-- each party begins with nothing
none-at : {A : Type 0} (shown : SiteState → List A) (make : ℕ → SiteState) → ((party : ℕ) → shown (make party) ≡ []) → shown (new_site 0 0 0) ≡ []
    → (start count place : ℕ) → shown (get_or (map make (range_with_len start count)) place (new_site 0 0 0)) ≡ []
none-at shown make each none start zero place = none
none-at shown make each none start (suc count) place = grind (arith, nat_tests, each start, none-at shown make each none (start + 1) count)

pub logs_are_told : LogsAreTold
logs_are_told party =
    run-told (applied_told party) (λ st. log_of st party)
    (λ parties limits. none-at (λ site. site.log) (λ party. new_site party (length parties) limits.submissions) (λ _. refl) refl 0 (length parties) party) (λ parties limits. refl)
    (λ st sound. log_told party st sound.well_formed)

pub submissions_are_told : SubmissionsAreTold
submissions_are_told party =
    run-told (submission_told party) (λ st. enumerate_from 1 (map unless_answer (submissions_of st party)))
    (λ parties limits. none-at (λ site. enumerate_from 1 (map unless_answer site.submissions)) (λ party. new_site party (length parties) limits.submissions) (λ _. refl) refl 0 (length parties) party)
    (λ parties limits. refl) (λ st sound. submissions_told party st sound.well_formed)

-- the texts of events, each with the number of its line
abbrev texts_in : List (ℕ × Event) → List (List ℕ)
texts_in events = map (λ (it : ℕ × Event). event_text it.0 it.1) events

-- what is written to a line and to others is the text of its event and those of theirs
text-first : (line : ℕ) (event : Option Event) (texts : List (Option (List ℕ))) (others : List (ℕ × Event)) → said_texts texts ≡ texts_in others
    → said_texts (option_map (event_text line) event ∷ texts) ≡ texts_in (numbered line event ++ others)
text-first line event texts others are = grind (arith, nat_tests)

-- what is written to lines are the texts of their events
texts-told : (before : Open) (lines : List Line) (texts : List (Option (List ℕ))) (after : Open) → AreReplies IsEvent before lines texts after
    → (events : List (ℕ × Event)) × (said_texts texts ≡ texts_in events) × AreTold before lines events after
texts-told before [] [] after are = ([], refl, (refl, are))
texts-told before (line ∷ lines) (text ∷ texts) after (between, (answered, taken, is), rest) =
    let others = texts-told between lines texts after rest in
    (numbered line.number (event_of answered between) ++ others.0, grind (arith, text-first, others.1), (answered, between, others.0, taken, refl, others.2))
texts-told before lines texts after are = absurd are

pub events_are_written : EventsAreWritten
events_are_written before lines out after (texts, is, replies) = search (rules, texts-told)

-- ---- What is written of an event

-- what was said of a line's event is what may be written to the line
pub event_answers : {E : Type 0} (r : Result Bool E) (old new : List ℕ) (line : ℕ) (before : Open) (bytes : List ℕ) (answered : Answered) (after : Open)
    → IsTaken before bytes answered after → Tells r old new line (event_of answered after)
    → IfOk r (λ spoken. Readied old new (λ text. IsEvent before (line_at line bytes) (said spoken text) after))
event_answers r old new line before bytes answered after taken tells = grind (arith, nat_tests)

-- where there was no memory for it, the line was taken all the same
pub event_unanswered : {E : Type 0} (r : Result Bool E) (line : ℕ) (before : Open) (bytes : List ℕ) (answered : Answered) (after : Open)
    → IsTaken before bytes answered after → IfErr r (λ _. GotNoReply IsEvent before (line_at line bytes) after)
event_unanswered (Ok spoken) line before bytes answered after taken = tt
event_unanswered (Err e) line before bytes answered after taken =
    inr (option_map (event_text line) (event_of answered after), (answered, taken, refl))

module _ {E : Type 0} (r : Result Bool E) (old new : List ℕ) (line : ℕ) where
  -- an event that there is was written
  pub says_tells : (event : Event) → Says r old new (event_value line event) → Tells r old new line (Some event)
  says_tells event said = assumption said

  -- so it was of a routing, by the entry that it made, the last of so many
  pub route_tells : (reach : List ℕ) (all : List Entry) (from k : ℕ) (message written : Message)
      → last_of all ≡ Some (entries.Routed from k message) → written ≡ message
      → Says r old new (event_value line (routed from k written reach (length all)))
      → Tells r old new line (routing reach (length all) (last_of all))
  route_tells reach all from k message written last same said =
      rw last (says_tells (routed from k message reach (length all)) (subst (λ m. Says r old new (event_value line (routed from k m reach (length all)))) same said))

  -- and of an application, by the last entry of the log
  pub applied_tells : (from to number : ℕ) (effect : Effect) (answer : Option ℕ) (entry : LogEntry) (item : Item) (reply : Reply) (st : State) → reply ≡ replies.Applied number effect answer
      → Some entry ≡ last_of (log_of st to) → entry.item ≡ item → Says r old new (object (members_where (applied_fields line to number effect answer entry.sender item)))
      → Tells r old new line (event_of_step (steps.Apply from to) reply st)
  applied_tells from to number effect answer entry item reply st is last same said =
      rw (is, ← last) (says_tells (applied to number effect answer entry) (subst (λ it. Says r old new (object (members_where (applied_fields line to number effect answer entry.sender it)))) (sym same) said))
