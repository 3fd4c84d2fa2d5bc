-- Nothing that is routed after the closing of a link goes over it, and the headline follows from two lawful states of which one follows the other.
use Rattle.std.proofs.lemmas.List.Sums.{take_while-cons}
use Rattle.mv_machine.proofs.Words.{◌≡◌, ℕ, suc, ◌+◌, ◌≤◌, true, false, List, [], ◌∷◌, ◌++◌, take, drop, cond, Some, append_assoc, append-nil, arith, slice_get, Entry, Follows, IsLawful, Message, Reply, Routed, State, Step, is_open, items_from, log_of, number_of, routed_count, take-append-drop, ClosedLinksStayClosed, HeadlineHolds, InSteps, IsWellFormed, Verify}
use Rattle.mv_machine.specs.Closing.{before_closing, NothingRoutedLater, NothingSubmittedLater}
use Rattle.mv_machine.proofs.PutLemmas.{stamps_suffice, numbers_suffice, stamps_distinct, applied_submitted, log-put, numbers_rise, put-each, repositories_agree, routed_count-few, routed_count-push}
use Rattle.mv_machine.proofs.StepLemmas.{refusals_change_nothing, Change, asked-changes, change-sound, run-keeps, runs_kept, step-changes}

-- what stands before the closing of a link goes on behind an entry that does not close it
before_closing-next : (entry : Entry) (entries : List Entry) (from to : ℕ)
    → before_closing (entry ∷ entries) from to ≡ cond (is_open (entry ∷ []) from to) (entry ∷ before_closing entries from to) []
before_closing-next entry entries from to = take_while-cons (λ entry. is_open (entry ∷ []) from to) entry entries

-- a message that was routed while a link was open was routed before its closing
open-before : (entries : List Entry) (place from to k : ℕ) (message : Message) → slice_get entries place ≡ Some (Routed from k message) → is_open (take place entries) from to ≡ true
    → routed_count (take place entries) from + 1 ≤ routed_count (before_closing entries from to) from
open-before (entry ∷ entries) (suc place) from to k message at open_then = grind (arith, open-before entries place from to k message at, before_closing-next)
open-before entries place from to k message at open_then = grind (arith, at, before_closing-next)

-- what was applied over a link is about messages that were routed before its closing
pub nothing_routed_later : (st : State) → IsLawful st → NothingRoutedLater st
nothing_routed_later st lawful from to from_is_party to_is_party =
    put-each st.hub.parties st.hub.entries from to (λ item. number_of item ≤ routed_count (before_closing st.hub.entries from to) from) 2
    (λ item put. let fits = lawful.of_record.fits put.place (Routed from (number_of item) put.message) put.routed in
    grind (arith, fits, open-before st.hub.entries put.place from to (number_of item) put.message put.routed put.still_open))
    (items_from (log_of st to) from) (log-put st from to lawful from_is_party to_is_party)

-- once a link is closed, what stands before its closing stays
before_closing-append : (entries more : List Entry) (from to : ℕ) → is_open entries from to ≡ false → before_closing (entries ++ more) from to ≡ before_closing entries from to
before_closing-append [] more from to shut = absurd (cc)
before_closing-append (entry ∷ entries) more from to shut = grind (arith, before_closing-append entries more from to, before_closing-next)

-- no more was routed before an entry than was routed at all
routed_count-take : (count : ℕ) (entries : List Entry) (party : ℕ) → routed_count (take count entries) party ≤ routed_count entries party
routed_count-take count entries party = grind (arith, take-append-drop count entries, routed_count-push (take count entries) (drop count entries) party)

-- a later state of a later one
pub follows_further : (first second third : State) → Follows first second → Follows second third → Follows first third
follows_further first second third a b = grind (arith, append_assoc)

-- each change goes on with the record
pub change-follows : (old new : State) (step : Step) (reply : Reply) → Change old step reply new → Follows old new
change-follows old new step reply change = grind (arith, append-nil)

-- where a link is closed in one state, nothing that was submitted since is applied over it in a later one
pub nothing_submitted_later : (old new : State) → IsLawful old → IsLawful new → Follows old new → NothingSubmittedLater old new
nothing_submitted_later old new old_lawful new_lawful follows from to from_is_party to_is_party shut =
    grind (arith, before_closing-append, nothing_routed_later, routed_count-take, routed_count-few, number_of, log_of)

pub headline : (old new : State) → IsLawful old → IsWellFormed new → IsLawful new → Follows old new → HeadlineHolds old new
headline old new began well_formed lawful follows =
    search (applied_submitted, numbers_rise, nothing_submitted_later, nothing_routed_later, repositories_agree)

-- over a change, where the state before it is lawful
change-headline : (old new : State) (step : Step) (reply : Reply) → Change old step reply new → IsWellFormed old → IsLawful old → HeadlineHolds old new
change-headline old new step reply change well_formed lawful = grind (arith, change-sound, headline, change-follows)

pub steps_keep_headline : InSteps (λ old reply new. IsWellFormed old → IsLawful old → HeadlineHolds old new)
steps_keep_headline = (
  λ old step reply new allowed. change-headline old new step reply (step-changes old step reply new allowed),
  λ old party key reply new met. change-headline old new (Verify party key) reply (asked-changes old party key reply new met),
)

-- where nothing happened
pub headline-same : (st : State) → IsWellFormed st → IsLawful st → HeadlineHolds st st
headline-same st well_formed lawful = grind (arith, headline, append-nil)

pub headline_further : (first second third : State) → HeadlineHolds first second → HeadlineHolds second third → HeadlineHolds first third
headline_further first second third a b = search (headline, follows_further)

-- over the second of two runs the headline holds
pub closed_links_stay_closed : ClosedLinksStayClosed
closed_links_stay_closed parties limits first first_replies between ran_first second second_replies new ran_second =
    let sound = (runs_kept parties limits first first_replies between ran_first).0 in
    let holds = run-keeps (HeadlineHolds between) (λ old later step reply change here. grind (arith, change-headline, headline_further))
    between second second_replies new ran_second (headline-same between sound.well_formed sound.lawful) in
    (holds.closed, holds.closing)

-- what the laws say
pub ruleset laws = (runs_kept, closed_links_stay_closed, stamps_suffice, numbers_suffice, stamps_distinct, applied_submitted, headline, headline_further, steps_keep_headline, refusals_change_nothing)
