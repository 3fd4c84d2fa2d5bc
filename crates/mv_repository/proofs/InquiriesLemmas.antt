-- Lemmas on what a log says of its party's queries.
use Rattle.mv_repository.proofs.Words.{◌≡◌, ◌∷◌, ◌++◌, ◌+◌, ◌<◌, ◌≤◌, ◌&&◌, ◌||◌, ◌==◌, arith, nat_tests, ℕ, suc, zero, refl, List, [], ◌∙◌, ap, subst, Bool, false, true, cond, Option, Some, None, is_some, length, list_any, option_or, option_map_or, or-false, list_any-append, Found, Item, LogEntry, Inquiries, Inquiry, PartySet, asked_parties, finding_in, has_answered, has_finding, has_party, joint_verdict, sym, query_of, inquiry_after, lookup, nat_eq, unwrap_or, IsInquiriesOf, IsInquiryOf, query_reach, verdict_when, waits_after, not, filter, Decided, Pending, count_by-le-length, length-filter}
use Rattle.mv_link.specs.PartySets.{parties_in}
use Rattle.std.specs.List.{range_with_len}
use Rattle.std.proofs.lemmas.List.FromFn.{length-range_with_len}

-- a log with one more entry
abbrev with_entry : List LogEntry → ℕ → Item → List LogEntry
with_entry log sender item = log ++ record { sender = sender; item = item } ∷ []

-- the parties that an item asked, if it is a receipt of the query
abbrev asked_in : ℕ → ℕ → Item → ℕ → Option (List ℕ)
asked_in party sender item q = cond (sender == party) (query_reach q item) None

-- the first receipt of a query once one more entry has come
asked-more : (party : ℕ) (log : List LogEntry) (sender : ℕ) (item : Item) (q : ℕ)
    → asked_parties party (with_entry log sender item) q ≡ option_or (asked_parties party log q) (asked_in party sender item q)
asked-more party [] sender item q = grind (arith, nat_tests)
asked-more party (entry ∷ log) sender item q = grind (arith, nat_tests, asked-more party log sender item q)

any-more : (test : LogEntry → Bool) (log : List LogEntry) (entry : LogEntry) → list_any test (log ++ entry ∷ []) ≡ (list_any test log || test entry)
any-more test log entry = list_any-append test log (entry ∷ []) ∙ ap (λ b. list_any test log || b) (or-false (test entry))

-- what a log with one more entry says of a query
finding-more : (test : Found → Bool) (party : ℕ) (log : List LogEntry) (sender : ℕ) (item : Item) (q : ℕ)
    → has_finding test party (with_entry log sender item) q ≡ (has_finding test party log q || option_map_or test (finding_in party q item) false)
finding-more test party log sender item q = any-more (λ entry. option_map_or test (finding_in party q entry.item) false) log (record { sender = sender; item = item })

answers-more : (party : ℕ) (log : List LogEntry) (sender : ℕ) (item : Item) (q other : ℕ)
    → has_answered party (with_entry log sender item) q other ≡ (has_answered party log q other || ((sender == other) && is_some (finding_in party q item)))
answers-more party log sender item q other = any-more (λ entry. (entry.sender == other) && is_some (finding_in party q entry.item)) log (record { sender = sender; item = item })

-- an entry that tells nothing of a query leaves what is known of it
stays : (party : ℕ) (log : List LogEntry) (sender : ℕ) (item : Item) (q : ℕ) (inquiry : Option Inquiry) → asked_in party sender item q ≡ None → finding_in party q item ≡ None
    → IsInquiryOf party log q inquiry → IsInquiryOf party (with_entry log sender item) q inquiry
stays party log sender item q inquiry unasked unfound is = grind (arith, nat_tests, asked-more, finding-more, answers-more, or-false)

-- so for an item that tells of no query
pub known_stays : (party : ℕ) (log : List LogEntry) (sender : ℕ) (item : Item) (known : Inquiries) → query_of party sender item ≡ None
    → IsInquiriesOf party log known → IsInquiriesOf party (with_entry log sender item) known
known_stays party log sender item known none is = record { each = λ q. stays party log sender item q _ (grind (arith, nat_tests)) (grind (arith, nat_tests)) (is.each q) }

-- an item that tells of a query
pub query_noted : (party : ℕ) (log : List LogEntry) (sender : ℕ) (item : Item) (asked : ℕ) (known known' : Inquiries) (unknown new : Inquiry) → query_of party sender item ≡ Some asked
    → unknown ≡ record { asked = None; waiting = unknown.waiting; active = false; explained = false } → ((other : ℕ) → other < 64 → has_party unknown.waiting other ≡ true)
    → new ≡ record (inquiry_after item (unwrap_or (lookup (nat_eq asked) known.inquiries.entries) unknown)) { waiting = new.waiting }
    → ((other : ℕ) → other < 64 → has_party new.waiting other ≡ waits_after sender item (unwrap_or (lookup (nat_eq asked) known.inquiries.entries) unknown).waiting other)
    → ((q : ℕ) → lookup (nat_eq q) known'.inquiries.entries ≡ cond (asked == q) (Some new) (lookup (nat_eq q) known.inquiries.entries))
    → IsInquiriesOf party log known → IsInquiriesOf party (with_entry log sender item) known'
query_noted party log sender item asked known known' unknown new told none all is waiting kept of =
    let own : IsInquiryOf party (with_entry log sender item) asked (Some new) = grind (arith, nat_tests, asked-more, finding-more, answers-more, or-false, of.each asked) in
    record { each = λ q. grind (arith, nat_tests, own, stays party log sender item q, of.each q, kept q) }

-- those of some parties that have not answered, where it is kept which have not
both-those : (p q r : ℕ → Bool) (a m : ℕ) → ((x : ℕ) → x < a + m → r x ≡ (p x && q x)) → filter q (filter p (range_with_len a m)) ≡ filter r (range_with_len a m)
both-those p q r a zero each = refl
both-those p q r a (suc m) each = let rest = both-those p q r (a + 1) m (λ x lt. each x (omega arith)) in grind (arith, each a, rest)

pub waiting_in : (asked waiting both : PartySet) (answers : ℕ → Bool) → ((other : ℕ) → has_party both other ≡ (has_party asked other && has_party waiting other))
    → ((other : ℕ) → other < 64 → has_party waiting other ≡ not (answers other)) → filter (λ other. not (answers other)) (parties_in asked) ≡ parties_in both
unfolding parties_in
waiting_in asked waiting both answers is kept = both-those (has_party asked) (λ other. not (answers other)) (has_party both) 0 64 (λ x lt. is x ∙ ap (λ b. has_party asked x && b) (kept x lt))

-- what is known decides the verdict, by how many have not answered
pub verdict_known : (party : ℕ) (log : List LogEntry) (known : Inquiries) (q : ℕ) (inquiry : Inquiry) (parties : List ℕ) (asked both : PartySet) (left : ℕ)
    → lookup (nat_eq q) known.inquiries.entries ≡ Some inquiry → inquiry.asked ≡ Some parties → parties_in asked ≡ parties
    → ((other : ℕ) → has_party both other ≡ (has_party asked other && has_party inquiry.waiting other)) → left ≡ length (parties_in both) → IsInquiriesOf party log known
    → cond (left == 0) (Decided (verdict_when inquiry.active inquiry.explained)) (Pending left) ≡ joint_verdict party log q
verdict_known party log known q inquiry parties asked both left same e set both-is count is =
    let of : IsInquiryOf party log q (Some inquiry) = subst (IsInquiryOf party log q) same (is.each q) in
    let those = ap (filter (λ other. not (has_answered party log q other))) (sym set) ∙ waiting_in asked inquiry.waiting both (has_answered party log q) both-is of.waiting in
    grind (arith, those)

-- and no set has more than there may be
pub few_in : (set : PartySet) → length (parties_in set) ≤ 64
unfolding parties_in
few_in set = omega (arith, length-filter (has_party set) (range_with_len 0 64), count_by-le-length (has_party set) (range_with_len 0 64), length-range_with_len 0 64)
