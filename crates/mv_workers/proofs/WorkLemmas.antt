-- What a party submits of its own, and of which list that is a front; what comes back of a crew, desk by desk; and that lengths decide what is carried out.
use Rattle.mv_workers.proofs.Words.{Bool, IsBegun, IsTrue, List, Message, [], answers_in, ap, append-nil, arith, false, get_or, get_or-map, is_answer, length, length-append, length-map, list_any, lists_of, nat_tests, nil_from_length, own_among, ℕ, ◌++◌, ◌<◌, ◌≤◌, ◌==◌, ◌↔◌, ◌∷◌, ◌≡◌, map, ◌&&◌, map-append, same_from_push, RepoEnd, AreSameRepos, own_of, IsFurther, Handle, HasTurns, end_of, work_of, AreBegun, Desk, IsLawful, IsPrefix, State, items_from, link_items, log_of, submissions_of, common_steps, routed_from}
use Rattle.std.specs.declared.alloc.Global.{Global}
use Rattle.std.specs.declared.vec.Vec.{Vec}
use Rattle.std.proofs.lemmas.Slice.Zip.{all_zipped_more}

-- no answer is among messages of which none is one
pub none_answers : (messages : List Message) → (list_any is_answer messages ≡ false) ↔ (answers_in messages ≡ [])
none_answers [] = grind (arith, nat_tests)
none_answers (x ∷ xs) = grind (arith, nat_tests, none_answers xs)

-- there are as many lists as are kept
pub lists_counted : (lists : List (Vec Message Global)) → length (lists_of lists) ≡ length lists
lists_counted lists = grind (arith, length-map)

-- a list is what is kept of it
pub list_found : (lists : List (Vec Message Global)) (place : ℕ) (list : Vec Message Global) → place < length lists → list ≡ get_or lists place list
    → get_or (lists_of lists) place [] ≡ list.items
list_found lists place list below is = grind (arith, get_or-map)

-- what was submitted and what is left are the list: so it is begun, and all of it was submitted where nothing is left
begun_of : (turns : ℕ) (own left list : List Message) (all : Bool) → own ++ left ≡ list → length own ≤ turns → all ≡ (length left == 0)
    → IsBegun turns own list × (IsTrue all ↔ (own ≡ list))
begun_of turns own left list all whole few over = (record { front = (left, whole); few = few }, grind (arith, length-append own left, append-nil, nil_from_length))

-- one more worker gave its desk back
pub begun_more : (turns : ℕ) (done : List Handle) (repos : List RepoEnd) (all : Bool) (handle : Handle) (desk : Desk) (over : Bool)
    → AreSameRepos (map end_of done) repos → AreBegun turns (map work_of done) repos all → IsFurther handle.promise.1 handle.promise.0.value desk
    → HasTurns turns handle → over ≡ (length desk.list.items == 0)
    → AreSameRepos (map end_of (done ++ handle ∷ [])) (repos ++ desk.end ∷ []) × AreBegun turns (map work_of (done ++ handle ∷ [])) (repos ++ desk.end ∷ []) (all && over)
begun_more turns done repos all handle desk over same begun further given is =
    let few : length (own_of desk.end) ≤ turns = omega (arith, further.2, given.turns_are, ap (λ messages. length (own_among messages)) given.unused.none) in
    let step = begun_of turns (own_of desk.end) desk.list.items (work_of handle) over further.1 few is in
    grind (arith, nat_tests, map-append, all_zipped_more, same_from_push, step)

-- a front that is as long as the whole is the whole
front-whole : {A : Type 0} (front whole : List A) → IsPrefix front whole → length front ≡ length whole → front ≡ whole
front-whole {A = A} front whole prefix same = grind (arith, nat_tests, common_steps, append-nil, length-append)

-- where as many messages of a party were routed as it submitted, all were
pub routed_by_count : (outcome : State) (party count : ℕ) → IsLawful outcome → party < length outcome.hub.parties → count ≡ length (routed_from outcome.hub.entries party)
    → count ≡ length (submissions_of outcome party) → routed_from outcome.hub.entries party ≡ submissions_of outcome party
routed_by_count outcome party count lawful below routed submitted = grind (arith, front-whole)

-- where a repository applied as many items of a party as are on the link, it applied all
pub applied_by_count : (outcome : State) (from to applied total : ℕ) → IsLawful outcome → from < length outcome.hub.parties → to < length outcome.hub.parties
    → applied ≡ length (items_from (log_of outcome to) from) → total ≡ length (link_items outcome.hub.parties outcome.hub.entries from to) → applied ≡ total
    → items_from (log_of outcome to) from ≡ link_items outcome.hub.parties outcome.hub.entries from to
applied_by_count outcome from to applied total lawful from_below to_below is put same = grind (arith, front-whole)
