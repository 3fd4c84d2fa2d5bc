-- The laws of the line that asks a request: it is read as that request, and what any line asks is legal.
use Rattle.mv_format.proofs.Words.{AllByRecursion, Asking, Bool, Data, IfOk, IsMarket, Kind, LineFault, LineField, LineKind, List, Ok, Open, Request, Result, Some, Step, [], arith, array, as_list, as_str, asked_at, each_back, each_of, items_of, kind_at, list_all, lt-ltb, map, market_lists_at, member_at, message_at, nat_tests, number_at, ok_or, read_at, read_is_legal, read_request, reads_back, refl, request_at, shape_of, string, strings, subst, ℕ, ◌and_then◌, ◌∷◌, ◌≡◌, Decides-and}
use Rattle.std.specs.Bool.{Decides}
use Rattle.mv_pack.proofs.CallerLemmas.{read_code_is_code, read_code_of, read_gtin_of, read_market_is_market, read_market_of}
use Rattle.mv_format.specs.RequestLaws.{request_value, IsLegalRequest}
use Rattle.mv_format.specs.Meanings.{AreMarketLists, meaning_of}
use Rattle.mv_format.proofs.ListLemmas.{is_market, market_lists}
use Rattle.mv_machine.specs.declared.step.Step.TheVariants as steps
use Rattle.mv_format.specs.declared.field.LineField.TheVariants as fields
use Rattle.mv_format.specs.declared.kind.LineKind.TheVariants as kinds

-- each list of markets is a list of texts, and these are markets
lists_back : (lists : List (List (List ℕ))) → each_of (as_list as_str) (items_of (map (λ markets. array (strings markets)) lists)) ≡ Some lists
lists_back = each_back (as_list as_str) (λ markets. array (strings markets)) (each_back as_str string (λ text. refl))

-- a test of each member decides what holds of all
each_decides : {A : Type 0} (P : A → Type 0) (test : A → Bool) → ((x : A) → Decides (test x) (P x)) → (xs : List A)
    → Decides (list_all test xs) (AllByRecursion P xs)
each_decides P test decides [] = (λ _. tt, λ _. refl)
each_decides P test decides (x ∷ xs) = Decides-and (test x) (list_all test xs) (decides x) (each_decides P test decides xs)

market_decides : (text : List ℕ) → Decides (is_market text) (IsMarket text)
market_decides text = grind (arith, read_market_is_market, read_market_of)

lists_decide : (lists : List (List (List ℕ))) → Decides (list_all (list_all is_market) lists) (AreMarketLists lists)
lists_decide = each_decides _ _ (each_decides _ _ market_decides)

-- each request is read back from its line
pub requests_read_back : (request : Request) → IsLegalRequest request → read_request (request_value request) ≡ Ok request
unfolding read_request kind_at request_at read_at message_at market_lists_at number_at
requests_read_back (Open parties submissions uplink window wire) (legal, (s, (u, (w, (i, _))))) =
    rw (lists_back parties, (lists_decide parties).1 legal, lt-ltb _ _ s, lt-ltb _ _ u, lt-ltb _ _ w, lt-ltb _ _ i)
requests_read_back (Step (steps.Submit from message)) (few, (legal, _)) = rw (lt-ltb _ _ few, reads_back message legal)
requests_read_back (Step (steps.Verify party key)) (gtin, (few, (serial, _))) = rw (read_gtin_of key.gtin gtin, lt-ltb _ _ few, read_code_of key.serial serial)
requests_read_back (Step (steps.Route from)) (few, _) = rw (lt-ltb _ _ few)
requests_read_back (Step (steps.Repeat from to number)) (few, (small, (less, _))) = rw (lt-ltb _ _ few, lt-ltb _ _ small, lt-ltb _ _ less)
requests_read_back (Step step) (few, (less, _)) = rw (lt-ltb _ _ few, lt-ltb _ _ less)

-- what holds of what the next step gives, whatever was read, holds of both
then_any : {A B : Type 0} (Q : B → Type 0) (reading : Result A LineFault) (next : A → Result B LineFault)
    → ((x : A) → IfOk (next x) Q) → IfOk (reading and_then next) Q
then_any Q reading next step = grind (arith, nat_tests)

all_gave : (field : LineField) (lists : List (List (List ℕ))) → IfOk (market_lists field lists) AreMarketLists
all_gave field lists = grind (arith, (lists_decide lists).0)

-- what a field is read as is legal
meaning_gave : (field : LineField) (value : Data) → IfOk ((meaning_of field).read value) (meaning_of field).IsLegal
unfolding read_at message_at market_lists_at number_at
meaning_gave fields.Serial value = grind (arith, nat_tests, read_code_is_code)
meaning_gave fields.Message value = grind (arith, nat_tests, read_is_legal)
meaning_gave fields.Parties value =
    then_any AreMarketLists (member_at fields.Parties value) _
    (λ found. then_any AreMarketLists (ok_or (as_list (as_list as_str) found) (Kind fields.Parties)) _ (all_gave fields.Parties))
meaning_gave field value = grind (arith, nat_tests)

-- what is asked is legal, whatever legal values these fields have
abbrev AsksLegal : (others : List LineField) → Asking others → Type 0
AsksLegal [] request = IsLegalRequest request
AsksLegal (field ∷ rest) asks = (x : (meaning_of field).Value) → (meaning_of field).IsLegal x → AsksLegal rest (asks x)

asked_gave : (others : List LineField) (asks : Asking others) (value : Data) → AsksLegal others asks → IfOk (asked_at others asks value) IsLegalRequest
asked_gave [] request value legal = legal
asked_gave (field ∷ rest) asks value legal =
    grind (arith, nat_tests, meaning_gave field value, λ (x : (meaning_of field).Value). asked_gave rest (asks x) value, legal)

kinds_ask : (kind : LineKind) → AsksLegal (shape_of kind).0 (shape_of kind).1
kinds_ask kinds.Open = λ parties legal submissions s uplink u window w wire i. (legal, (s, (u, (w, (i, tt)))))
kinds_ask kinds.Route = λ from small. (small, tt)
kinds_ask kinds.Repeat = λ from small number less to few. (small, (less, (few, tt)))
kinds_ask kinds.Verify = λ gtin legal party small serial coded. (legal, (small, (coded, tt)))
kinds_ask kind = λ first legal second lawful. (legal, (lawful, tt))

request_gave : (kind : LineKind) (value : Data) → IfOk (request_at kind value) IsLegalRequest
unfolding request_at
request_gave kind value = asked_gave (shape_of kind).0 (shape_of kind).1 value (kinds_ask kind)

read_gave : (value : Data) → IfOk (read_request value) IsLegalRequest
unfolding read_request
read_gave value = grind (arith, nat_tests, request_gave)

-- what a line asks is legal
pub read_requests_are_legal : (value : Data) (request : Request) → read_request value ≡ Ok request → IsLegalRequest request
read_requests_are_legal value request read = subst (λ r. IfOk r IsLegalRequest) read (read_gave value)
