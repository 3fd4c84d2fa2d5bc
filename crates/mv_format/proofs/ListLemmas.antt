-- Lemmas on lists of values, and on the lists of markets that they are.
use Rattle.mv_format.proofs.Words.{Bool, Data, Err, Items, LineFault, LineField, List, Market, Ok, Option, Pack, Result, Some, [], all_some, arith, as_list, as_str, cond, each_of, is_some, item, items_view, list_all, market_item, market_list, market_lists_at, nat_tests, no_items, option_and_then, option_map, read_all, read_market, refl, view, walked_lists_at, ℕ, ◌and_then◌, ◌∷◌, ◌≡◌}
use Rattle.std.specs.Result.{is_ok}
use Rattle.serde_json.specs.declared.value.Value.{Value}

-- all values are lists of texts where the list of what they are is one
pub all_are_text_lists : (vs : List Value) → list_all (λ v. is_some (as_list as_str (view v))) vs ≡ is_some (each_of (as_list as_str) (items_view vs))
all_are_text_lists = all_some (as_list as_str)

-- ---- lists of markets, looked at member by member

-- whether a text is a market
abbrev pub is_market : List ℕ → Bool
is_market text = is_ok (read_market text)

-- the lists, where all texts in them are markets
abbrev pub market_lists : LineField → List (List (List ℕ)) → Result (List (List (List ℕ))) LineFault
market_lists field lists = cond (list_all (list_all is_market) lists) (Ok lists) (Err (Pack field Market))

-- where each member is read as what it is, if that is good, so is the list of them
all_read : {A : Type 0} (as_one : Data → Option A) (read : Data → Result A LineFault) (good : A → Bool) (bad : LineFault)
    → ((value : Data) (x : A) → as_one value ≡ Some x → read value ≡ cond (good x) (Ok x) (Err bad))
    → (items : Items) (xs : List A) → each_of as_one items ≡ Some xs → read_all read items ≡ cond (list_all good xs) (Ok xs) (Err bad)
all_read as_one read good bad reads no_items [] are = refl
all_read as_one read good bad reads no_items (x ∷ xs) are = absurd (cc)
all_read {A} as_one read good bad reads (item value items) xs are = by (as_one value) (each_of as_one items) (reads value) (all_read as_one read good bad reads items) are
  where
    by : (one : Option A) (rest : Option (List A)) → ((x : A) → one ≡ Some x → read value ≡ cond (good x) (Ok x) (Err bad))
        → ((ys : List A) → rest ≡ Some ys → read_all read items ≡ cond (list_all good ys) (Ok ys) (Err bad))
        → option_and_then (λ first. option_map (λ more. first ∷ more) rest) one ≡ Some xs
        → (read value and_then λ first. read_all read items and_then λ more. Ok (first ∷ more)) ≡ cond (list_all good xs) (Ok xs) (Err bad)
    by one rest reads_one reads_rest are = grind (arith, nat_tests)

market_read : (field : LineField) (value : Data) (text : List ℕ) → as_str value ≡ Some text
    → market_item field value ≡ cond (is_market text) (Ok text) (Err (Pack field Market))
market_read field value text is = grind (arith, is)

list_read : (field : LineField) (value : Data) (texts : List (List ℕ)) → as_list as_str value ≡ Some texts
    → market_list field value ≡ cond (list_all is_market texts) (Ok texts) (Err (Pack field Market))
list_read field value texts are = grind (arith, are, all_read as_str (market_item field) is_market (Pack field Market) (market_read field))

-- whoever looks at the members of the lists, one after the other, finds what the lists are
pub lists_walked : (field : LineField) (value : Data) → market_lists_at field value ≡ walked_lists_at field value
unfolding market_lists_at walked_lists_at
lists_walked field value = grind (arith, all_read (as_list as_str) (market_list field) (list_all is_market) (Pack field Market) (list_read field))
