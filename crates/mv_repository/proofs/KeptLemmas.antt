-- Lemmas on the table of packs.
use Rattle.mv_repository.proofs.Words.{◌≡◌, ◌&&◌, bytes_eq, ℕ, List, Option, option_and_then, true, same_text, nat_list_eq_equiv, PackKey, BatchKey, is_same_pack, is_same_batch, Life, made_batch, arith, nat_tests, cond, ◌∷◌, ◌++◌, [], refl, sym, ◌∙◌, ap, Bool, false, fold, true≢false, flat_map, lookup, keys_of, flat_map-append, fold-append, append-nil, Some, is_some-lookup, insert_entry, insert_key, keys_insert_entry, Recall, Withdraw, Item, Carried, LogEntry, recalled_in, is_recall_of, is_withdrawal_of, withdrawn_in, insert_all, comes_first, Upload}

-- a table of keys once the newest entry, which is under one of them, is added to it: the earlier of it and the first so far stays
pub record HasFirst {K : Type 0} (same : K → K → Bool) (log : List LogEntry) (new : ℕ) (key : K) (before after : List (K × ℕ)) : Type 0 where
  pub places : (other : K) → lookup (same other) after ≡ cond (same key other && comes_first log new (lookup (same key) before)) (Some new) (lookup (same other) before)
  pub keys : keys_of after ≡ insert_key same (keys_of before) key

-- an item is an upload of these packs of a product
abbrev pub IsUploadOf : Item → List ℕ → List (List ℕ) → Type 0
IsUploadOf (Carried k stamp (Upload named batch expiry national packs)) gtin serials = (named ≡ gtin) × (packs ≡ serials)
IsUploadOf _ gtin serials = ⊥

-- the batch of the upload that made a pack
abbrev pub life_batch : Life → Option (List ℕ)
life_batch life = option_and_then made_batch life.birth

-- keys that pass the test are one
pub same_pack : (a b : PackKey) → is_same_pack a b ≡ true → a ≡ b
same_pack a b e = grind (arith, nat_tests, same_text a.gtin b.gtin, same_text a.serial b.serial)

pub same_batch : (a b : BatchKey) → is_same_batch a b ≡ true → a ≡ b
same_batch a b e = grind (arith, nat_tests, same_text a.gtin b.gtin, same_text a.batch b.batch)

pub text-sym : (a b : List ℕ) → bytes_eq a b ≡ bytes_eq b a
text-sym a b = nat_list_eq_equiv.symm a b

pub pack-sym : (a b : PackKey) → is_same_pack a b ≡ is_same_pack b a
pack-sym a b = λ i. text-sym a.gtin b.gtin i && text-sym a.serial b.serial i

pub batch-sym : (a b : BatchKey) → is_same_batch a b ≡ is_same_batch b a
batch-sym a b = λ i. text-sym a.gtin b.gtin i && text-sym a.batch b.batch i

pub text-self : (a : List ℕ) → bytes_eq a a ≡ true
text-self a = nat_list_eq_equiv.refl a

pub pack-self : (a : PackKey) → is_same_pack a a ≡ true
pack-self a = λ i. text-self a.gtin i && text-self a.serial i

pub batch-self : (a : BatchKey) → is_same_batch a a ≡ true
batch-self a = λ i. text-self a.gtin i && text-self a.batch i

-- ---- The batches that are recalled and the products that are withdrawn, after one more entry; and what stands in a table of keys

module _ {K : Type 0} (same : K → K → Bool) (keys_in : LogEntry → List K) (log : List LogEntry) (entry : LogEntry) where
  abbrev before : List K
  before = insert_all same [] (flat_map keys_in log)

  pub once-all : (keys : List K) → keys_in entry ≡ keys → insert_all same [] (flat_map keys_in (log ++ entry ∷ [])) ≡ fold (insert_key same) before keys
  once-all keys e = grind (arith, nat_tests, flat_map-append, fold-append, append-nil)

pub no-recall : (item : Item) → ((batch : BatchKey) → is_recall_of batch item ≡ false) → recalled_in item ≡ []
no-recall (Carried k stamp (Recall key at)) none = absurd (true≢false (sym (batch-self key) ∙ none key))
no-recall _ none = refl

pub no-withdrawal : (item : Item) → ((gtin : List ℕ) → is_withdrawal_of gtin item ≡ false) → withdrawn_in item ≡ []
no-withdrawal (Carried k stamp (Withdraw gtin at)) none = absurd (true≢false (sym (text-self gtin) ∙ none gtin))
no-withdrawal _ none = refl

pub one-recall : (key : BatchKey) (item : Item) → is_recall_of key item ≡ true → recalled_in item ≡ key ∷ []
one-recall key (Carried k stamp (Recall named at)) e = ap (λ (q : BatchKey). q ∷ []) (same_batch named key e)
one-recall key _ e = absurd (true≢false (sym e))

pub one-withdrawal : (key : List ℕ) (item : Item) → is_withdrawal_of key item ≡ true → withdrawn_in item ≡ key ∷ []
one-withdrawal key (Carried k stamp (Withdraw named at)) e = ap (λ (q : List ℕ). q ∷ []) (same_text named key (sym e))
one-withdrawal key _ e = absurd (true≢false (sym e))

-- a key under which the newest entry is not the first is there
pub key_stays : {K : Type 0} (same : K → K → Bool) (log : List LogEntry) (new : ℕ) (places : List (K × ℕ)) (key : K)
    → comes_first log new (lookup (same key) places) ≡ false → keys_of places ≡ insert_key same (keys_of places) key
key_stays same log new places key e = grind (arith, nat_tests, is_some-lookup (same key) places)

-- a key that is there stays where it is
pub key_there : {K X : Type 0} (same : K → K → Bool) (entries : List (K × X)) (key : K) (value : X)
    → lookup (same key) entries ≡ Some value → keys_of entries ≡ insert_key same (keys_of entries) key
key_there same entries key value e = grind (arith, nat_tests, is_some-lookup (same key) entries)

-- a key that is written is there, behind all where it was not
pub key_added : {K X : Type 0} (same : K → K → Bool) (entries : List (K × X)) (key : K) (value : X)
    → keys_of (insert_entry same entries key value) ≡ insert_key same (keys_of entries) key
key_added same entries key value = keys_insert_entry same entries key value

-- so the first of a kind is put in
pub first-added : {K : Type 0} (same : K → K → Bool) (log : List LogEntry) (new : ℕ) (key : K) (before after : List (K × ℕ)) → comes_first log new (lookup (same key) before) ≡ true
    → ((other : K) → lookup (same other) after ≡ cond (same key other) (Some new) (lookup (same other) before)) → after ≡ insert_entry same before key new → HasFirst same log new key before after
first-added same log new key before after first looks e = record { places = λ other. grind (arith, nat_tests, looks other); keys = ap keys_of e ∙ key_added same before key new }
