-- Tokens that are put one after another.
use Rattle.mv_json.proofs.Words.{◌≡◌, ◌≤◌, ℕ, List, [], ◌∷◌, ◌++◌, length, map, take, refl, subst, ap, append_assoc, append-nil, false, None, Some, Result, Ok, arith, cond, Data, Field, Puts, PutsValue, Token, Version, array, begin_array, compact_text, end_array, end_object, field_name, items_outline, member, members_of, members_outline, members_put, no_members, option_map_or, print-outline, since_two, strings, take_all, tokens_of, version_member, whole, ◌<◌, Bool, IsUtf8, drop, key, sym, true}
use Rattle.std.specs.Prelude.{OnErr, OnOk, is_ok}
use Rattle.json.specs.Tree.{items_tokens, members_tokens}
use Rattle.std.proofs.lemmas.List.Sums.{fold-append}
use Rattle.json.proofs.Printed.Tokens.{print_from-append}
use Rattle.json.specs.Print.{print_from, begins, ends, escape, escape_byte, print, quoted, token_text}
use Rattle.mv_json.specs.Tokens.{Written}
use Rattle.mv_json.specs.declared.member.Said.{Said}
use Rattle.json.specs.Token as token
use Rattle.mv_json.specs.declared.field.Field.TheVariants as fields
use Rattle.mv_json.specs.Fields.{field_name}
use Rattle.std.proofs.lemmas.List.{drop-append-le, length-append}
use Rattle.std.proofs.lemmas.Str.{IsUtf8-append, IsUtf8-from_ascii}

-- no token yet
pub nothing : {E : Type 0} {old : Written} → Puts {E = E} (Ok tt) old old []
unfolding print_from
nothing = grind (arith, append-nil)

module _ {E F : Type 0} {done : Unit {0}} {result : Result (Unit {0}) E} {old now new : Written} {front more : List Token} where
  infixr 5 ◌then◌
  -- some tokens, and behind them more
  pub ◌then◌ : Puts {E = F} (Ok done) old now front → Puts result now new more → Puts result old new (front ++ more)
  first then next = grind (arith, append_assoc, print_from-append, fold-append)

-- the same tokens, named otherwise
pub named : {E : Type 0} {result : Result (Unit {0}) E} {old new : Written} {tokens others : List Token} → Puts result old new tokens → tokens ≡ others → Puts result old new others
named {E} {result} {old} {new} puts same = subst (Puts result old new) same puts

-- the same value, named otherwise
pub value_named : {E : Type 0} (result : Result (Unit {0}) E) (old new : Written) (value other : Data) → PutsValue result old new value → value ≡ other → PutsValue result old new other
value_named result old new value other puts same = subst (PutsValue result old new) same puts

module _ {A : Type 0} (text_of : A → List ℕ) where
  list_tokens : (values : List A) → map (λ value. token.string (text_of value)) values ++ end_array ∷ [] ≡ items_tokens (items_outline (strings (map text_of values)))
  list_tokens [] = refl
  list_tokens (value ∷ values) = ap (λ ts. token.string (text_of value) ∷ ts) (list_tokens values)

  -- a list that was put to its end
  pub whole_list : (i : ℕ) (values : List A) → length values ≤ i → (begin_array ∷ map (λ value. token.string (text_of value)) (take i values)) ++ end_array ∷ [] ≡ tokens_of (array (strings (map text_of values)))
  whole_list i values end = simp (take_all, list_tokens)

-- members, and the end of their object
pub members_are : (members : List (Field × Said)) → members_put members ++ end_object ∷ [] ≡ members_tokens (members_outline (members_of members))
members_are [] = refl
members_are ((field, said) ∷ members) = search (members_are members, append_assoc)

-- the version, and the end of an object
pub version_is : (version : Version) → members_put (version_member version) ++ end_object ∷ []
    ≡ members_tokens (members_outline (option_map_or (λ value. member (field_name fields.V) value no_members) (since_two version None (Some (whole 2))) no_members))
version_is version = grind arith

-- the text of a value's tokens, put behind none, is its compact text
pub printed : {E : Type 0} {result : Result (Unit {0}) E} {start done : Written} (value : Data) → start.text ≡ [] → start.after_value ≡ false
    → Puts result start done (tokens_of value) → OnOk result (done.text ≡ compact_text value)
printed value none begun puts = grind (arith, print-outline)

-- a buffer behind which a value was written, or not
pub written_behind : {E : Type 0} (result : Result (Unit {0}) E) (value : Data) (old new : List ℕ) (start done : Written)
    → start.before ≡ old → start.text ≡ [] → start.after_value ≡ false → Puts result start done (tokens_of value)
    → new ≡ done.before ++ cond (is_ok result) done.text [] → OnOk result (new ≡ old ++ compact_text value) × OnErr result (new ≡ old)
written_behind result value old new start done before none begun puts is = grind (arith, printed, append-nil)

-- ---- The text of a token, put behind what was written

-- the comma before a token
abbrev comma : Bool → Token → List ℕ
comma after token = cond (begins token) (cond after (44 ∷ []) []) []

-- the text of one token alone
pub one_printed : (token : Token) → print (token ∷ []) ≡ token_text token
unfolding print_from
one_printed token = append-nil (token_text token)

-- a token that was put, behind what its comma left
pub one_put : {E : Type 0} (result : Result (Unit {0}) E) (old new : Written) (token : Token) (front : List ℕ) → new.before ≡ old.before → new.after_value ≡ ends token
    → front ≡ old.text ++ comma old.after_value token → OnOk result (new.text ≡ front ++ token_text token) → Puts result old new (token ∷ [])
unfolding print_from
one_put result old new token front before place is text = grind (arith, append_assoc, append-nil)

-- a token that ends something, which has no comma
pub end_put : {E : Type 0} (result : Result (Unit {0}) E) (old new : Written) (token : Token) → new.before ≡ old.before → new.after_value ≡ ends token → begins token ≡ false
    → OnOk result (new.text ≡ old.text ++ token_text token) → Puts result old new (token ∷ [])
end_put result old new token before place ends text = grind (arith, one_put, append-nil)

-- a key that was put: its text, and the colon behind it
pub key_put : {E : Type 0} (result : Result (Unit {0}) E) (old new : Written) (name front : List ℕ) → new.before ≡ old.before → new.after_value ≡ false
    → front ≡ (old.text ++ cond old.after_value (44 ∷ []) []) ++ quoted name → OnOk result (new.text ≡ front ++ 58 ∷ []) → Puts result old new (key name ∷ [])
key_put result old new name front before place is text = grind (arith, one_put, append_assoc)

-- what stands behind the start is UTF-8 still, with a text behind it or without
pub stays_utf8 : (appended : Bool) (start : ℕ) (old text new : List ℕ) → new ≡ cond appended (old ++ text) old → (start ≤ length old) × IsUtf8 (drop start old)
    → IsUtf8 text → (start ≤ length new) × IsUtf8 (drop start new)
stays_utf8 false start old text new is was utf8 = rw is was
stays_utf8 true start old text new is was utf8 =
    rw is (omega (arith, was.0, length-append old text), subst IsUtf8 (sym (drop-append-le start old text was.0)) (IsUtf8-append (drop start old) text was.1 utf8))

-- a character of ASCII is a text
pub ascii_utf8 : (byte : ℕ) → byte < 128 → IsUtf8 (byte ∷ [])
ascii_utf8 byte ascii = grind (arith, IsUtf8-from_ascii)

-- the name of a field needs no escape
pub names_plain : (field : Field) → escape (field_name field) ≡ field_name field
unfolding escape_byte
names_plain field = grind arith
