-- What is written of a reply's object is its canonical text.
use Rattle.mv_format.proofs.Words.{Err, Ok, ◌≡◌, ℕ, ◌≤◌, List, [], ◌∷◌, ◌++◌, refl, ap, map, flat_map, length, take, sym, take_all, append_assoc, arith, None, Option, Result, Some, Data, array, begin_array, begin_object, cond, false, end_array, end_object, items_of, key, member_tokens, members_of, nat_tests, object, tokens_of}
use Rattle.json.specs.Print.{escape, escape_byte}
use Rattle.json.specs.Tree.{items_tokens, members_tokens}
use Rattle.mv_format.specs.Writing.{Adds, Appended}
use Rattle.mv_json.proofs.CallerLemmas.{written_behind}
use Rattle.mv_json.specs.Tokens.{Written}
use Rattle.mv_format.specs.ReplyLines.{counts_of, number_where, reply_value}
use Rattle.mv_format.specs.Words.{members_with, string, whole}
use Rattle.mv_format.specs.inside.Writing.{entries_put}
use Rattle.mv_machine.specs.declared.reply.Reply.TheVariants.{Applied}
use Rattle.mv_repository.specs.Pack.{code_of as effect_code}
use Rattle.mv_repository.specs.declared.effect.Effect.{Effect}
use Rattle.serde_json.specs.Written.{items_outline, members_outline}
use Rattle.std.specs.Prelude.{codes, is_ok}
use Rattle.mv_format.specs.declared.members.Member.{Member}

members_are : (ms : List Member) → members_tokens (members_outline (members_of ms)) ≡ flat_map member_tokens ms ++ end_object ∷ []
unfolding tokens_of
members_are [] = refl
members_are (m ∷ ms) = grind (arith, nat_tests, members_are ms, append_assoc)

pub object_is : (ms : List Member) → tokens_of (object (members_of ms)) ≡ begin_object ∷ (flat_map member_tokens ms ++ end_object ∷ [])
unfolding tokens_of
object_is ms = ap (λ ts. begin_object ∷ ts) (members_are ms)

-- the tokens of an object are those of its members, in order
pub entries_are : (ms : List (List ℕ × Data)) → members_tokens (members_outline (members_with ms)) ≡ entries_put ms ++ end_object ∷ []
unfolding tokens_of
entries_are [] = refl
entries_are ((name, value) ∷ ms) = grind (arith, nat_tests, entries_are ms, append_assoc)

pub applied_is : (n : ℕ) (effect : Effect) (answer : Option ℕ)
    → (begin_object ∷ [])
    ++ (entries_put (number_where (codes "answer") answer) ++ (key (codes "applied") ∷ tokens_of (whole n)) ++ (key (codes "effect") ∷ tokens_of (string (effect_code effect)))
    ++ entries_put (counts_of effect) ++ end_object ∷ [])
    ≡ tokens_of (reply_value (Applied n effect answer))
unfolding tokens_of
applied_is n effect None = ap (λ ts. begin_object ∷ key (codes "applied") ∷ tokens_of (whole n) ++ key (codes "effect") ∷ tokens_of (string (effect_code effect)) ++ ts) (sym (entries_are (counts_of effect)))
applied_is n effect (Some m) = ap (λ ts. begin_object ∷ key (codes "answer") ∷ tokens_of (whole m) ++ key (codes "applied") ∷ tokens_of (whole n) ++ key (codes "effect") ∷ tokens_of (string (effect_code effect)) ++ ts) (sym (entries_are (counts_of effect)))

-- the code of an effect needs no escape
pub codes_plain : (effect : Effect) → escape (effect_code effect) ≡ effect_code effect
unfolding escape_byte
codes_plain effect = grind arith

items_are : {A : Type 0} (value : A → Data) (xs : List A) → items_tokens (items_outline (items_of (map value xs))) ≡ flat_map (λ x. tokens_of (value x)) xs ++ end_array ∷ []
unfolding tokens_of
items_are value [] = refl
items_are value (x ∷ xs) = grind (arith, nat_tests, items_are value xs, append_assoc)

-- the tokens of a list are those of its members, in order
pub list_is : {A : Type 0} (value : A → Data) (xs : List A) → tokens_of (array (items_of (map value xs))) ≡ begin_array ∷ (flat_map (λ x. tokens_of (value x)) xs ++ end_array ∷ [])
unfolding tokens_of
list_is value xs = ap (λ ts. begin_array ∷ ts) (items_are value xs)

-- all members are written, between the tokens that begin and end their object
pub all_members : (i : ℕ) (ms : List Member) → length ms ≤ i → (begin_object ∷ flat_map member_tokens (take i ms)) ++ end_object ∷ [] ≡ tokens_of (object (members_of ms))
all_members i ms end = grind (arith, take_all, object_is ms)

-- the same of the values of a list
pub all_values : {A : Type 0} (value : A → Data) (i : ℕ) (xs : List A) → length xs ≤ i
    → (begin_array ∷ flat_map (λ x. tokens_of (value x)) (take i xs)) ++ end_array ∷ [] ≡ tokens_of (array (items_of (map value xs)))
all_values value i xs end = grind (arith, take_all, list_is value xs)

-- a buffer behind which a value was written, or not
pub appended : {E : Type 0} (result : Result (Unit {0}) E) (value : Data) (old new : List ℕ) (start done : Written)
    → start.before ≡ old → start.text ≡ [] → start.after_value ≡ false → Adds result start done value
    → new ≡ done.before ++ cond (is_ok result) done.text [] → Appended result old new value
unfolding tokens_of
appended (Ok tt) value old new start done before none begun puts is = (written_behind (Ok tt) value old new start done before none begun puts is).0
appended (Err error) value old new start done before none begun puts is = (written_behind (Err error) value old new start done before none begun puts is).1
