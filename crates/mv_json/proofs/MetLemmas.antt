-- Fields of an object that are met in any order: its tokens are its members, one after the other.
use Rattle.mv_json.proofs.Words.{◌≡◌, ◌∙◌, ◌≤◌, ◌<◌, ◌-◌, ℕ, suc, List, [], ◌∷◌, ◌++◌, length, map, ap, sym, subst, refl, arith, Option, Some, All, Contains, ◌≢◌, All-contains, All-map, All-push, Contains-push, AllByRecursion, BeginWith, Contains-append_left, Data, HasMet, HasOnly, IsOneOf, Members, Token, begin_object, converted, end_object, get, get_member, get_or-map, key, keys_of, left, length-map, map-append, member, members, members_end, members_more, no_members, number, number_of, object, of_json, of_members, put, skip_value-shorter, string, unsigned, value, value-begin_object, value_is, Bool, true, false, IsTrue, get_or, set, ArePlaced, Field, IsTaken, Met, Part, entry, field_number, get_or_push, get_or-set_same, get_or-set_other, length-set, length_push}
use Rattle.serde_json.proofs.Views.{get_member-put, get_member-put_other}
use Rattle.json.specs.Token as token
use Rattle.std.proofs.Math.ListN.{get_or-append}

-- ---- the grammar, a turn at a time, under the conversion to values

-- what was converted was parsed
pub converted_some : {A B : Type 0} (f : A → Option B) (o : Option (A × List Token)) (b : B) (r : List Token)
    → converted f o ≡ Some (b, r) → (a : A) × (o ≡ Some (a, r)) × (f a ≡ Some b)
converted_some f o b r e = grind arith

-- ---- tokens

-- the object that members are put into, as far as the tokens were read
abbrev pub ComeTo : ℕ → List Token → Members → List Token → Type 0
ComeTo deep start found rest =
    (depth : ℕ) → deep ≤ depth → (turns : ℕ) × (length rest ≤ turns)
    × (converted (λ ms. of_members ms no_members) (members (value depth) (length start) start)
    ≡ converted (λ ms. of_members ms found) (members (value depth) turns rest))

-- a value takes tokens
pub begun_shorter : (deep : ℕ) (ts rest : List Token) (found : Data) → BeginWith deep ts found rest → length rest < length ts
begun_shorter deep ts rest found begins = grind (arith, begins deep, skip_value-shorter deep, converted_some)

-- a member more was read
pub come_on : (deep : ℕ) (start more rest : List Token) (name : List ℕ) (found : Members) (part : Data)
    → ComeTo deep start found (key name ∷ more) → BeginWith deep more part rest → ComeTo deep start (put name part found) rest
come_on deep start more rest name found part come begins depth h =
    let (turns, enough, so_far) = come depth h in
    let (parsed, is, reads) = converted_some of_json (value depth more) part rest (begins depth h) in
    let shorter = skip_value-shorter depth more rest (ap left is) in
    (turns - 1, omega arith, grind (arith, members_more (value depth) turns name (key name ∷ more) more rest parsed (omega arith) refl is))

-- the object ended
pub come_through : (deep : ℕ) (start rest : List Token) (found : Members)
    → ComeTo deep start found (end_object ∷ rest) → BeginWith (suc deep) (begin_object ∷ start) (object found) rest
come_through deep start rest found come depth h =
    let (turns, enough, so_far) = come (depth - 1) (omega arith) in
    grind (arith, members_end (value (depth - 1)) turns (end_object ∷ rest) rest enough refl, value-begin_object depth start (omega arith))

-- a text, wherever it stands
pub text_begins : (deep : ℕ) (text : List ℕ) (rest : List Token) → BeginWith deep (token.string text ∷ rest) (string text) rest
text_begins deep text rest depth h = ap (converted of_json) (value_is depth (token.string text ∷ rest))

-- a whole number, wherever it stands
pub whole_begins : (deep n : ℕ) (text : List ℕ) (rest : List Token) → number_of text ≡ Some (unsigned n)
    → BeginWith deep (token.number text ∷ rest) (number (unsigned n)) rest
whole_begins deep n text rest is depth h = ap (converted of_json) (value_is depth (token.number text ∷ rest)) ∙ rw is

-- ---- names

-- what holds of a name that is put in, and of those that stand there, holds of all
pub keys_put : (P : List ℕ → Type 0) (k : List ℕ) (d : Data) (ms : Members) → P k → AllByRecursion P (keys_of ms) → AllByRecursion P (keys_of (put k d ms))
keys_put P k d no_members here others = (here, tt)
keys_put P k d (member l e ms) here others = grind (arith, keys_put P k d ms here others.1)

pub weaker : (P Q : List ℕ → Type 0) → ((k : List ℕ) → P k → Q k) → (ks : List (List ℕ)) → AllByRecursion P ks → AllByRecursion Q ks
weaker P Q h [] all = tt
weaker P Q h (k ∷ ks) all = (h k all.0, weaker P Q h ks all.1)

-- ---- fields that are met

-- the tokens up to there are members that have the fields that were met, and no other
pub record AreMet {Met : Type 0} (name : Met → List ℕ) (Says : Data → Met → Type 0) (deep : ℕ) (start : List Token) (all : List Met) (rest : List Token) : Type 0 where
  pub members : Members
  pub come : ComeTo deep start members rest
  pub says : All (λ met. (part : Data) × (get_member (name met) members ≡ Some part) × Says part met) all
  pub only : AllByRecursion (Contains (map name all)) (keys_of members)

-- nothing was met
pub none_met : {Met : Type 0} (name : Met → List ℕ) (Says : Data → Met → Type 0) (deep : ℕ) (start : List Token) → AreMet name Says deep start [] start
none_met name Says deep start = record { members = no_members; come = λ depth h. (length start, omega arith, refl); says = grind arith; only = tt }

-- a field more was met
pub one_more_met : {Met : Type 0} (name : Met → List ℕ) (Says : Data → Met → Type 0) (deep : ℕ) (start more rest : List Token) (old new : List Met) (met : Met) (found : Data)
    → AreMet name Says deep start old (key (name met) ∷ more) → BeginWith deep more found rest → Says found met → (new ≡ old ++ met ∷ []) × All (λ other. name other ≢ name met) old
    → AreMet name Says deep start new rest
one_more_met {Met} name Says deep start more rest old new met found are begins is added =
    let Stands : Met → Type 0 = λ other. (part : Data) × (get_member (name other) (put (name met) found are.members) ≡ Some part) × Says part other in
    let kept : All Stands old = λ k d h.
    let (there, at, so) = are.says k d h in
    (there, get_member-put_other _ (name met) found are.members (added.1 k d h) ∙ at, so) in
    let before = map name old in
    let Known : List ℕ → Type 0 = Contains (before ++ name met ∷ []) in
    let known = weaker (Contains before) Known (Contains-append_left before (name met ∷ [])) (keys_of are.members) are.only in
    subst (λ all. AreMet name Says deep start all rest) (sym added.0) (record {
      members = put (name met) found are.members;
      come = come_on deep start more rest (name met) are.members found are.come begins;
      says = All-push Stands old met kept (found, get_member-put (name met) found are.members, is);
      only = rw (map-append name old (met ∷ [])) (keys_put Known (name met) found are.members (Contains-push before (name met)) known);
    })

-- the object ended
pub all_met : {Met : Type 0} (name : Met → List ℕ) (Says : Data → Met → Type 0) (deep : ℕ) (start rest : List Token) (all : List Met)
    → AreMet name Says deep start all (end_object ∷ rest) → (found : Data) × BeginWith (suc deep) (begin_object ∷ start) found rest × HasMet name Says found all
all_met name Says deep start rest all are = (
  object are.members,
  come_through deep start rest are.members are.come,
  record { members = are.members; is = refl; says = are.says; only = are.only },
)

-- what was met stands in its field
pub stands : {Met : Type 0} {name : Met → List ℕ} {Says : Data → Met → Type 0} {value : Data} {entries : List Met} (met : Met)
    → HasMet name Says value entries → Contains entries met → (part : Data) × (get (name met) value ≡ Some part) × Says part met
stands {Met} {name} {Says} {value} {entries} met has at =
    All-contains (λ met. (part : Data) × (get (name met) value ≡ Some part) × Says part met) entries met has.says at

named_among : {Field : Type 0} (name : Field → List ℕ) (listed : List Field) (field : Field) → Contains listed field → Contains (map name listed) (name field)
named_among name listed field at = grind (arith, length-map, get_or-map)

-- an object whose fields are all among these has no other key
pub known_only : {Met Field : Type 0} (name : Field → List ℕ) (field_of : Met → Field) {Says : Data → Met → Type 0} {value : Data} {entries : List Met} (listed : List Field)
    → HasMet (λ met. name (field_of met)) Says value entries → All (λ met. IsOneOf listed (field_of met)) entries
    → HasOnly (map name listed) value
unfolding IsOneOf
known_only name field_of {entries = entries} listed has among =
    let P : List ℕ → Type 0 = Contains (map name listed) in
    let known = All-map P (λ met. name (field_of met)) entries (λ k d h. named_among name listed _ (among k d h)) in
    (has.members, has.is, weaker _ P (λ key h. All-contains P _ key known h) (keys_of has.members) has.only)

-- ---- Where the fields that were met stand among them, by their numbers

-- two fields have two numbers
pub number_apart : (f g : Field) → field_number f ≡ field_number g → f ≡ g
unfolding field_number
number_apart f g same = grind arith

-- a field more was met
pub one_more_placed : (old new : Met) (field : Field) (part : Part) → get_or old.places (field_number field) 0 ≡ 0 → field_number field < length old.places
    → new.entries.items ≡ old.entries.items ++ entry field part ∷ []
    → new.places ≡ set old.places (field_number field) (suc (length old.entries.items)) → ArePlaced old → ArePlaced new
unfolding ArePlaced
one_more_placed old new field part free within added placed are k d h =
    grind (arith, are k d, length_push, get_or-append, get_or_push, get_or-set_same, get_or-set_other)

-- what stands in a field was taken out
pub taken_placed : (old new : Met) (field : Field) (part : Part) → IsTaken old field part new → ArePlaced old → ArePlaced new
unfolding ArePlaced
taken_placed old new field part taken are k d h =
    let was = are taken.place (entry field part) taken.within in
    grind (arith, taken.was, taken.taken, taken.kept, was, are k d, get_or-set_same, get_or-set_other, length-set)

-- one field more has its mark
pub one_more_marked : (fields : List Field) (marks : List Bool) (n : ℕ) (here : Field) → n ≡ field_number here → IsOneOf fields here
    → ((field : Field) → IsTrue (get_or marks (field_number field) false) → IsOneOf fields field)
    → (field : Field) → IsTrue (get_or (set marks n true) (field_number field) false) → IsOneOf fields field
one_more_marked fields marks n here is at before field marked =
    grind (arith, before field, number_apart field here, get_or-set_other marks n (field_number field) true false)
