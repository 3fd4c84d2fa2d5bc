-- What `==` says of the parts of messages: each test passes exactly where both are the same.
use denote.Struct.Field.{Field}
use denote.Struct.Values.{Values}
use denote.Struct.Cover.{Cover-one}
use denote.Struct.Declared.{Declared}
use denote.Enum.Compared.{Each, by}
use denote.Enum.Declared.{Record, Choice, values_one}
use denote.Enum.Bare.{same_true, true_same}
use Rattle.std.proofs.Common.{◌≡◌, List, [], ◌∷◌, ℕ, Bool, false, nat_eq, refl, ap, rules, ◌&&◌, Decides, inl, inr}
use Rattle.std.specs.Prelude.{⊤, Option, Some, None}
use Rattle.std.specs.Option.{option_eq}
use Rattle.std.specs.Cmp.{booleans_Decides}
use Rattle.std.specs.Cmp.Lexicographic.{pointwise}
use Rattle.std.proofs.lemmas.Bool.{false≢true}
use Rattle.std.proofs.lemmas.Bool.Decides.{Decides-and, Decides-like, Decides-eqb}
use Rattle.std.proofs.lemmas.Slice.Eq.{slice_eq-Decides, bytes_eq-Decides}
use Rattle.mv_pack.specs.Expiry.{CivilDate}
use Rattle.mv_pack.specs.contracts.expiry.ExpiryPartialEq.TheImpl as expiry
use Rattle.mv_pack.specs.contracts.key.BatchKey.{the_type as batch_type}
use Rattle.mv_pack.specs.contracts.key.PackKey.{the_type as pack_type}
use Rattle.mv_message.specs.contracts.message.Product.{the_type as product_type}
use Rattle.mv_pack.specs.contracts.key.BatchKeyPartialEq.TheImpl as batch
use Rattle.mv_pack.specs.contracts.key.PackKeyPartialEq.TheImpl as pack
use Rattle.mv_pack.specs.declared.key.BatchKey.{BatchKey}
use Rattle.mv_pack.specs.declared.key.PackKey.{PackKey}
use Rattle.mv_message.specs.contracts.found.Found.{enum as found_enum}
use Rattle.mv_message.specs.contracts.found.FoundPartialEq.TheImpl as found
use Rattle.mv_message.specs.contracts.standing.StandingPartialEq.TheImpl as standing
use Rattle.mv_message.specs.contracts.standing.Standing.{the_type}
use Rattle.mv_message.specs.declared.found.Found.{Found}
use Rattle.mv_message.specs.declared.standing.Standing.{Standing}
use Rattle.mv_message.specs.declared.message.Message.{Message}
use Rattle.mv_message.specs.declared.message.Product.{Product}
use Rattle.mv_message.specs.contracts.message.Message.{enum as message_enum}
use Rattle.mv_message.specs.contracts.message.MessagePartialEq.TheImpl as message
use Rattle.mv_message.specs.contracts.message.ProductPartialEq.TheImpl as product

-- lists of texts
pub lists_decide : (xs ys : List (List ℕ)) → Decides (pointwise (pointwise nat_eq) xs ys) (xs ≡ ys)
lists_decide xs ys = slice_eq-Decides bytes_eq-Decides xs ys (pointwise (pointwise nat_eq) xs ys) refl

-- texts
pub texts_decide : (xs ys : List ℕ) → Decides (pointwise nat_eq xs ys) (xs ≡ ys)
texts_decide xs ys = bytes_eq-Decides xs ys

-- at each variant of an enum equality decides
abbrev pub AllDecide : (Fss : List (List Field)) → Each Bool Fss → Type 0
AllDecide [] each = ⊤
AllDecide (Fs ∷ Fss) each = ((x y : Values Fs) → Decides (each.0 x y) (x ≡ y)) × AllDecide Fss each.1

choices_decide : (Fss : List (List Field)) (each : Each Bool Fss) → AllDecide Fss each → (c d : Choice Fss) → Decides (by false false Fss each c d) (c ≡ d)
choices_decide [] each all c d = absurd c
choices_decide (Fs ∷ Fss) each all (inl x) (inl y) = Decides-like (each.0 x y) (λ e. ap inl e) (λ e. cc) (all.0 x y)
choices_decide (Fs ∷ Fss) each all (inl x) (inr d) = (λ e. absurd (false≢true e), λ e. cc)
choices_decide (Fs ∷ Fss) each all (inr c) (inl y) = (λ e. absurd (false≢true e), λ e. cc)
choices_decide (Fs ∷ Fss) each all (inr c) (inr d) =
    Decides-like (by false false Fss each.1 c d) (λ e. ap inr e) (λ e. cc) (choices_decide Fss each.1 all.1 c d)

-- so it does at two values of the enum
pub values_decide : (N : Record) (each : Each Bool N.parts) → AllDecide N.parts each → (x y : N.D)
    → Decides (by false false N.parts each (N.as_values x) (N.as_values y)) (x ≡ y)
values_decide N each all x y =
    Decides-like (by false false N.parts each (N.as_values x) (N.as_values y)) (values_one N x y) (λ e. ap N.as_values e)
    (choices_decide N.parts each all (N.as_values x) (N.as_values y))

-- so it does at two values of a struct, where it does at their fields
fields_decide : (T : Declared) (x y : T.D) {b : Bool} → Decides b (T.as_values x ≡ T.as_values y) → Decides b (x ≡ y)
fields_decide T x y {b} fields = Decides-like b (Cover-one T.cover T.propositions x y) (λ e. ap T.as_values e) fields

-- the first field and the rest of them
first_decides : {A B : Type 0} (x y : A × B) {a b : Bool} → Decides a (x.0 ≡ y.0) → Decides b (x.1 ≡ y.1) → Decides (a && b) (x ≡ y)
first_decides x y {a} {b} first rest =
    Decides-like (a && b) (λ e. λ i. (e.0 i, e.1 i)) (λ e. (ap (λ z. z.0) e, ap (λ z. z.1) e)) (Decides-and a b first rest)

-- the last field
last_decides : {A : Type 0} (x y : A × Unit {0}) {a : Bool} → Decides a (x.0 ≡ y.0) → Decides a (x ≡ y)
last_decides x y {a} last = Decides-like a (λ e. λ i. (e i, tt)) (λ e. ap (λ z. z.0) e) last

dates_decide : (x y : CivilDate) → Decides ((expiry.ghosts).eq x y) (x ≡ y)
dates_decide x y = Decides-like _ (λ e. λ i. record { year = e.0 i; month = e.1.0 i; day = e.1.1 i })
    (λ e. (ap (λ d. d.year) e, (ap (λ d. d.month) e, ap (λ d. d.day) e)))
    (Decides-and _ _ (Decides-eqb x.year y.year) (Decides-and _ _ (Decides-eqb x.month y.month) (Decides-eqb x.day y.day)))

-- two texts, or none
options_decide : (x y : Option (List ℕ)) → Decides (option_eq (pointwise nat_eq) x y) (x ≡ y)
options_decide None None = (λ e. refl, λ e. refl)
options_decide None (Some y) = (λ e. absurd (false≢true e), λ e. cc)
options_decide (Some x) None = (λ e. absurd (false≢true e), λ e. cc)
options_decide (Some x) (Some y) = Decides-like _ (λ e. ap Some e) (λ e. cc) (texts_decide x y)

standings_decide : (x y : Standing) → Decides ((standing.ghosts).eq x y) (x ≡ y)
standings_decide x y = (same_true the_type (search rules) x y, true_same the_type x y)

pub products_decide : (x y : Product) → Decides ((product.ghosts).eq x y) (x ≡ y)
products_decide x y = fields_decide product_type x y (search (first_decides, last_decides, texts_decide, lists_decide) depth 16 parts 16)

packs_decide : (x y : PackKey) → Decides ((pack.ghosts).eq x y) (x ≡ y)
packs_decide x y = fields_decide pack_type x y (search (first_decides, last_decides, texts_decide))

batches_decide : (x y : BatchKey) → Decides ((batch.ghosts).eq x y) (x ≡ y)
batches_decide x y = fields_decide batch_type x y (search (first_decides, last_decides, texts_decide))

pub found_decide : (x y : Found) → Decides ((found.ghosts).eq x y) (x ≡ y)
found_decide x y = values_decide found_enum _
    (λ a b. (λ e. refl, λ e. refl), (search (first_decides, last_decides, texts_decide, dates_decide, options_decide, standings_decide, booleans_Decides) depth 12 parts 12, tt)) x y

pub messages_decide : (x y : Message) → Decides ((message.ghosts).eq x y) (x ≡ y)
messages_decide x y = values_decide message_enum _
    (search (first_decides, last_decides, texts_decide, lists_decide, products_decide, dates_decide, options_decide, standings_decide, packs_decide, batches_decide, found_decide, Decides-eqb) depth 16 parts 16) x y
