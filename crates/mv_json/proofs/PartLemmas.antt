-- What stands in the fields of a message: its tokens, and what is read of it.
use Rattle.mv_json.proofs.Words.{ArePlaced, IsPlace, IsThere, there, ◌≡◌, ◌∙◌, ◌≤◌, ℕ, Bool, true, false, List, [], ◌∷◌, ◌++◌, length, ap, sym, subst, refl, arith, Option, Some, None, Result, Ok, All, is_some, IsUtf8, ◌≢◌, All-map, All-set, AllByRecursion, BeginWith, BeginWithMessage, BeginWithPart, BeginWithTexts, Data, Entry, Field, HasEntries, HasMet, IsCode, IsListOf, IsMarket, IsPart, IsTaken, Message, PackFault, Token, array, as_bool, as_null, as_str, begin_array, entry, entry_name, field_name, get, items, key, list_at, Met, Part, most_markets, most_serials, of_items, read_bytes, read_code, read_market, strings, tokens, value, value-begin_array, value_is, whole_number}
use Rattle.mv_json.proofs.MetLemmas.{AreMet, one_more_met, weaker, taken_placed}
use Rattle.mv_json.proofs.ReadingLemmas.{none_named, Inverts, codes_inverted, markets_inverted, list_agrees}
use Rattle.mv_json.proofs.ValueLemmas.{utf8_test}
use Rattle.mv_json.specs.declared.object.Place.{Place}
use Rattle.std.proofs.Math.Seq.{map-set_same}
use Rattle.json.specs.Json as json
use Rattle.json.specs.Token as token
use Rattle.mv_json.specs.declared.part.Part.TheVariants as parts

-- ---- lists of texts

module _ (reader : List ℕ → Result (List ℕ) PackFault) (Holds : List ℕ → Type 0) (good : Inverts reader Holds) where
  -- texts that a reader takes as they are, up to the end of their list
  texts_parsed : (ts : List Token) (xs : List (List ℕ)) (rest : List Token) → BeginWithTexts reader ts xs rest
      → (texts : json.Items) × ((depth : ℕ) → items (value depth) (length ts) ts ≡ Some (texts, rest))
      × (of_items texts ≡ Some (strings xs)) × AllByRecursion Holds xs
  unfolding items
  texts_parsed ts [] rest h = (json.no_items, λ depth. rw h, refl, tt)
  texts_parsed ts (x ∷ xs) rest (more, (text, is, read), then) =
      let (texts, parsed, same, hold) = texts_parsed more xs rest then in (
        json.item (json.string text) texts,
        λ depth. rw (is, value_is depth (token.string text ∷ more), parsed depth),
        grind (arith, good.ok text),
        grind (arith, good.ok text),
      )

  -- a list of texts, behind the bracket that opens it
  pub listed : (most : ℕ) (list rest : List Token) (xs : List (List ℕ)) → BeginWithTexts reader list xs rest → (1 ≤ length xs) × (length xs ≤ most)
      → (found : Data) × BeginWith 1 (begin_array ∷ list) found rest × ((found ≡ array (strings xs)) × IsListOf Holds most xs)
  listed most list rest xs has count =
      let (texts, parsed, same, hold) = texts_parsed list xs rest has in
      (array (strings xs), grind (arith, parsed, same, value-begin_array), (refl, (count.0, count.1, hold)))

-- ---- names

-- two fields have two names
pub name_apart : (f g : Field) → f ≢ g → field_name f ≡ field_name g → ⊥
name_apart f g apart same = grind arith

-- ---- fields that are met

-- the tokens up to there are members that have the fields that were met, and no other
abbrev pub AreEntries : ℕ → List Token → List Entry → List Token → Type 0
AreEntries deep start entries rest = AreMet entry_name (λ part met. IsPart part met.part) deep start entries rest

pub one_more_entry : (deep : ℕ) (start more rest : List Token) (old new : List Entry) (field : Field) (part : Part)
    → AreEntries deep start old (key (field_name field) ∷ more) → BeginWithPart deep more part rest → new ≡ old ++ entry field part ∷ []
    → All (λ other. other.field ≢ field) old → AreEntries deep start new rest
one_more_entry deep start more rest old new field part are (found, begins, is) added apart =
    one_more_met entry_name (λ part met. IsPart part met.part) deep start more rest old new (entry field part) found are begins is
    (added, λ k d h. name_apart _ field (apart k d h))

-- ---- what is read of a part

-- what a part is: a text, a whole number, a truth, and whether it is null
abbrev pub told : Part → Option (List ℕ) × Option ℕ × Option Bool × Bool
told (parts.Text text) = (Some text.now, None, None, false)
told (parts.Whole number) = (None, Some number, None, false)
told (parts.Truth truth) = (None, None, Some truth, false)
told parts.Null = (None, None, None, true)
told part = (None, None, None, false)

-- what stands in a field is what its part is
pub part_is : (found : Data) (part : Part) → IsPart found part
    → (as_str found ≡ (told part).0) × (whole_number found ≡ (told part).1) × (as_bool found ≡ (told part).2) × (is_some (as_null found) ≡ (told part).3)
part_is found part is = grind arith

-- ---- lists that are taken out

-- what was taken out stood there, and the object is what it was
part_taken : (value : Data) (old new : Met) (field : Field) (part : Part) → HasEntries value old → IsTaken old field part new
    → ((found : Data) → IsPart found part → IsPart found parts.Taken) → ((found : Data) × (get (field_name field) value ≡ Some found) × IsPart found part) × HasEntries value new
part_taken value old new field part (has, are) taken is_list =
    let Says : Entry → Type 0 = λ met. (found : Data) × (get (entry_name met) value ≡ Some found) × IsPart found met.part in
    let (found, at, is) = subst Says taken.was (has.says taken.place (entry field part) taken.within) in
    let entries = old.entries.items in
    let names = map-set_same entry_name entries taken.place (entry field parts.Taken) (entry field part) (ap entry_name (sym taken.was)) in
    let still : HasMet entry_name (λ part entry. IsPart part entry.part) value new.entries.items = rw taken.taken (record {
      members = has.members;
      is = has.is;
      says = All-set Says entries taken.place (entry field parts.Taken) (found, at, is_list found is) has.says;
      only = rw names has.only;
    }) in
    ((found, at, is), (still, taken_placed old new field part taken are))

pub markets_taken : (value : Data) (old new : Met) (field : Field) (x : _) → HasEntries value old → IsTaken old field (parts.Markets x) new
    → (list_at read_market most_markets field value ≡ Ok x.items) × HasEntries value new
markets_taken value old new field x has taken =
    let ((found, at, (is, hold)), left) = part_taken value old new field (parts.Markets x) has taken (λ found is. (strings x.items, is.0)) in
    ((list_agrees read_market IsMarket markets_inverted most_markets value field).read x.items (at ∙ ap (λ d. Some d) is, hold), left)

pub serials_taken : (value : Data) (old new : Met) (field : Field) (x : _) → HasEntries value old → IsTaken old field (parts.Serials x) new
    → (list_at read_code most_serials field value ≡ Ok x.items) × HasEntries value new
serials_taken value old new field x has taken =
    let ((found, at, (is, hold)), left) = part_taken value old new field (parts.Serials x) has taken (λ found is. (strings x.items, is.0)) in
    ((list_agrees read_code IsCode codes_inverted most_serials value field).read x.items (at ∙ ap (λ d. Some d) is, hold), left)

-- ---- fields that are not there

-- a field that was not met is not there
pub not_there : (field : Field) (value : Data) (met : Met) → HasEntries value met → (ArePlaced met → All (λ other. other.field ≢ field) met.entries.items)
    → get (field_name field) value ≡ None
not_there field value met (has, are) apart =
    let others = All-map (λ name. name ≢ field_name field) entry_name met.entries.items (λ k d h. name_apart _ field (apart are k d h)) in
    grind (arith, others, none_named, weaker)

-- what stands in a field, stands there
pub is_there : (field : Field) (value found : Data) (place : Place) → get (field_name field) value ≡ Some found → IsPlace found place → IsThere field value place
unfolding there
is_there field value found place at is = (rw at refl, rw at is)

-- ---- whole texts

-- the text whose tokens are a message is read as it
pub text_read : (s : List ℕ) (message : Message) → IsUtf8 s → BeginWithMessage (tokens s) message [] → read_bytes s ≡ Ok message
text_read s message utf8 (found, begins, is) = grind (arith, utf8_test)
