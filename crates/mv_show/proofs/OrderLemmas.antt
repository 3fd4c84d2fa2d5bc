-- The keys of shown lines, and of events, ascend.
use Rattle.mv_show.proofs.Words.{ℕ, List, None, Option, Some, [], ◌∷◌, arith, map, refl, rules, KeysAscend, ItemsKeysAscend, array, null, object, ordered, wholes_ascend, IsOrdered, change_value, national_value, members_where, applied_fields, Item, Carried, Receipt, Effect, Message, RowsAreOrdered, applied, decided, verified, EventsAreOrdered}
use Rattle.std.specs.Option.{option_map_or}
use Rattle.std.specs.Prelude.{option_map}
use Rattle.mv_json.proofs.CallerLemmas.{keys_ascend, rises, texts_ascend}
use Rattle.mv_json.specs.Values.{strings}
use Rattle.mv_json.specs.Words.{items_of}
use Rattle.mv_repository.specs.declared.effect.Effect.TheVariants.{Uploaded}
use Rattle.mv_repository.specs.declared.verdict.Verdict.TheVariants.{Authentic}
use Rattle.mv_json.specs.Messages.{value_of}
use Rattle.mv_repository.specs.declared.held.Change.{Change}

-- where there is a message, the keys of its value ascend
message_ascends : {A : Type 0} (f : A → Message) (given : Option A) → KeysAscend (option_map_or value_of (option_map f given) null)
message_ascends f given = grind (arith, keys_ascend)

change_ascends : (change : Option Change) (user : List ℕ) → KeysAscend (change_value change user)
unfolding rises
change_ascends None user = tt
change_ascends (Some change) user = let it : IsOrdered (change_value (Some change) user) = ordered _ refl (search rules) in it.2

national_ascends : (national : Option (List ℕ)) → KeysAscend (national_value national)
national_ascends None = tt
national_ascends (Some text) = tt

-- each line that shows something is an object whose keys ascend
pub rows_are_ordered : RowsAreOrdered
unfolding rises
rows_are_ordered = (
  λ st party. ordered _ refl (search rules),
  λ party log gtin. ordered _ refl (search (rules, message_ascends)),
  λ party key. ordered _ refl (search rules),
  λ party log key held. ordered _ refl (search (rules, change_ascends, national_ascends)),
  λ st from to. ordered _ refl (search (rules, wholes_ascend)),
)

-- there is no object in lists of markets
markets_ascend : (lists : List (List (List ℕ))) → ItemsKeysAscend (items_of (map (λ markets. array (strings markets)) lists))
markets_ascend [] = tt
markets_ascend (markets ∷ lists) = (texts_ascend markets, markets_ascend lists)

-- what was applied
applied_ordered : (line to n : ℕ) (effect : Effect) (answer : Option ℕ) (from : ℕ) (item : Item) → IsOrdered (object (members_where (applied_fields line to n effect answer from item)))
unfolding rises
applied_ordered line to n effect answer from (Receipt k reach query) = ordered _ refl (search (rules, wholes_ascend))
applied_ordered line to n (Uploaded new old) None from (Carried k stamp message) = ordered _ refl (search (rules, keys_ascend))
applied_ordered line to n effect None from (Carried k stamp message) = ordered _ refl (search (rules, keys_ascend))
applied_ordered line to n effect answer from item = ordered _ refl (search (rules, keys_ascend))

-- each event is an object whose keys ascend
pub events_are_ordered : EventsAreOrdered
unfolding rises
events_are_ordered line (applied to n effect answer entry) = applied_ordered line to n effect answer entry.sender entry.item
events_are_ordered line (verified party key Authentic) = ordered _ refl (search rules)
events_are_ordered line (decided party q key Authentic) = ordered _ refl (search rules)
events_are_ordered line event = ordered _ refl (search (rules, markets_ascend, keys_ascend, wholes_ascend))
