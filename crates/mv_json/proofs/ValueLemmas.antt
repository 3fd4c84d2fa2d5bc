-- The values of messages: how deep they nest, their keys in byte order, and their canonical text, which is read as them.
use Rattle.mv_json.proofs.Words.{◌≡◌, ◌≤◌, ℕ, arith, rules, List, [], ◌∷◌, ap, refl, ◌<◌, ◌^◌, max, append-nil, option_map, IsUtf8, Some, None, Ok, Data, Found, HasWords, IsLegal, Message, One, PackKey, Two, Version, compact_text, found_value, item, items_outline, max_depth, of_items, of_json, outline, print-outline, read, read_bytes, string, strings, tokens_of, value_in, value_of}
use Rattle.json.proofs.Printed.Decimals.{IsNumber-decimal}
use Rattle.json.proofs.Printed.Tokens.{tokens-print}
use Rattle.json.proofs.Printed.Trees.{value-json_tokens, ArePrintable-json_tokens}
use Rattle.mv_json.proofs.OrderLemmas.{rises, strictly_sorted}
use Rattle.mv_json.proofs.ReadingLemmas.{reads_back}
use Rattle.mv_json.specs.Keys.{KeysAscend, ItemsKeysAscend}
use Rattle.serde_json.proofs.Numbers.{number_of-decimal}
pub use Rattle.std.proofs.lemmas.Str.{IsUtf8-from_is_utf8 as utf8_fact, is_utf8-from_IsUtf8 as utf8_test}
use Rattle.json.specs.Tree as tree
use Rattle.mv_message.specs.declared.message.Message.TheVariants as messages

items_flat : (texts : List (List ℕ)) → tree.items_depth (items_outline (strings texts)) ≡ 0
items_flat [] = refl
items_flat (text ∷ texts) = ap (λ n. max 0 n) (items_flat texts)

-- the value of a message nests two deep
value_depth : (m : Message) → tree.depth (outline (value_of m)) ≤ max_depth
value_depth (messages.Upload gtin batch expiry None serials) = omega (arith, items_flat)
value_depth (messages.Answer asker q key found) = grind arith
value_depth m = omega (arith, items_flat)

-- ---- the keys of the values of messages stand in byte order

-- there is no object in a list of texts
pub texts_ascend : (texts : List (List ℕ)) → ItemsKeysAscend (strings texts)
texts_ascend [] = tt
texts_ascend (text ∷ texts) = (tt, texts_ascend texts)

-- the keys of each object in the value of a message ascend
pub keys_ascend : (m : Message) → KeysAscend (value_of m)
unfolding rises
keys_ascend (messages.Upload gtin batch expiry None serials) = search (rules, strictly_sorted, texts_ascend) depth 16 parts 16
keys_ascend (messages.Answer asker q key found) = grind (arith, strictly_sorted)
keys_ascend m = search (rules, strictly_sorted, texts_ascend) depth 16 parts 16

-- ---- the canonical text of a message is read as its value

-- what reads back: its numbers are numbers of JSON, and it is the value that its outline reads as
record ReadsBack (d : Data) : Type 0 where
  numbers : tree.HasNumbers (outline d)
  same : of_json (outline d) ≡ Some d

-- a value whose outline reads as it is what its text is read as
text_of_value : (d : Data) → tree.depth (outline d) ≤ max_depth → ReadsBack d → read (compact_text d) ≡ Some d
text_of_value d shallow back =
    let printable = ArePrintable-json_tokens (outline d) back.numbers in
    grind (arith, print-outline d, tokens-print (tokens_of d) printable, append-nil (tokens_of d), value-json_tokens)

texts_have_numbers : (texts : List (List ℕ)) → tree.ItemsHaveNumbers (items_outline (strings texts))
texts_have_numbers [] = tt
texts_have_numbers (text ∷ texts) = (tt, texts_have_numbers texts)

texts_same : (texts : List (List ℕ)) → of_items (items_outline (strings texts)) ≡ Some (strings texts)
texts_same [] = refl
texts_same (text ∷ texts) = ap (λ o. option_map (item (string text)) o) (texts_same texts)

found_back : (version : Version) (found : Found) → ReadsBack (found_value version found)
found_back version found = grind arith

answer_back : (version : Version) (asker q : ℕ) (key : PackKey) (found : Found) → asker < 2 ^ 64 → q < 2 ^ 64 → ReadsBack (found_value version found) → ReadsBack (value_in version (messages.Answer asker q key found))
answer_back One asker q key found small less back = record { numbers = search (rules, IsNumber-decimal, back.numbers) depth 16 parts 16; same = rw (number_of-decimal asker small, back.same, number_of-decimal q less) refl }
answer_back Two asker q key found small less back = record { numbers = search (rules, IsNumber-decimal, back.numbers) depth 16 parts 16; same = rw (number_of-decimal asker small, back.same, number_of-decimal q less, number_of-decimal 2 (omega arith)) refl }

message_back : (m : Message) → HasWords m → ReadsBack (value_of m)
message_back (messages.Upload gtin batch expiry None serials) h = search (texts_have_numbers, texts_same)
message_back (messages.Answer asker q key found) h = search (answer_back, found_back)
message_back (messages.Query key) h = record { numbers = search rules depth 16 parts 16; same = refl }
message_back m h = record { numbers = search (rules, arith, IsNumber-decimal, texts_have_numbers) depth 16 parts 16; same = simp (texts_same, number_of-decimal, number_of-decimal 2 (omega arith)) refl }

-- the canonical text of a message is read as its value
pub text_reads : (m : Message) → HasWords m → read (compact_text (value_of m)) ≡ Some (value_of m)
text_reads m h = text_of_value (value_of m) (value_depth m) (message_back m h)

-- the canonical text of a legal message is read back as that message
pub canonical_reads_back : (m : Message) (t : List ℕ) → IsUtf8 t → t ≡ compact_text (value_of m) → HasWords m → IsLegal m → read_bytes t ≡ Ok m
canonical_reads_back m t utf8 same words h = grind (arith, text_reads, utf8_test, reads_back)
