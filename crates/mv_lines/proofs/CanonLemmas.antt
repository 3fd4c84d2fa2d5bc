-- The replies to messages are their canonical texts, one for each line.
use Rattle.mv_lines.proofs.Words.{Appends, AreReplies, IfSome, IfSome_then, Line, List, Option, Served, [], ap, lines_from, map, pieces, refl, said_texts, ℕ, ◌∷◌, ◌≡◌, Bool, arith, is_ok, true, ◌&&◌}
use Rattle.std.specs.Prelude.{⊤}
use Rattle.mv_lines.specs.Canon.{IsCanon, canon_text, canon_of}
use Rattle.std.specs.List.{list_all}
use Rattle.mv_json.specs.Messages.{read_bytes}
use Rattle.mv_lines.specs.Checks.{IsChecked, are_messages, checked, refusals_of}

-- each text is that to the line at its place
texts_are : (before : ⊤) (lines : List Line) (texts : List (Option (List ℕ))) (after : ⊤) → AreReplies IsCanon before lines texts after
    → said_texts texts ≡ map canon_text (map (λ line. line.bytes) lines)
texts_are before [] [] after are = refl
texts_are before (line ∷ lines) (text ∷ texts) after (between, is, are) =
    rw is (ap (λ ts. canon_text line.bytes ∷ ts) (texts_are between lines texts after are))
texts_are before lines texts after are = absurd are

-- what went out for an input that was answered whole
pub served_input : (input : Option (List ℕ)) (after : ⊤) (old new : Option (List ℕ))
    → IfSome input (λ bytes. Served IsCanon tt bytes after old new) → IfSome input (λ bytes. Appends old new (canon_of bytes))
served_input input after old new known = IfSome_then input known
    (λ bytes (out, is, answered). let (texts, whole, are) = answered.replied in rw (← texts_are tt (lines_from 0 (pieces bytes)) texts after are, ← whole) is)

-- ---- What is said of lines that are only checked

-- the texts are what is said of the lines
checked_texts : (before after : Bool) (lines : List Line) (texts : List (Option (List ℕ))) → AreReplies IsChecked before lines texts after
    → texts ≡ map checked lines
checked_texts before after [] [] is = refl
checked_texts before after (line ∷ lines) (text ∷ texts) (between, said, rest) = search (checked_texts between after lines texts rest)
checked_texts before after lines texts is = absurd is

-- and at the end it is known whether each is a message
checked_lines : (before after : Bool) (lines : List Line) (texts : List (Option (List ℕ))) → AreReplies IsChecked before lines texts after
    → after ≡ (before && list_all (λ (line : Line). is_ok (read_bytes line.bytes)) lines)
checked_lines before after [] [] is = grind arith
checked_lines before after (line ∷ lines) (text ∷ texts) (between, said, rest) = grind (arith, checked_lines between after lines texts rest)
checked_lines before after lines texts is = absurd is

-- the refusals of an input went out
pub refusals_of_input : (input : Option (List ℕ)) (after : Bool) (old new : Option (List ℕ))
    → IfSome input (λ bytes. Served IsChecked true bytes after old new) → IfSome input (λ bytes. Appends old new (refusals_of bytes))
refusals_of_input input after old new known = IfSome_then input known (λ bytes served. grind (arith, checked_texts))

-- and it is known whether each line is a message
pub messages_of_input : (input : Option (List ℕ)) (after : Bool) (old new : Option (List ℕ))
    → IfSome input (λ bytes. Served IsChecked true bytes after old new) → IfSome input (λ bytes. after ≡ are_messages bytes)
messages_of_input input after old new known = IfSome_then input known
    (λ bytes served. checked_lines true after (lines_from 0 (pieces bytes)) served.2.replied.0 served.2.replied.2)
