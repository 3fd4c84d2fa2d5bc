-- The numbers of the batch have the number, and all that they had.
use Rattle.mv_repository.proofs.Words.{◌≡◌, ℕ, Bool, List, LogEntry, IfSome, Option, Some, arith, refl, bytes_eq, cond, entry_at, false, lists, lookup, made_batch, nat_tests, option_and_then, rules, same_text, sym, true, unwrap_or, CivilDate, Message, Upload, message_in, list_any, ◌==◌, ◌||◌, ◌&&◌}
use Rattle.mv_repository.proofs.listing.Listing.note.Goals as goal

-- numbers are written under a batch, which have all that were there, where one more is listed
lists-stay : (is_whole is_listed : Bool) (old new left : List (List ℕ × List ℕ)) (batch : List ℕ) (kept : Option (List ℕ)) (fresh was now : List ℕ) (number : ℕ) → ((other : List ℕ) → lookup (bytes_eq other) new ≡ cond (bytes_eq batch other) (Some now) (lookup (bytes_eq other) old)) → left ≡ new
    → kept ≡ lookup (bytes_eq batch) old → was ≡ unwrap_or kept fresh → (is_listed ≡ true → (one : ℕ) → list_any (λ k. one == k) now ≡ ((one == number) || list_any (λ k. one == k) was)) → (other : List ℕ) (one : ℕ)
    → lists (record { is_whole = is_whole; numbers = old }) other one ≡ true → lists (record { is_whole = is_whole && is_listed; numbers = left }) other one ≡ true
lists-stay is_whole true old new left batch kept fresh was now number looks same there is more other one h = grind (arith, nat_tests, looks other, more refl one, same_text batch other)
lists-stay is_whole false old new left batch kept fresh was now number looks same there is more other one h = grind (arith, nat_tests)

-- and the number under its batch
lists-now : (is_whole is_listed : Bool) (sets : List (List ℕ × List ℕ)) (found : Option (List ℕ)) (batch numbers was : List ℕ) (number : ℕ) → found ≡ Some batch → lookup (bytes_eq batch) sets ≡ Some numbers
    → (is_listed ≡ true → (one : ℕ) → list_any (λ k. one == k) numbers ≡ ((one == number) || list_any (λ k. one == k) was)) → IfSome found (λ one. lists (record { is_whole = is_whole && is_listed; numbers = sets }) one number ≡ true)
lists-now is_whole true sets found batch numbers was number e there more = grind (arith, nat_tests, more refl number)
lists-now is_whole false sets found batch numbers was number e there more = grind (arith, nat_tests)

born-batch : (log : List LogEntry) (birth : Option ℕ) (place : ℕ) (message : Message) {gtin batch : List ℕ} {expiry : CivilDate} {national : Option (List ℕ)} {serials : List (List ℕ)} → birth ≡ Some place → message_in (entry_at log place).entry.item ≡ Some message → message ≡ Upload gtin batch expiry national serials → option_and_then (λ place. made_batch (entry_at log place)) birth ≡ Some batch
born-batch log birth place message e f g = search rules

pub returns-clause-added : goal.returns-clause-added
returns-clause-added c = lists-now c.args.self.now.is_whole _ _ _ c.in-Some-Upload.batch c.insert.new.self c.or_insert.result.now c.args.number
    (born-batch c.args.log.now _ _ _ c.in-Some.is (sym c.in-Some-Upload.ensures) c.in-Some-Upload.field-0-is) (search rules) c.insert.ensures

pub returns-clause-kept : goal.returns-clause-kept
returns-clause-kept c batch number h = lists-stay c.args.self.now.is_whole _ c.args.self.now.batches.entries _ _ c.copy.result _ _ c.or_insert.result.now c.insert.new.self c.args.number (c.in-Ok.ensures.update.0 c.insert.new.self).0 (search rules) c.in-Ok.ensures.value c.or_insert.ensures.value c.insert.ensures batch number h
