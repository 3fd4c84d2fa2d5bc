-- The entry that is added stands behind the log that was.
use Rattle.mv_repository.proofs.Lemmas.{◌≡◌, ◌∙◌, ap, subst, sym, ℕ, List, LogEntry, arith, common_steps, effect_of, get_or, get_or_push, length, longer, nat_tests, no_entry, take, take_at, AreTablesOf, IsInquiriesOf, OnOk, Result, false}
use Rattle.std.specs.Result.{is_err, result_and}
use Rattle.mv_repository.proofs.repository.Repository.enter.Goals as goal

effect-newest : (old whole : List LogEntry) (entry : LogEntry) (place : ℕ) → whole ≡ longer old entry → place ≡ length old
    → effect_of (take place whole) (get_or whole place no_entry) ≡ effect_of old entry
effect-newest old whole entry place e n = grind (arith, nat_tests, take_at, get_or_push)

-- where the entry is taken away again, the log is what it was
front-again : (old whole : List LogEntry) (entry : LogEntry) (place : ℕ) → whole ≡ longer old entry → place ≡ length old → take place whole ≡ old
front-again old whole entry place e n = grind (arith, common_steps)

-- where both got room, each did
both-ok : {A B E P Q : Type 0} (r : Result A E) (s : Result B E) → is_err (result_and r s) ≡ false → OnOk r P → OnOk s Q → P × Q
both-ok r s e p q = grind (arith, nat_tests)

pub invariant_of-self-in-Err : goal.invariant_of-self-in-Err
invariant_of-self-in-Err c =
    let front = front-again c.self.inside.log.items c.push_reserved.new.self.items _ c.len-place.result (c.push_reserved.ensures.items ∙ (λ i. longer (c.reserve-2.ensures.items i) (record { sender = c.args.sender; item = c.in-Ok.copy }))) (c.len-place.ensures ∙ c.self.inside.log.ok.0) in (
      subst (λ (log : List LogEntry). AreTablesOf log c.add.new.self) (ap (take c.len-place.result) c.as_slice.ensures.value ∙ sym c.truncate.ensures.items) c.in-Err.ensures.err,
      subst (λ (log : List LogEntry). IsInquiriesOf c.self.inside.party log c.reserve.new.self) (sym (c.truncate.ensures.items ∙ front)) (c.reserve.ensures.same _ _ c.self.invariant.1),
    )

pub returns-in-Err-clause-err : goal.returns-in-Err-clause-err
returns-in-Err-clause-err c = grind (arith, common_steps)

pub add-requires-clause-tables : goal.add-requires-clause-tables
add-requires-clause-tables c = grind (arith, common_steps)

pub returns-in-Ok-add-clause-effect : goal.returns-in-Ok-add-clause-effect
returns-in-Ok-add-clause-effect c =
    let whole = c.push_reserved.ensures.items ∙ (λ i. longer (c.reserve-2.ensures.items i) (record { sender = c.args.sender; item = c.in-Ok.ensures.copy i })) in
    c.in-Ok-add.ensures.effect ∙ effect-newest c.self.inside.log.items c.as_slice.result.now _ c.len-place.result (c.as_slice.ensures.value ∙ whole) (c.len-place.ensures ∙ c.self.inside.log.ok.0)
    ∙ (λ i. effect_of (c.self.view_is i).log (record { sender = c.args.sender; item = c.args.item.now }))

pub returns-in-Ok-add-clause-ok : goal.returns-in-Ok-add-clause-ok
returns-in-Ok-add-clause-ok c = grind (arith, common_steps)

pub invariant_of-self-in-Ok-add : goal.invariant_of-self-in-Ok-add
invariant_of-self-in-Ok-add c =
    let whole = c.push_reserved.ensures.items ∙ (λ i. longer (c.reserve-2.ensures.items i) (record { sender = c.args.sender; item = c.in-Ok.ensures.copy i })) in (
      subst (λ (log : List LogEntry). AreTablesOf log c.add.new.self) c.as_slice.ensures.value c.in-Ok-add.ensures.ok,
      subst (λ (log : List LogEntry). IsInquiriesOf c.self.inside.party log c.note.new.self) (sym whole) (c.note.ensures _ (c.reserve.ensures.same _ _ c.self.invariant.1)),
    )

pub returns-in_default-clause-err : goal.returns-in_default-clause-err
returns-in_default-clause-err c = (λ i. record { party = c.self.inside.party; log = c.reserve-2.ensures.items i }) ∙ c.self.view_is

pub invariant_of-self-in_default : goal.invariant_of-self-in_default
invariant_of-self-in_default c = grind (arith, common_steps)

pub invariant_of-self : goal.invariant_of-self
invariant_of-self c = grind (arith, common_steps)

pub note-requires : goal.note-requires
note-requires c = (both-ok c.reserve.result c.reserve-2.result ((λ i. is_err (sym c.and-room.ensures i)) ∙ sym c.is_err.ensures.value ∙ c.if-is_err.false) c.reserve.ensures.room c.reserve-2.ensures.ok).0

pub push_reserved-requires : goal.push_reserved-requires
push_reserved-requires c = grind (arith, common_steps)
