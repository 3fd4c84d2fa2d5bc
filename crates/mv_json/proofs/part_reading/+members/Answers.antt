use Rattle.mv_json.proofs.Words.{◌≡◌, ℕ, List, ◌∷◌, length, ap, arith, rules, [], ArePlaced, BeginWithPart, Token}
use Rattle.std.proofs.lemmas.Option.{IfSome_then}
use Rattle.mv_json.proofs.MetLemmas.{none_met, all_met, begun_shorter}
use Rattle.mv_json.proofs.PartLemmas.{one_more_entry}
use Rattle.mv_json.proofs.part_reading.+members.Goals as goal

pub take_members-loop-met-init : goal.take_members-loop-met-init
unfolding ArePlaced
take_members-loop-met-init t c = let none : c.in_ok-entries.entries.items ≡ [] = search rules in (rw none (none_met _ _ _ _), grind (arith, none))

pub take_members-loop-met-smaller : goal.take_members-loop-met-smaller
take_members-loop-met-smaller t c =
    omega (arith, begun_shorter _ _ _ _ c.in_ok-part.ensures.1, ap length (rw c.in-Some.is at c.in_ok-field.ensures))

pub take_members-loop-met-preserved : goal.take_members-loop-met-preserved
take_members-loop-met-preserved t c =
    let (are, placed) = rw (rw c.in-Some.is at c.in_ok-field.ensures) at c.loop-met.invariant in
    let adds = c.adds.ensures in
    let added = c.if-not-adds.false in
    (one_more_entry _ _ _ _ _ _ _ _ are c.in_ok-part.ensures (adds.added added) (adds.apart added placed), adds.placed added placed)

pub take_members-returns : goal.take_members-returns
take_members-returns t c =
    let (are, placed) = rw (rw c.in_default.is at c.in_ok-field.ensures) at c.loop-met.invariant in
    let (found, begins, has) = all_met _ _ _ _ _ _ are in
    (found, begins, (has, placed))

pub take_part-returns-in_default : goal.take_part-returns-in_default
take_part-returns-in_default t c =
    rw c.in_ok-token.ensures (IfSome_then _ c.single.ensures (λ part (says : (deep : ℕ) (rest : List Token) → BeginWithPart deep (_ ∷ rest) part rest). says _ _))
