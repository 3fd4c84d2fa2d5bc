-- No shelf is kept, and nothing is known of a query.
use Rattle.mv_repository.proofs.Lemmas.{[], AreShelfOf, ap, arith, no-shelf-yet, refl, shelf_of, subst, sym}
use Rattle.mv_repository.proofs.repository.Repository.new.Goals as goal

pub invariant_of-result : goal.invariant_of-result
invariant_of-result c = rw c.new.ensures.items (
  record {
    masters = λ gtin. rw c.new-2.ensures.empty;
    stops = record {
      recalls = record { found = λ key. rw c.new-3.ensures.empty; keys = rw c.new-3.ensures.empty };
      withdrawals = record { found = λ key. rw c.new-4.ensures.empty; keys = rw c.new-4.ensures.empty };
    };
    shelves = λ gtin. subst (AreShelfOf [] gtin) (sym (ap (shelf_of gtin) c.new-5.ensures.empty)) (no-shelf-yet gtin);
    few = (omega arith, omega arith);
  },
  record { each = λ q. rw c.new-6.ensures.empty (record { asked = refl; active = refl; explained = refl; waiting = λ other lt. refl }) },
)
