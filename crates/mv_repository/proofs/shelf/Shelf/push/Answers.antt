-- Where all room is got there is one more name and track; what it makes room in stays.
use Rattle.std.specs.Vec.{vec_capacity, vec_len}
use Rattle.mv_repository.proofs.Lemmas.{◌≡◌, ◌≤◌, ◌+◌, ◌++◌, ◌∷◌, ◌∙◌, [], IfSome, Option, ap, arith, common_steps, entry_at, length, listing_of, lists, made_batch, option_and_then, subst, sym, true, ℕ}
use Rattle.mv_repository.proofs.shelf.Shelf.push.Goals.{After-branch-number, In_ok-number}
use Rattle.mv_repository.proofs.shelf.Shelf.push.Goals as goal

module _ (c : In_ok-number) where
  rooms : (1 ≤ c.reserve-3.new.self.room) × (vec_len c.reserve-4.new.self + 1 ≤ vec_capacity c.reserve-4.new.self) × (c.in_ok-number.number ≡ length c.self.inside.names.items) × (vec_len c.reserve.new.self + 1 ≤ vec_capacity c.reserve.new.self) × (vec_len c.reserve-2.new.self + 1 ≤ vec_capacity c.reserve-2.new.self)
  rooms = grind (arith, common_steps)

module _ (c : After-branch-number) where
  table : record { hashes = c.reserve-3.new.self.hashes; slots = c.reserve-4.new.self.items; names = c.reserve.new.self.items } ≡ c.args.self.now.table
  table = (λ i. record { hashes = c.reserve-3.ensures.hashes i; slots = c.reserve-4.ensures.items i; names = c.reserve.ensures.items i }) ∙ (λ i. (c.self.view_is i).table)

  tracks : c.reserve-2.new.self.items ≡ c.args.self.now.tracks
  tracks = c.reserve-2.ensures.items ∙ (λ i. (c.self.view_is i).tracks)

pub push_reserved-requires : goal.push_reserved-requires
push_reserved-requires c = omega (arith, (rooms (goal.at.push_reserved-requires c).In_ok-number).3)

pub push_reserved-requires-2 : goal.push_reserved-requires-2
push_reserved-requires-2 c = omega (arith, (rooms (goal.at.push_reserved-requires-2 c).In_ok-number).4)

pub returns-clause-pushed : goal.returns-clause-pushed
returns-clause-pushed c = let at = (goal.at.returns-clause-pushed c).After-branch-number in
    let room = rooms (goal.at.returns-clause-pushed c).In_ok-number in (
      room.2 ∙ (λ i. length (c.self.view_is i).table.names),
      omega (arith, room.0, room.1),
      (λ i. record { hashes = (table at i).hashes; slots = (table at i).slots; names = (c.push_reserved.ensures.items ∙ (λ j. (table at j).names ++ c.copy.ensures j ∷ [])) i }),
      c.push_reserved-2.ensures.items ∙ (λ i. tracks at i ++ c.args.track ∷ []),
    )

pub returns-clause-listed : goal.returns-clause-listed
returns-clause-listed c = (
  subst (λ (birth : Option ℕ). IfSome (option_and_then (λ place. made_batch (entry_at c.args.log.now place)) birth) (λ batch. lists (listing_of c.note.new.self) batch c.in_ok-number.number ≡ true)) (λ i. (c.track.view_is i).birth) c.note.ensures.added,
  λ batch other h. c.note.ensures.kept batch other (subst (λ listing. lists listing batch other ≡ true) (λ i. (sym c.self.view_is i).listing) h),
)

pub invariant_of-self : goal.invariant_of-self
invariant_of-self c = (ap length c.reserve-3.ensures.hashes ∙ c.self.invariant.0 ∙ sym (ap length c.reserve-4.ensures.items), ap length c.reserve.ensures.items ∙ c.self.invariant.1 ∙ sym (ap length c.reserve-2.ensures.items))

pub invariant_of-self-2 : goal.invariant_of-self-2
invariant_of-self-2 c = grind (arith, common_steps)
