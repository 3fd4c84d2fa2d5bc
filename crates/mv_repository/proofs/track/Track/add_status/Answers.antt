-- The status is put in, and what stands behind it worked out.
use Rattle.mv_repository.proofs.Lemmas.{◌≡◌, ◌≤◌, ℕ, List, sym, subst, rules, length, take, Kept, IsKept, life_of, IsCutFor, arith, common_steps, put-ascend, put-known, put-late, put-unknown}
use Rattle.mv_repository.proofs.track.Track.add_status.Goals as goal

pub place_for-at-requires : goal.place_for-at-requires
place_for-at-requires c = grind (arith, common_steps, put-ascend)

pub put_late-effect-requires : goal.put_late-effect-requires
put_late-effect-requires c = let whole = c.args.newest.now.log.now in
    let place = c.args.newest.now.place in
    let old : Kept = record { birth = c.self.inside.birth; statuses = c.self.inside.statuses.items; by = c.self.inside.by; blocks = c.self.inside.blocks.items } in
    let kept = subst (IsKept (life_of c.args.pack.now (take place whole))) (sym c.self.view_is) c.requires.kept in
    let slice : c.as_slice.result.now ≡ old.statuses = c.as_slice.ensures.value in
    let late = put-late whole place c.args.newest.now.stops.now c.args.pack.now old c.args.newest.now.last c.requires.stops kept c.in-Some.birth c.place_for-at.result c.as_slice-statuses.result.now
    (search rules) (subst (λ (l : List ℕ). c.place_for-at.result ≤ length l) slice c.place_for-at.ensures.within) (search rules) in
    record { within = grind (arith, common_steps); blocks = late.0; standing = late.1 }

pub returns-in_default : goal.returns-in_default
returns-in_default c = let whole = c.args.newest.now.log.now in
    let place = c.args.newest.now.place in
    let old : Kept = record { birth = c.self.inside.birth; statuses = c.self.inside.statuses.items; by = c.self.inside.by; blocks = c.self.inside.blocks.items } in
    let kept = subst (IsKept (life_of c.args.pack.now (take place whole))) (sym c.self.view_is) c.requires.kept in
    let slice : c.as_slice.result.now ≡ old.statuses = c.as_slice.ensures.value in
    let at = c.place_for-at.result in
    let done = put-unknown whole place c.args.newest.now.stops.now c.args.pack.now old c.args.newest.now.last c.requires.stops kept at c.insert.new.self.items c.requires.own
    (subst (λ (l : List ℕ). at ≤ length l) slice c.place_for-at.ensures.within) (subst (λ (l : List ℕ). IsCutFor whole place l at) slice c.place_for-at.ensures.cut) (search rules) (grind arith) in
    record { ok = done.0; effect = done.1; err = tt }

pub returns : goal.returns
returns c = let whole = c.args.newest.now.log.now in
    let place = c.args.newest.now.place in
    let old : Kept = record { birth = c.self.inside.birth; statuses = c.self.inside.statuses.items; by = c.self.inside.by; blocks = c.self.inside.blocks.items } in
    let kept = subst (IsKept (life_of c.args.pack.now (take place whole))) (sym c.self.view_is) c.requires.kept in
    let slice : c.as_slice.result.now ≡ old.statuses = c.as_slice.ensures.value in
    let slice-2 : c.as_slice-statuses.result.now ≡ c.insert.new.self.items = c.as_slice-statuses.ensures.value in
    let at = c.place_for-at.result in
    let done = put-known whole place c.args.newest.now.stops.now c.args.pack.now old c.args.newest.now.last c.requires.stops kept c.in-Some.birth at c.put_late-effect.result.1 c.put_late-effect.new.blocks.items
    c.put_late-effect.result.0 c.as_slice-statuses.result.now c.requires.own
    (subst (λ (l : List ℕ). at ≤ length l) slice c.place_for-at.ensures.within) (subst (λ (l : List ℕ). IsCutFor whole place l at) slice c.place_for-at.ensures.cut) (search rules) (search rules)
    c.put_late-effect.ensures.by c.put_late-effect.ensures.blocks c.put_late-effect.ensures.effect in
    record { ok = subst (λ (l : List ℕ). IsKept (life_of c.args.pack.now whole) (record { birth = old.birth; statuses = l; by = c.put_late-effect.result.1; blocks = c.put_late-effect.new.blocks.items })) slice-2 done.0; effect = done.1; err = tt }
