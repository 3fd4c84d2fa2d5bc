-- The party takes the frame in hand, and what it answers is on its uplink.
use Rattle.mv_ends.proofs.Words.{◌≡◌, refl, rules, with_item}
use Rattle.mv_ends.proofs.SiteEndLemmas.{accepted_taken}
use Rattle.mv_ends.proofs.repo_end.RepoEnd.apply_next.Goals as goal

pub invariant_of-self-2-clause-accepted : goal.invariant_of-self-2-clause-accepted
invariant_of-self-2-clause-accepted c =
    let site = c.args.self.now.site in
    let frame = c.in_hand.result.now in
    let is = c.requires.front frame c.in_hand.ensures in
    let taken : c.take-frame.new.self.taken ≡ with_item c.args.self.now.inlets.taken c.args.from frame =
    rw (c.take-frame.ensures.takes, c.take-frame.ensures.front frame c.in_hand.ensures) refl in
    rw (taken, c.in_ok-taken.ensures.ok)
    (rw is.stands_so at (accepted_taken site c.args.from frame c.args.self.now.inlets.taken (search rules) c.args.self.now.accepted))
