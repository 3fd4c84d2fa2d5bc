-- One more submission.
use Rattle.mv_party.proofs.Words.{arith, length, site_of}
use Rattle.mv_party.proofs.AnswerLemmas.{submitted_kept}
use Rattle.mv_party.proofs.site.Site.put.Goals as goal

pub invariant_of-self-2 : goal.invariant_of-self-2
invariant_of-self-2 c =
    let a = c.self.inside in
    submitted_kept (site_of a.limit a.submissions.items a.repository (length a.accepted.items)) a.accepted.items c.push.new.self.items c.args.message.now c.self.invariant
    (grind (arith, c.self.view_is, c.requires.room)) c.requires.own (grind (arith, c.in_ok-push.ensures.items, c.in_ok-share.ensures))
