-- The item, the answer and the count go in together.
use Rattle.mv_party.proofs.Words.{arith, ◌<◌, length}
use Rattle.std.proofs.lemmas.List.{get_or_read}
use Rattle.mv_party.proofs.AnswerLemmas.{applied_kept}
use Rattle.mv_party.proofs.site.Site.accept.Goals as goal

pub invariant_of-self-2 : goal.invariant_of-self-2
invariant_of-self-2 c =
    let a = c.self.inside in
    let sender = c.args.sender in
    let item = c.args.item.now in
    let lt : sender < length a.accepted.items = grind (arith, c.self.view_is, c.requires.sender) in
    applied_kept a.limit a.submissions.items c.put_answer-answer.new.submissions.items a.repository c.enter.new.self a.accepted.items sender item c.advance.new.self
    c.self.invariant lt
    (grind (arith, c.self.view_is, c.requires.free))
    (grind (arith, c.self.view_is, c.put_answer-answer.ensures.put, c.reserve.ensures.items, c.requires.answer))
    c.in_ok-effect.ensures.ok
    (grind (arith, c.advance.ensures.count, get_or_read a.accepted.items sender c.index_mut.result.now lt c.index_mut.ensures.value 0))
