-- A pack that another changed goes through as it comes.
use Rattle.mv_repository.proofs.Words.{has_party, is_active, stops_in, sym, ◌%◌, ◌∙◌}
use Rattle.mv_repository.proofs.StateLemmas.{own_passed}
use Rattle.mv_repository.proofs.blocks.Block.pass.Goals as goal

pub returns : goal.returns
returns c = sym (own_passed c.args.basis.now.log.now (stops_in c.args.basis.now.log.now c.args.basis.now.stops.now) c.args.basis.now.gtin.now c.args.basis.now.birth c.args.by c.args.own.now c.args.self.now.reverters
    ((λ i. is_active (sym c.standing_by.ensures i)) ∙ sym c.is_active.ensures ∙ c.if-is_active.false)
    ((λ i. has_party c.args.self.now.reverters (sym c.sender_at-sender.ensures i % 64)) ∙ sym c.has.ensures ∙ c.if-has.false) c.requires.1)
