use Rattle.mv_json.proofs.Words.{◌∷◌, PutsValue, ap, begin_object}
use Rattle.mv_json.proofs.TokenLemmas.{◌then◌, members_are, named}
use Rattle.mv_json.proofs.member.put_object.Goals as goal

-- the members, between what begins and ends their object
pub returns : goal.returns
unfolding PutsValue
returns c =
    named (c.in_ok-begin_object.ensures then c.in_ok-put_members.ensures then c.end_object.ensures) (ap (λ tokens. begin_object ∷ tokens) (members_are c.args.members.now))
