use Rattle.mv_format.proofs.Words.{refl, tokens_of}
use Rattle.mv_json.proofs.CallerLemmas.{named, ◌then◌}
use Rattle.mv_format.proofs.members.write_change.Goals as goal

-- the three members, one after the other
pub returns : goal.returns
unfolding tokens_of
returns c =
    rw c.in-Some.is (named (
    c.in_ok-begin_object.ensures
    then c.in_ok-key.ensures
    then c.in_ok-u64.ensures
    then c.in_ok-key-2.ensures
    then c.in_ok-u64-2.ensures
    then c.in_ok-key-3.ensures
    then c.in_ok-string.ensures
    then c.end_object.ensures
    ) (rw c.seconds.ensures refl))
