use Rattle.mv_format.proofs.Words.{append_assoc, arith, nat_tests, tokens_of}
use Rattle.mv_json.proofs.CallerLemmas.{named, ◌then◌}
use Rattle.mv_format.proofs.reply_line.write_routed.Goals as goal

-- the two members, one after the other
pub returns : goal.returns
unfolding tokens_of
returns c =
    named (
    c.in_ok-begin_object.ensures
    then (c.in_ok-plain_key.ensures then c.in_ok-write.ensures)
    then (c.in_ok-plain_key-2.ensures then c.in_ok-u64.ensures)
    then c.end_object.ensures
    ) (grind (arith, nat_tests, append_assoc, c.from.ensures))
