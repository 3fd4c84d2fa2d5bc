use Rattle.mv_format.proofs.Words.{rules, tokens_of}
use Rattle.mv_format.proofs.WritingLemmas.{applied_is}
use Rattle.mv_json.proofs.CallerLemmas.{named, ◌then◌}
use Rattle.mv_format.proofs.reply_line.write_applied.Goals as goal

-- the members, one after the other
pub returns : goal.returns
unfolding tokens_of
returns c =
    named (
    c.in_ok-begin_object.ensures
    then c.in_ok-write_where.ensures
    then (c.in_ok-plain_key.ensures then c.in_ok-u64.ensures)
    then (c.in_ok-plain_key-2.ensures then c.in_ok-plain_string.ensures)
    then c.in_ok-write_counts.ensures
    then c.end_object.ensures
    ) (let is = applied_is c.args.number c.args.effect c.args.answer in search rules)
