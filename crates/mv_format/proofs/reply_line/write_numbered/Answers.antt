use Rattle.mv_format.proofs.Words.{rules, tokens_of}
use Rattle.mv_json.proofs.CallerLemmas.{named, ◌then◌}
use Rattle.mv_format.proofs.reply_line.write_numbered.Goals as goal

-- one member
pub returns : goal.returns
unfolding tokens_of
returns c = named (c.in_ok-begin_object.ensures then c.in_ok-plain_key.ensures then c.in_ok-u64.ensures then c.end_object.ensures) (search rules)
