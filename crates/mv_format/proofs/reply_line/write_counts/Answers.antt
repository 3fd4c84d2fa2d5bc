use Rattle.mv_format.proofs.Words.{rules, tokens_of}
use Rattle.mv_json.proofs.CallerLemmas.{named, nothing, ◌then◌}
use Rattle.mv_format.proofs.reply_line.write_counts.Goals as goal

pub returns-in_default : goal.returns-in_default
returns-in_default c = named nothing (search rules)

pub returns : goal.returns
unfolding tokens_of
returns c = named (c.in_ok-key.ensures then c.in_ok-u64.ensures then c.in_ok-key-2.ensures then c.u64-2.ensures) (search rules)
