use Rattle.mv_format.proofs.Words.{rules, tokens_of}
use Rattle.mv_json.proofs.CallerLemmas.{named, nothing, ◌then◌}
use Rattle.mv_format.proofs.members.write_member.Goals as goal

-- a value behind its key
pub returns-in_ok-key-in-Number : goal.returns-in_ok-key-in-Number
unfolding tokens_of
returns-in_ok-key-in-Number c = named (c.in_ok-key-in-Number.ensures then c.u64.ensures) (search rules)

pub returns-in_ok-key-in-Text : goal.returns-in_ok-key-in-Text
unfolding tokens_of
returns-in_ok-key-in-Text c = named (c.in_ok-key-in-Text.ensures then c.string.ensures) (search rules)

pub returns-in_ok-key-in-Flag : goal.returns-in_ok-key-in-Flag
unfolding tokens_of
returns-in_ok-key-in-Flag c = named (c.in_ok-key-in-Flag.ensures then c.boolean.ensures) (search rules)

pub returns-in_ok-key-in-Null : goal.returns-in_ok-key-in-Null
unfolding tokens_of
returns-in_ok-key-in-Null c = named (c.in_ok-key-in-Null.ensures then c.null.ensures) (search rules)

pub returns-in_ok-key-in-Parties : goal.returns-in_ok-key-in-Parties
returns-in_ok-key-in-Parties c = named (c.in_ok-key-in-Parties.ensures then c.write.ensures) (search rules)

pub returns-in_ok-key-in-Numbers : goal.returns-in_ok-key-in-Numbers
returns-in_ok-key-in-Numbers c = named (c.in_ok-key-in-Numbers.ensures then c.write_list.ensures) (search rules)

pub returns-in_ok-key-in-Markets : goal.returns-in_ok-key-in-Markets
returns-in_ok-key-in-Markets c = named (c.in_ok-key-in-Markets.ensures then c.write_list-in-Markets.ensures) (search rules)

pub returns-in_ok-key-in-Message : goal.returns-in_ok-key-in-Message
unfolding tokens_of
returns-in_ok-key-in-Message c = rw c.in-Message.is (c.in_ok-key-in-Message.ensures then c.write_message.ensures)

pub returns-in_ok-key-in-National : goal.returns-in_ok-key-in-National
returns-in_ok-key-in-National c = named (c.in_ok-key-in-National.ensures then c.write_national.ensures) (search rules)

pub returns-in_ok-key-in-Change : goal.returns-in_ok-key-in-Change
returns-in_ok-key-in-Change c = named (c.in_ok-key-in-Change.ensures then c.write_change.ensures) (search rules)

-- no value
pub returns-in-NumberOrNone-default-None : goal.returns-in-NumberOrNone-default-None
returns-in-NumberOrNone-default-None c = named nothing (search rules)

pub returns-in-NumberOrNone-default-None-2 : goal.returns-in-NumberOrNone-default-None-2
returns-in-NumberOrNone-default-None-2 c = named nothing (search rules)
