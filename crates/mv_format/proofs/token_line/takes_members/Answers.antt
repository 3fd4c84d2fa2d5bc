use Rattle.std.proofs.Common.{rules}
use Rattle.mv_format.proofs.LineFieldsLemmas.{one_more_field, part_shorter}
use Rattle.mv_format.proofs.token_line.takes_members.Goals as goal

pub loop-next-smaller : goal.loop-next-smaller
loop-next-smaller c =
    let (part, begins, meets) = c.takes_field.ensures c.if-not-takes_field.false in search (rules, part_shorter _ _ _ begins)

pub loop-next-preserved : goal.loop-next-preserved
loop-next-preserved c =
    let (part, begins, meets) = c.takes_field.ensures c.if-not-takes_field.false in
    one_more_field _ _ _ _ _ _ part (search rules) begins meets
