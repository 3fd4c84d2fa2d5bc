use Rattle.mv_show.proofs.party_lines.append_pack.Goals as goal

pub returns-in-Some : goal.returns-in-Some
returns-in-Some c = rw (← c.pack.ensures, c.in-Some.is) c.append_held.ensures
