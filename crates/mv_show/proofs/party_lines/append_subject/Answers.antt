use Rattle.mv_show.proofs.party_lines.append_subject.Goals as goal

pub returns-in-Party : goal.returns-in-Party
returns-in-Party c = rw c.in-Party.is c.append_party.ensures
