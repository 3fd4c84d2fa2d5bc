use Rattle.mv_hub.proofs.Words.{List, bytes_eq-Decides, rules, ℕ}
use Rattle.mv_hub.proofs.TrailLemmas.{table_steps}
use Rattle.mv_hub.proofs.trail.add_to_tables.Goals as goal

pub returns-in-Master-clause-ok : goal.returns-in-Master-clause-ok
returns-in-Master-clause-ok c = search (rules, table_steps, λ (a b : List ℕ). (bytes_eq-Decides a b).0)
