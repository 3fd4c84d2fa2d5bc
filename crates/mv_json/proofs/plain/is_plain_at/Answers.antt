use Rattle.mv_json.proofs.Words.{arith}
use Rattle.json.proofs.Printed.Plain.{plain_from_lanes}
use Rattle.mv_json.proofs.plain.is_plain_at.Goals as goal

-- the three tests of all lanes
pub returns : goal.returns
returns g c = plain_from_lanes c.args.text.now c.args.at g.row.N c.requires.0 (omega (arith, c.requires.1)) c.type_inv.text
