-- The product of a code is that of its last master.
use Rattle.mv_repository.proofs.Lemmas.{rules, product_found}
use Rattle.mv_repository.proofs.repository.Repository.product.Goals as goal

pub returns-in_err-place : goal.returns-in_err-place
returns-in_err-place c = search (rules, product_found c.self.inside.log.items c.self.inside.tables.masters.entries c.args.gtin.now c.self.invariant.0.masters)

pub returns-in-Some-Master : goal.returns-in-Some-Master
returns-in-Some-Master c = search (rules, product_found c.self.inside.log.items c.self.inside.tables.masters.entries c.args.gtin.now c.self.invariant.0.masters)

pub returns-in_default : goal.returns-in_default
returns-in_default c = search (rules, product_found c.self.inside.log.items c.self.inside.tables.masters.entries c.args.gtin.now c.self.invariant.0.masters)
