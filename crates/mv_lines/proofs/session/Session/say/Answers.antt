use Rattle.mv_lines.proofs.Words.{None, Ok, Some, refl, rules, ◌≡◌}
use Rattle.mv_format.specs.Requests.{read_line}
use Rattle.mv_format.specs.declared.answered.Answered.TheVariants.{NotTaken, Stepped}
use Rattle.mv_format.specs.declared.open_fault.OpenFault.TheVariants.{NotOpen}
use Rattle.mv_format.specs.declared.request.Request.TheVariants as requests
use Rattle.mv_lines.proofs.StrictLemmas.{said}
use Rattle.mv_lines.specs.Sessions.{IsTaken}
use Rattle.mv_lines.proofs.session.Session.say.Goals as goal

pub returns-in_default-world : goal.returns-in_default-world
returns-in_default-world c =
    let asks : read_line c.args.line.now ≡ Ok (requests.Step c.in-Some.step) = rw c.in-Some.is at c.requires.read in
    let closed : c.args.self.now ≡ None = search (rules, c.in_default-world.is, c.self.view_is) in
    let kept : c.self.inside.world ≡ None = search (rules, c.in_default-world.is) in
    rw (closed, kept)
    (said (IsTaken None c.args.line.now) None None (NotTaken NotOpen) _ _ c.append_json.result (rw asks (refl, refl)) c.append_json.ensures)

pub returns : goal.returns
returns c =
    let asks : read_line c.args.line.now ≡ Ok (requests.Step c.in-Some.step) = rw c.in-Some.is at c.requires.read in
    let was : c.args.self.now ≡ Some c.in-Some-world.world = search (rules, c.in-Some-world.is, c.self.view_is) in
    rw was (said (IsTaken (Some _) c.args.line.now) _ _ (Stepped c.in-Some.step c.step.result) _ _ c.append_json-2.result
    (rw asks (c.step.result, _, c.step.ensures.allowed, refl, refl)) c.append_json-2.ensures)
