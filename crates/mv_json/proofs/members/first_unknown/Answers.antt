use Rattle.std.proofs.Common.{◌≡◌, map, rules, sym}
use Rattle.mv_json.proofs.MembersLemmas.{first_unknown_of_entries}
use Rattle.mv_json.proofs.members.first_unknown.Goals as goal

-- all keys are left
pub loop-key-init : goal.loop-key-init
loop-key-init g c =
    let keys : c.into_iter-key-iterator.result ≡ map (λ e. e.0) c.args.members.now.entries = search rules in
    rw keys (sym (first_unknown_of_entries (map g.N.Named.name c.args.fields.now) c.args.members.now.entries))
