use Rattle.mv_json.proofs.Words.{refl, subst, PutsValue, value_in}
use Rattle.mv_message.specs.declared.message.Message.TheVariants.{Answer}
use Rattle.mv_json.proofs.TokenLemmas.{◌then◌, named, version_is}
use Rattle.mv_json.proofs.message_members.put_answer.Goals as goal

-- the members, one after the other
pub returns : goal.returns
unfolding PutsValue
returns c =
    let end = c.end_object in
    subst (λ version. PutsValue end.result c.args.writer.now end.new.self (value_in version (Answer c.args.asker c.args.q c.args.key.now c.args.found.now))) c.found_version-version.ensures
    (named (
    c.in_ok-begin_object.ensures
    then c.in_ok-key.ensures
    then c.in_ok-u64.ensures
    then c.in_ok-key-2.ensures
    then c.in_ok-put_found.ensures
    then c.in_ok-put_members.ensures
    then c.in_ok-put_version.ensures
    then end.ensures
    ) (rw (c.as_str.ensures, c.as_str-2.ensures, c.as_str-3.ensures, c.as_str-4.ensures, version_is c.found_version-version.result) refl))
