use Rattle.mv_format.proofs.Words.{[], ◌∷◌, ◌++◌, append_assoc, arith, sym, tokens_of}
use Rattle.mv_format.specs.Words.{whole}
use Rattle.mv_format.proofs.WritingLemmas.{list_is}
use Rattle.mv_json.proofs.CallerLemmas.{named, ◌then◌}
use Rattle.std.proofs.lemmas.Grind.{common_steps, flat_map-append}
use Rattle.std.proofs.lemmas.List.{append-nil}
use Rattle.mv_format.proofs.to_json.ReachedToJson.write.Goals as goal

pub loop-party-init : goal.loop-party-init
loop-party-init c = ([], sym c.parties-rest.ensures, c.in_ok-begin_array.ensures)

-- one more party
pub loop-party-preserved : goal.loop-party-preserved
unfolding tokens_of
loop-party-preserved c = let (done, is, put) = c.loop-party.invariant in (
  done ++ c.in-Some.party ∷ [],
  grind (arith, is, c.in-Some.ensures.list, append_assoc),
  named (put then c.in_ok-u64.ensures) (grind (arith, common_steps, c.from.ensures, flat_map-append)),
)

-- all parties, and the end of the list
pub returns : goal.returns
returns c =
    let (done, is, put) = c.loop-party.invariant in
    let all = rw (c.in_default.ensures.list.0, append-nil done) at is in
    named (put then c.end_array.ensures) (rw all (sym (list_is whole done)))
