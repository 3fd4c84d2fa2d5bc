use Rattle.std.proofs.Common.{refl, rules}
use Rattle.mv_json.proofs.ReadingLemmas.{pack_read}
use Rattle.mv_json.proofs.found_reading.sighting_in.Goals as goal

pub returns : goal.returns
returns c = λ value is.
    let only = rw c.present_fields.ensures at (c.if-not-has_met_only.ensures refl value is) in
    (only.0, only.1, pack_read c.match-get.version value c.in_ok-found.found only (search rules))
