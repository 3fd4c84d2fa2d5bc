-- The walk begins at the last number of the bucket, and goes to the one before it.
use Rattle.std.proofs.Common.{◌-◌, arith}
use Rattle.std.proofs.lemmas.List.{get_or_default, length-map}
use Rattle.std.proofs.Math.ListN.{get_or-map}
use Rattle.mv_index.specs.declared.index.Link.{Link}
use Rattle.mv_index.specs.inside.Chains.{no_bucket, no_link}
use Rattle.mv_index.proofs.index.HashIndex.find.Goals as goal

pub returns-then-not-has_parts-clause-absent : goal.returns-then-not-has_parts-clause-absent
returns-then-not-has_parts-clause-absent g c number within e =
    let hash = get_or-map (λ (link : Link). link.hash) c.self.inside.links.items number no_link in
    grind (arith, get_or_default, c.self.view_is, length-map, c.self.invariant.chained.parts number)

pub loop-at-init : goal.loop-at-init
loop-at-init g c =
    let bucket = get_or_default c.self.inside.buckets.items c.bucket_of.result no_bucket c.index.result.now in
    let last = c.self.invariant.chained.lasts c.bucket_of.result in
    let hash = get_or-map (λ (link : Link). link.hash) c.self.inside.links.items in
    record { within = grind (arith, last); own = grind (arith, last); none = λ number after within e. grind (arith, last, hash number no_link) }

pub loop-at-preserved : goal.loop-at-preserved
loop-at-preserved g c =
    let at = c.loop-at.at in
    let link = get_or_default c.self.inside.links.items (at - 1) no_link c.index-link.result.now in
    let last = c.self.invariant.chained.befores (at - 1) in
    let hash = get_or-map (λ (one : Link). one.hash) c.self.inside.links.items in
    record {
      within = grind (arith, link, last);
      own = grind (arith, link, last);
      none = λ number after within e. grind (arith, link, last, hash number no_link, c.else-link-hash.branch, c.loop-at.invariant.none number);
    }
