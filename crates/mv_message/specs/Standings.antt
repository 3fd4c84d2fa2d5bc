-- The standings of packs, by the names that they bear in messages.
use Rattle.std.specs.Prelude.{ℕ, List, [], ◌∷◌, codes, bytes_eq, find, Option}
use Rattle.mv_message.specs.declared.standing.Standing.{Standing}
use Rattle.mv_message.specs.declared.standing.Standing.TheVariants.{Active, Supplied, Exported, Destruction, Sample, FreeSample, Stolen, Repackaged}

-- the name of a standing
abbrev pub standing_name : Standing → List ℕ
standing_name Active = codes "active"
standing_name Supplied = codes "supplied"
standing_name Exported = codes "exported"
standing_name Destruction = codes "destruction"
standing_name Sample = codes "sample"
standing_name FreeSample = codes "free_sample"
standing_name Stolen = codes "stolen"
standing_name Repackaged = codes "repackaged"

-- all standings
abbrev pub standings : List Standing
standings = Active ∷ Supplied ∷ Exported ∷ Destruction ∷ Sample ∷ FreeSample ∷ Stolen ∷ Repackaged ∷ []

-- the standing of that name
abbrev pub standing_named : List ℕ → Option Standing
standing_named text = find (λ standing. bytes_eq text (standing_name standing)) standings
