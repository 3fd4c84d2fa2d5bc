use Rattle.std.proofs.Common.{◌≡◌, ℕ, List, [], ◌∷◌, map, refl, ap, ◌∙◌, sym}
use Rattle.std.proofs.lemmas.List.{map-id}
use Rattle.mv_pairs.proofs.CallerLemmas.{table-all}
use Rattle.mv_pairs.specs.Pairs.{put}
use Rattle.mv_uses.proofs.pairs.table_with.Goals as goal

rows-same : (rows : List (List ℕ)) → map (map (λ value. value)) rows ≡ rows
rows-same [] = refl
rows-same (row ∷ rest) = ap (λ first. first ∷ map (map (λ value. value)) rest) (map-id row) ∙ ap (λ others. row ∷ others) (rows-same rest)

pub returns-clause-values : goal.returns-clause-values
returns-clause-values c =
    let zeros = table-all (λ value. value) 0 c.args.parties c.in-Ok.table c.in-Ok.ensures.square c.in-Ok.ensures.each in
    ap (λ rows. put rows c.args.from c.args.to 1) (sym (rows-same c.in-Ok.table) ∙ zeros)
