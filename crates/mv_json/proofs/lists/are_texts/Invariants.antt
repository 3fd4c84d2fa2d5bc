use Rattle.mv_json.proofs.Words.{◌≡◌, drop, is_some, as_str, list_all, view}
use Rattle.mv_json.proofs.lists.are_texts.Given as goal

-- all so far are texts
abbrev pub invariant-loop-value : goal.invariant-loop-value
invariant-loop-value l = list_all (λ value. is_some (as_str (view value))) l.list ≡ list_all (λ value. is_some (as_str (view value))) (drop l.value-index l.list)
