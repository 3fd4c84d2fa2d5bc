use Rattle.mv_format.proofs.Words.{AllocError, Ok, ◌∷◌, flat_map, take, begin_array, tokens_of}
use Rattle.mv_json.specs.Tokens.{Puts}
use Rattle.mv_format.proofs.to_json.write_list.Given as goal

-- the first values are written
abbrev pub invariant-loop-item : goal.invariant-loop-item
invariant-loop-item g l = Puts {E = AllocError} (Ok tt) l.fn.writer l.writer (begin_array ∷ flat_map (λ x. tokens_of (g.T.ToJson.value x)) (take l.item-index l.items))
