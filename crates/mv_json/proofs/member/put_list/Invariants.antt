use Rattle.mv_json.proofs.Words.{◌∷◌, map, take, Ok, AllocError, Puts}
use Rattle.json.specs.Token.{string, begin_array}
use Rattle.mv_json.proofs.member.put_list.Given as goal

-- the list as far as it was put
abbrev pub invariant-loop-value : goal.invariant-loop-value
invariant-loop-value g l =
    Puts {E = AllocError} (Ok tt) l.fn.writer l.writer (begin_array ∷ map (λ value. string (g.T.Listed.written value)) (take l.value-index l.list))
