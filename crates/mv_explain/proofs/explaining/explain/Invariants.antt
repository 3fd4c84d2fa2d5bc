use Rattle.std.proofs.Common.{◌≡◌, string_bytes, map, take}
use Rattle.mv_explain.specs.Explained.{lines_of}
use Rattle.mv_explain.proofs.explaining.explain.Given as goal

-- the lines of the words that were passed are written
abbrev pub invariant-loop-word : goal.invariant-loop-word
invariant-loop-word l = string_bytes l.text ≡ lines_of (map (λ word. word.now) (take l.word-index l.words))
