use Rattle.mv_engine.proofs.Words.{ℕ, List, [], Appends, Consumes, Taken}
use Rattle.mv_engine.proofs.engine.answer_lines.Given as goal

-- some bytes were read and taken, and the replies to the lines that end in them went out
abbrev pub invariant-loop : goal.invariant-loop
invariant-loop g l = (bytes : List ℕ) × Consumes (g.R.Read.remaining l.fn.reader) (g.R.Read.remaining l.reader) bytes
    × (out : List ℕ) × Appends (g.W.Write.contents l.fn.writer) (g.W.Write.contents l.writer) out
    × Taken g.S.Answering.replies [] 0 l.fn.answering bytes l.input.begun.items l.input.lines l.answering out
