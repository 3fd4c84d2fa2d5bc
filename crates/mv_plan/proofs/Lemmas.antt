-- Lemmas on plans that grow, and on an input that was read.
use Rattle.std.proofs.Common.{◌≡◌, ℕ, List, [], ◌∷◌, map, Option}
use Rattle.std.proofs.Math.Seq.{map-set_same}
use Rattle.std.proofs.lemmas.List.{get_or-map, length-map, map-set}
use Rattle.std.specs.List.{fold}
use Rattle.mv_engine.specs.Lines.{Line}
use Rattle.mv_engine.specs.Replies.{AreReplies}
use Rattle.mv_party.proofs.CallerLemmas.{answers_in-append}
use Rattle.mv_plan.specs.Planning.{Planned, plan_line}
use Rattle.mv_plan.specs.inside.Planning.{IsPlanned}

-- what the lists of a plan are once one has another message
pub ruleset lists = (map-set, map-set_same, get_or-map, length-map, answers_in-append)

-- what stands behind lines that were taken one by one is what they plan
pub are_planned : (before : Planned) (lines : List Line) (texts : List (Option (List ℕ))) (after : Planned) → AreReplies IsPlanned before lines texts after
    → after ≡ fold plan_line before (map (λ line. line.bytes) lines)
are_planned before [] [] after same = same
are_planned before (line ∷ lines) (text ∷ texts) after (between, one, rest) = cc (are_planned between lines texts after rest)
are_planned before lines texts after none = absurd none
