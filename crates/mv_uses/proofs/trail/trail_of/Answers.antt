use Rattle.std.proofs.Common.{◌≡◌, ◌∙◌, ℕ, List, None, Some, IfSome, rules}
use Rattle.std.specs.List.{enumerate_from, filter_map}
use Rattle.mv_engine.specs.Lines.{Line, lines_from, pieces}
use Rattle.mv_lines.specs.Sessions.{Open}
use Rattle.mv_show.specs.Events.{Event}
use Rattle.mv_show.specs.TrailLaws.{AreTold, RecordIsTold, entry_told}
use Rattle.mv_uses.proofs.trail.trail_of.Goals as goal

-- where a system is open behind the events, they tell its record
record_told : (after : Open) (lines : List Line) (events : List (ℕ × Event)) → RecordIsTold → AreTold None lines events after
    → IfSome after (λ st. filter_map (λ (it : ℕ × Event). entry_told it.1) events ≡ enumerate_from 1 st.hub.entries)
record_told None lines events law told = tt
record_told (Some st) lines events law told = law lines events st told

pub returns : goal.returns
returns c =
    let (after, (out, appended, answered)) = c.in_ok-trail.ensures.ok in
    let (told, are_texts, are_told) = c.events_are_written.ensures None (lines_from 0 (pieces c.args.lines.now)) out after answered.replied in
    let written : c.trail.new.writer.items ≡ out = search rules in
    (told, after, written ∙ are_texts, are_told, record_told after _ _ c.record_is_told.ensures are_told)
