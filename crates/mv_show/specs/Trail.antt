-- What is written to a line: the text of its event, or nothing.
use Rattle.std.specs.Prelude.{◌≡◌, ℕ, List, Option, option_map}
use Rattle.mv_show.specs.Words.{Answered, IsTaken, Line, Open, compact_text}
use Rattle.mv_show.specs.Events.{Event, event_of}
use Rattle.mv_show.specs.EventValues.{event_value}

-- the text of an event of the line of this number
abbrev pub event_text : ℕ → Event → List ℕ
event_text line event = compact_text (event_value line event)

-- what may be written to a line: the text of the event of what came of it; nothing where it has none
abbrev pub IsEvent : Open → Line → Option (List ℕ) → Open → Type 0
IsEvent before line text after = (answered : Answered) × IsTaken before line.bytes answered after
    × (text ≡ option_map (event_text line.number) (event_of answered after))
