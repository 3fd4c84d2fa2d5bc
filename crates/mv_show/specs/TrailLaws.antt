-- The laws of the trail: what is written are the events of a run, and these are the hub's record, the log of each repository, and what each
-- party submitted.
use Rattle.std.specs.Prelude.{◌≡◌, ◌==◌, ℕ, List, [], ◌∷◌, ◌++◌, map, if◌then◌else◌, option_to_list, Option, Some, None}
use Rattle.mv_show.specs.Words.{Message, Query, Answer, Entry, LogEntry, State, submissions_of, log_of, Line, Open, IsTaken, Answered}
use Rattle.std.specs.List.{enumerate_from, filter_map}
use Rattle.mv_hub.specs.declared.entry.Entry.TheVariants as entries
use Rattle.mv_engine.specs.Replies.{IsReplies, text_lines}
use Rattle.mv_show.specs.Events.{Event, submitted, asked, routed, applied, closed, event_of}
use Rattle.mv_format.specs.KeyOrder.{IsOrdered}
use Rattle.mv_show.specs.EventValues.{event_value}
use Rattle.mv_show.specs.Trail.{IsEvent, event_text}

-- an event, where there is one, with the number of its line
abbrev pub numbered : ℕ → Option Event → List (ℕ × Event)
numbered line event = map (λ it. (line, it)) (option_to_list event)

-- these lines are taken one after another, and these are their events, in order, each with the number of its line
abbrev pub AreTold : Open → List Line → List (ℕ × Event) → Open → Type 0
AreTold before [] events after = (events ≡ []) × (after ≡ before)
AreTold before (line ∷ lines) events after =
    (answered : Answered) × (between : Open) × (rest : List (ℕ × Event)) × IsTaken before line.bytes answered between
    × (events ≡ numbered line.number (event_of answered between) ++ rest) × AreTold between lines rest after

-- What is written to lines by the rule of the trail are the texts of their events, in order, each with a line feed and the number of its line.
abbrev pub EventsAreWritten : Type 0
EventsAreWritten = (before : Open) (lines : List Line) (out : List ℕ) (after : Open) → IsReplies IsEvent before lines out after
    → (events : List (ℕ × Event)) × (out ≡ text_lines (map (λ it. event_text it.0 it.1) events)) × AreTold before lines events after

-- the entry of the record that an event tells, with its stamp
abbrev pub entry_told : Event → Option (ℕ × Entry)
entry_told (routed from k message reach stamp) = Some (stamp, entries.Routed from k message)
entry_told (closed from to stamp) = Some (stamp, entries.Closed from to)
entry_told event = None

-- the entry of a party's log that an event tells
abbrev pub applied_told : ℕ → Event → Option LogEntry
applied_told party (applied to number effect answer entry) = if to == party then Some entry else None
applied_told party event = None

-- the submission of a party that an event tells: its number and the message; of an answer the number alone
abbrev pub submission_told : ℕ → Event → Option (ℕ × Option Message)
submission_told party (submitted from k message) = if from == party then Some (k, Some message) else None
submission_told party (asked by key q) = if by == party then Some (q, Some (Query key)) else None
submission_told party (applied to number effect (Some k) entry) = if to == party then Some (k, None) else None
submission_told party event = None

-- a message, unless it is an answer
abbrev pub unless_answer : Message → Option Message
unless_answer (Answer asker q key found) = None
unless_answer message = Some message

-- the entries that the events of a run tell are the hub's record, in its order, each with its place
abbrev pub RecordIsTold : Type 0
RecordIsTold = (lines : List Line) (events : List (ℕ × Event)) (st : State) → AreTold None lines events (Some st)
    → filter_map (λ it. entry_told it.1) events ≡ enumerate_from 1 st.hub.entries

-- the entries that the events of a run tell of a party are the log of its repository, in its order
abbrev pub LogsAreTold : Type 0
LogsAreTold = (party : ℕ) (lines : List Line) (events : List (ℕ × Event)) (st : State) → AreTold None lines events (Some st)
    → filter_map (λ it. applied_told party it.1) events ≡ log_of st party

-- The submissions that the events of a run tell of a party are all that it submitted, in its order, each with its number; an answer by
-- its number alone.
abbrev pub SubmissionsAreTold : Type 0
SubmissionsAreTold = (party : ℕ) (lines : List Line) (events : List (ℕ × Event)) (st : State) → AreTold None lines events (Some st)
    → filter_map (λ it. submission_told party it.1) events ≡ enumerate_from 1 (map unless_answer (submissions_of st party))

-- each event is an object whose keys ascend
abbrev pub EventsAreOrdered : Type 0
EventsAreOrdered = (line : ℕ) (event : Event) → IsOrdered (event_value line event)
