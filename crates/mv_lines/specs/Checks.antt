-- What is said of messages that are only checked: the refusal of each that is refused, with the number of its line.
use Rattle.std.specs.Prelude.{◌≡◌, ◌&&◌, ℕ, List, map, Bool, Option, Some, is_ok, option_map}
use Rattle.std.specs.List.{list_all}
use Rattle.std.specs.Result.{result_err}
use Rattle.serde_json.specs.Written.{compact_text}
use Rattle.mv_json.specs.Messages.{read_bytes}
use Rattle.mv_engine.specs.Lines.{Line, lines_from, pieces}
use Rattle.mv_engine.specs.Replies.{said_texts, text_lines}
use Rattle.mv_format.specs.ReplyLines.{message_fault_value}

-- what is said of a line: nothing of a message, else its refusal with the number of the line
abbrev pub checked : Line → Option (List ℕ)
checked line = option_map (λ fault. compact_text (message_fault_value (Some line.number) fault)) (result_err (read_bytes line.bytes))

-- the text is what is said of the line; and whether each line was a message, before it and behind it
abbrev pub IsChecked : Bool → Line → Option (List ℕ) → Bool → Type 0
IsChecked before line text after = (text ≡ checked line) × (after ≡ (before && is_ok (read_bytes line.bytes)))

-- the refusals of the lines of an input, each ended by a line feed
abbrev pub refusals_of : List ℕ → List ℕ
refusals_of bytes = text_lines (said_texts (map checked (lines_from 0 (pieces bytes))))

-- each line of an input is a message
abbrev pub are_messages : List ℕ → Bool
are_messages bytes = list_all (λ line. is_ok (read_bytes line.bytes)) (lines_from 0 (pieces bytes))
