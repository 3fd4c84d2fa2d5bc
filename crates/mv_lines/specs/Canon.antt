-- The canonical texts of messages, a line each.
use Rattle.std.specs.Prelude.{◌≡◌, ℕ, List, map, Option, None, Some, Result, Ok, Err, ⊤}
use Rattle.serde_json.specs.Data.{Data}
use Rattle.serde_json.specs.Written.{compact_text}
use Rattle.mv_json.specs.Messages.{read_bytes, value_of}
use Rattle.mv_json.specs.declared.fault.MessageFault.{MessageFault}
use Rattle.mv_message.specs.declared.message.Message.{Message}
use Rattle.mv_engine.specs.Lines.{Line, pieces, lines_of}
use Rattle.mv_engine.specs.Replies.{text_lines}
use Rattle.mv_format.specs.ReplyLines.{message_fault_value}

-- the value of the message that was read, or of the refusal of its first fault
abbrev pub canon_value : Result Message MessageFault → Data
canon_value (Ok message) = value_of message
canon_value (Err fault) = message_fault_value None fault

-- the text to a line: the canonical text of the message that it is, or of its refusal
abbrev pub canon_text : List ℕ → List ℕ
canon_text line = compact_text (canon_value (read_bytes line))

-- the texts to the lines of an input that are not empty, each ended by a line feed
abbrev pub canon_of : List ℕ → List ℕ
canon_of bytes = text_lines (map canon_text (lines_of (pieces bytes)))

-- the text is that to the line; nothing is kept from line to line
abbrev pub IsCanon : ⊤ → Line → Option (List ℕ) → ⊤ → Type 0
IsCanon before line text after = text ≡ Some (canon_text line.bytes)
