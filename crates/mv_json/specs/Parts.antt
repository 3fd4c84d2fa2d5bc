-- The tokens of JSON that a message is read from.
use Rattle.std.specs.Prelude.{◌≡◌, List, Ok}
use Rattle.mv_json.specs.Words.{Data, Message, Token}
use Rattle.mv_json.specs.Messages.{read_message}
use Rattle.mv_json.specs.Met.{BeginWith}

-- the tokens are a value of JSON that is read as this message, then the rest
abbrev pub BeginWithMessage : List Token → Message → List Token → Type 0
BeginWithMessage ts message rest = (found : Data) × BeginWith 2 ts found rest × (read_message found ≡ Ok message)
