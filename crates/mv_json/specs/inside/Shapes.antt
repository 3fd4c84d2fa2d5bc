-- What the type of a message says of its numbers.
use Rattle.mv_json.specs.Words.{Message}
use Rattle.std.specs.Prelude.{⊤, ◌<◌, ◌^◌}
use Rattle.mv_message.specs.declared.message.Message.TheVariants as messages

-- the numbers that a message holds have 64 bits at most, as their types say
abbrev pub HasWords : Message → Type 0
HasWords (messages.Answer asker q key found) = (asker < 2 ^ 64) × (q < 2 ^ 64)
HasWords (messages.Recall key at) = at < 2 ^ 64
HasWords (messages.Repack before before_serials after after_serials at) = at < 2 ^ 64
HasWords (messages.Status key to user at) = at < 2 ^ 64
HasWords (messages.Withdraw gtin at) = at < 2 ^ 64
HasWords message = ⊤
