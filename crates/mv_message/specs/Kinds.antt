-- Kinds of messages.
use Rattle.std.specs.Prelude.{Bool, true, false}
use Rattle.mv_message.specs.declared.message.Message.{Message}
use Rattle.mv_message.specs.declared.message.Message.TheVariants.{Answer, Query, Recall, Withdraw}

-- a query or an answer
abbrev pub is_query_or_answer : Message → Bool
is_query_or_answer (Query key) = true
is_query_or_answer (Answer asker q key found) = true
is_query_or_answer message = false

-- a message of codes and numbers alone: to copy it takes no memory
abbrev pub has_codes_alone : Message → Bool
has_codes_alone (Recall key at) = true
has_codes_alone (Withdraw gtin at) = true
has_codes_alone message = is_query_or_answer message
