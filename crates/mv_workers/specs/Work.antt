-- What parties are to submit.
use Rattle.std.specs.Prelude.{Bool, true, false, List, map, filter, not}
use Rattle.std.specs.declared.alloc.Global.{Global}
use Rattle.std.specs.declared.vec.Vec.{Vec}
use Rattle.mv_message.specs.declared.message.Message.{Message}
use Rattle.mv_message.specs.declared.message.Message.TheVariants.{Answer}

-- what each party is to submit, by the lists that are kept of it
abbrev pub lists_of : List (Vec Message Global) → List (List Message)
lists_of lists = map (λ (list : Vec Message Global). list.items) lists

-- a message is the answer to a query
abbrev pub is_answer : Message → Bool
is_answer (Answer asker q key found) = true
is_answer message = false

-- what a party submits of its own: all but the answers to queries
abbrev pub own_among : List Message → List Message
own_among messages = filter (λ message. not (is_answer message)) messages
