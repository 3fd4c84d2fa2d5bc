-- The JSON value of each event, with the number of the line that made it: an object, its keys in byte order.
use Rattle.std.specs.Prelude.{ℕ, List, [], ◌∷◌, codes, Bool, Option, Some, None, option_map}
use Rattle.mv_show.specs.Words.{Data, boolean, string, array, object, Effect, Verdict}
use Rattle.mv_json.specs.Messages.{value_of}
use Rattle.mv_json.specs.Values.{whole}
use Rattle.mv_link.specs.declared.item.Item.{Item}
use Rattle.mv_link.specs.declared.item.Item.TheVariants.{Receipt, Carried}
use Rattle.mv_repository.specs.Pack.{code_of}
use Rattle.mv_repository.specs.declared.effect.Effect.TheVariants.{Uploaded}
use Rattle.mv_repository.specs.declared.verdict.Verdict.TheVariants.{Authentic, NotAuthentic}
use Rattle.mv_format.specs.Meanings.{markets_value}
use Rattle.mv_format.specs.ReplyLines.{wholes}
use Rattle.mv_format.specs.Writing.{members_where}
use Rattle.mv_show.specs.Events.{Event, opened, submitted, asked, verified, routed, applied, closed, decided}

-- a member of an object: its key, and its value, where it has one
abbrev pub Field : Type 0
Field = List ℕ × Option Data

abbrev pub text : List ℕ → List ℕ → Field
text key value = (key, Some (string value))

abbrev pub number : List ℕ → ℕ → Field
number key n = (key, Some (whole n))

-- of an upload, how many of its packs were new
abbrev pub new_packs : Effect → Option ℕ
new_packs (Uploaded new old) = Some new
new_packs effect = None

-- of an upload, how many of its packs were there
abbrev pub old_packs : Effect → Option ℕ
old_packs (Uploaded new old) = Some old
old_packs effect = None

-- of a pack that is not authentic, whether a falsification is suspected
abbrev pub suspicion : Verdict → Option Bool
suspicion Authentic = None
suspicion (NotAuthentic falsification) = Some falsification

-- a verdict in words
abbrev pub verdict_name : Verdict → List ℕ
verdict_name Authentic = codes "authentic"
verdict_name (NotAuthentic falsification) = codes "not authentic"

-- the fields of an item that was applied: of a receipt, whom its message reached; of a message, what it is and its stamp
abbrev pub applied_fields : ℕ → ℕ → ℕ → Effect → Option ℕ → ℕ → Item → List Field
applied_fields line to n effect answer from (Receipt k reach query) =
    text (codes "effect") (code_of effect) ∷ text (codes "event") (codes "applied") ∷ number (codes "from") from ∷ number (codes "k") k
    ∷ number (codes "line") line ∷ number (codes "number") n ∷ (codes "query", Some (boolean query)) ∷ (codes "reach", Some (array (wholes reach)))
    ∷ number (codes "to") to ∷ []
applied_fields line to n effect answer from (Carried k stamp carried) =
    (codes "answer", option_map whole answer) ∷ text (codes "effect") (code_of effect) ∷ text (codes "event") (codes "applied")
    ∷ number (codes "from") from ∷ number (codes "k") k ∷ number (codes "line") line ∷ (codes "message", Some (value_of carried))
    ∷ (codes "new", option_map whole (new_packs effect)) ∷ number (codes "number") n ∷ (codes "old", option_map whole (old_packs effect))
    ∷ number (codes "stamp") stamp ∷ number (codes "to") to ∷ []

-- the fields of an event that the line of this number made
abbrev pub fields_of : ℕ → Event → List Field
fields_of line (opened markets limits) =
    text (codes "event") (codes "opened") ∷ number (codes "line") line ∷ (codes "parties", Some (markets_value markets))
    ∷ number (codes "submissions") limits.submissions ∷ number (codes "uplink") limits.uplink
    ∷ number (codes "window") limits.window ∷ number (codes "wire") limits.wire ∷ []
fields_of line (submitted from k submission) =
    text (codes "event") (codes "submitted") ∷ number (codes "from") from ∷ number (codes "k") k ∷ number (codes "line") line
    ∷ (codes "message", Some (value_of submission)) ∷ []
fields_of line (asked party key q) =
    text (codes "event") (codes "asked") ∷ text (codes "gtin") key.gtin ∷ number (codes "line") line ∷ number (codes "party") party
    ∷ number (codes "q") q ∷ text (codes "serial") key.serial ∷ []
fields_of line (verified party key verdict) =
    text (codes "event") (codes "verified") ∷ (codes "falsification", option_map boolean (suspicion verdict)) ∷ text (codes "gtin") key.gtin
    ∷ number (codes "line") line ∷ number (codes "party") party ∷ text (codes "serial") key.serial
    ∷ text (codes "verdict") (verdict_name verdict) ∷ []
fields_of line (routed from k submission reach stamp) =
    text (codes "event") (codes "routed") ∷ number (codes "from") from ∷ number (codes "k") k ∷ number (codes "line") line
    ∷ (codes "message", Some (value_of submission)) ∷ (codes "reach", Some (array (wholes reach))) ∷ number (codes "stamp") stamp ∷ []
fields_of line (applied to n effect answer entry) = applied_fields line to n effect answer entry.sender entry.item
fields_of line (closed from to stamp) =
    text (codes "event") (codes "closed") ∷ number (codes "from") from ∷ number (codes "line") line ∷ number (codes "stamp") stamp
    ∷ number (codes "to") to ∷ []
fields_of line (decided party q key verdict) =
    text (codes "event") (codes "verdict") ∷ (codes "falsification", option_map boolean (suspicion verdict)) ∷ text (codes "gtin") key.gtin
    ∷ number (codes "line") line ∷ number (codes "party") party ∷ number (codes "q") q ∷ text (codes "serial") key.serial
    ∷ text (codes "verdict") (verdict_name verdict) ∷ []

-- the value of an event that the line of this number made
abbrev pub event_value : ℕ → Event → Data
event_value line event = object (members_where (fields_of line event))
