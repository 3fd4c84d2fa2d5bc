-- What the fields of lines mean.
use Rattle.std.specs.Prelude.{◌<◌, ◌^◌, ℕ, List, map, Result}
use Rattle.mv_format.specs.Words.{AllByRecursion, Data, IsCode, IsGtin, IsMarket, LineFault, LineField, Message, array, items_of, read_code, read_gtin, string, strings, value_of, whole}
use Rattle.mv_json.specs.Shapes.{IsLegal}
use Rattle.mv_format.specs.Reading.{read_at, number_at, message_at, market_lists_at}
use Rattle.mv_format.specs.declared.field.LineField.TheVariants as fields

-- what a field means: the values that it has, how one is read of a line, its JSON value, and which are legal
pub record Meaning : Type 1 where
  pub Value : Type 0
  pub read : Data → Result Value LineFault
  pub value : Value → Data
  pub IsLegal : Value → Type 0

-- the markets of each party are those of readers
abbrev pub AreMarketLists : List (List (List ℕ)) → Type 0
AreMarketLists parties = AllByRecursion (AllByRecursion IsMarket) parties

-- the markets of each party, a list of texts each
abbrev pub markets_value : List (List (List ℕ)) → Data
markets_value parties = array (items_of (map (λ markets. array (strings markets)) parties))

-- what each field means: a whole number of 32 bits, where nothing else is said
abbrev pub meaning_of : LineField → Meaning
meaning_of fields.Gtin = record { Value = List ℕ; read = read_at read_gtin fields.Gtin; value = string; IsLegal = IsGtin }
meaning_of fields.Serial = record { Value = List ℕ; read = read_at read_code fields.Serial; value = string; IsLegal = IsCode }
meaning_of fields.Message = record { Value = Message; read = message_at; value = value_of; IsLegal = IsLegal }
meaning_of fields.Parties =
    record { Value = List (List (List ℕ)); read = market_lists_at fields.Parties; value = markets_value; IsLegal = AreMarketLists }
meaning_of field = record { Value = ℕ; read = number_at field; value = whole; IsLegal = λ n. n < 2 ^ 32 }
