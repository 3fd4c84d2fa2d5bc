-- The command line of the program, the words that it takes, and what they ask for.
use Rattle.std.specs.Prelude.{◌≡◌, ◌≢◌, ◌<◌, ◌^◌, ◌⊎◌, ℕ, List, [], ◌∷◌, ◌++◌, codes, true, fold, Some, length, slice_get}
use Rattle.std.specs.List.{AllByRecursion}
use Rattle.std.specs.Str.Parse.{IsNumeral, digits_value, without_leading_plus}
use Rattle.clap.specs.Lexer.{usize_max}
use Rattle.clap.specs.Words.{App, Row, Rule, all_of, fault_of, new_app, new_rule, one_of, subcommand_of, with_rule, with_subcommand}
use Rattle.clap.specs.declared.builder.action.ArgAction.TheVariants.{SetTrue}
use Rattle.clap.specs.declared.builder.value_parser.ValueParser.TheVariants.{Unsigned}
use Rattle.clap.specs.Simple.{new_shape, on_top}
use Rattle.clap.specs.declared.error.kind.ErrorKind.{ErrorKind}
use Rattle.clap.specs.declared.error.kind.ErrorKind.TheVariants.{DisplayHelp, DisplayVersion}
use Rattle.mv_words.specs.declared.task.Task.{Task}
use Rattle.mv_words.specs.declared.task.Task.TheVariants as tasks

-- `mvhub`, of which a subcommand is required; it tells its version, and without words how it is called
abbrev pub mvhub : App
mvhub =
    on_top (λ shape. record shape { has_version = true; arg_required_else_help = true; subcommand_required = true })
    (new_app (codes "mvhub"))

-- an option of this name that is given or not
abbrev pub flag_rule : List ℕ → Rule
flag_rule name = record (new_rule name) { long = Some name; action = Some SetTrue }

-- an option or a word of this name that is required, with a value
abbrev pub required_rule : List ℕ → Rule
required_rule name = record (new_rule name) { value_names = 1; required = true }

-- the option of `work`: a number of 32 bits
abbrev pub turns_rule : Rule
turns_rule = record (required_rule (codes "turns")) { long = Some (codes "turns"); parser = Some (Unsigned 0 4294967295) }

-- the words of `explain`: one or more
abbrev pub code_rule : Rule
code_rule = record (required_rule (codes "code")) { range = Some (record { start_inclusive = 1; end_inclusive = usize_max }) }

-- the command line: `mvhub` with these six subcommands, of which four have an option or words
abbrev pub command_line : App
command_line = fold with_subcommand mvhub (
    (with_rule (new_app (codes "steps")) (flag_rule (codes "strict"))).top ∷ new_shape (codes "trail") ∷ new_shape (codes "show")
    ∷ (with_rule (new_app (codes "canon")) (flag_rule (codes "check"))).top ∷ (with_rule (new_app (codes "work")) turns_rule).top
    ∷ (with_rule (new_app (codes "explain")) code_rule).top ∷ []
    )

-- the text is decimal digits, in front of which one plus may stand and no minus, and they write this number, which is one of 32 bits
abbrev pub WritesTurns : ℕ → List ℕ → Type 0
WritesTurns turns text = IsNumeral 10 (without_leading_plus text) × (digits_value 10 (without_leading_plus text) ≡ turns) × (turns < 2 ^ 32)

-- a subcommand of this name, with these matches, is for it; an option that has no value is matched by `true` or `false`
abbrev pub IsFor : Task → List ℕ → List Row → Type 0
IsFor tasks.Steps name rows = (name ≡ codes "steps") × (one_of (codes "strict") rows ≡ Some (codes "false"))
IsFor tasks.Strict name rows = (name ≡ codes "steps") × (one_of (codes "strict") rows ≡ Some (codes "true"))
IsFor tasks.Trail name rows = name ≡ codes "trail"
IsFor tasks.Show name rows = name ≡ codes "show"
IsFor tasks.Canon name rows = (name ≡ codes "canon") × (one_of (codes "check") rows ≡ Some (codes "false"))
IsFor tasks.Check name rows = (name ≡ codes "canon") × (one_of (codes "check") rows ≡ Some (codes "true"))
IsFor (tasks.Work turns) name rows = (name ≡ codes "work") × (text : List ℕ) × (one_of (codes "turns") rows ≡ Some text) × WritesTurns turns text
IsFor (tasks.Explain words) name rows = (name ≡ codes "explain") × (all_of (codes "code") rows ≡ Some words)

-- the words ask for this: the command line takes them, and they name a subcommand that is for it
abbrev pub AsksFor : Task → List (List ℕ) → Type 0
AsksFor task words = (fault_of command_line words ≡ [])
    × (name : List ℕ) × (rows : List Row) × (subcommand_of command_line words ≡ Some (name, rows)) × IsFor task name rows

-- the words are the option of `work` with this text: `--turns` and the text, or both in one word with `=` between them
abbrev pub GiveTurns : List ℕ → List (List ℕ) → Type 0
GiveTurns text words = (words ≡ codes "--turns" ∷ text ∷ []) ⊎ (words ≡ (codes "--turns=" ++ text) ∷ [])

-- the program's name and these words ask for this
abbrev pub WordsAsk : Task → List (List ℕ) → Type 0
WordsAsk task words = (program : List ℕ) → AsksFor task (program ∷ words)

-- the program's name, `work` and its option ask for `work` with the number that the option gives
abbrev pub OptionAsks : Type 0
OptionAsks = (program text : List ℕ) (option : List (List ℕ)) (turns : ℕ) → WritesTurns turns text → GiveTurns text option
    → AsksFor (tasks.Work turns) (program ∷ codes "work" ∷ option)

-- the word does not begin with a minus (45)
abbrev pub HasNoMinus : List ℕ → Type 0
HasNoMinus word = slice_get word 0 ≢ Some 45

-- the program's name, `explain` and one word or more, none of which begins with a minus, ask for `explain` with these words
abbrev pub ExplainAsks : Type 0
ExplainAsks = (program : List ℕ) (given : List (List ℕ)) → 0 < length given → length given < 2 ^ 64 → AllByRecursion HasNoMinus given
    → AsksFor (tasks.Explain given) (program ∷ codes "explain" ∷ given)

-- what is wrong is no call for help or for the version
abbrev pub IsMistake : ErrorKind → Type 0
IsMistake kind = (kind ≢ DisplayHelp) × (kind ≢ DisplayVersion)

-- the command line does not take the words, by a mistake
abbrev pub AreMistaken : List (List ℕ) → Type 0
AreMistaken words = (fault_of command_line words ≢ []) × AllByRecursion IsMistake (fault_of command_line words)

-- a number with a minus (45) before it is no number of turns: the command line does not take it
abbrev pub MinusIsMistaken : Type 0
MinusIsMistaken = (program digits : List ℕ) (option : List (List ℕ)) → IsNumeral 10 digits → GiveTurns (45 ∷ digits) option
    → AreMistaken (program ∷ codes "work" ∷ option)
