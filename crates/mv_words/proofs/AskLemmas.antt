-- What the words of the command line ask for, and what a parse by it met.
use Rattle.mv_words.proofs.Names.{App, ExplainAsks, ExplainsUnsignedError, FailsBy, HasNoMinus, HasUnsignedDigitsIfOk, IsNumeral, List, None, OptionAsks, ParsesUnsigned, ReadsOne, Result, Some, String, Unsigned, WritesTurns, [], ap, append-nil, append_assoc, arith, clap_on_literals, code_rule, codes, command_line, false, fault_of, fold, inl, inr, is_simple_and_free, length, new_app, refl, strip_byte, sym, true, usize_max, with_rule, without_leading_plus, ℕ, ◌++◌, ◌∷◌, ◌≡◌}
use Rattle.std.specs.Str.{bytes_eq}
use Rattle.std.proofs.lemmas.Bool.{ne_eqb}
use Rattle.std.proofs.lemmas.Bool.Decides.{nat_tests}
use Rattle.clap.specs.ValueTests.{accepts}
use Rattle.clap.proofs.ValueTestLemmas.{Accepts-accepts}
use Rattle.std.specs.List.{AllByRecursion}
use Rattle.clap.specs.Walk.{Text, Walk, nothing_held, positional, walk, walk_from, walked}
use Rattle.clap.specs.Faults.{walk_fault}
use Rattle.clap.specs.Kinds.{range_kinds, values_kinds}
use Rattle.clap.specs.Simple.{Shape, built, built_leaf, entered, names_of}
use Rattle.clap.proofs.FaultLemmas.{stopped_fault}
use Rattle.clap.proofs.WalkLemmas.{one_text-rows, raw_values-rows, walk_stopped}
use Rattle.std.specs.declared.option.Option.{Option}
use Rattle.clap.specs.declared.error.Error.{Error}

-- the option takes a number of turns
turns_pass : (turns : ℕ) (text : List ℕ) → WritesTurns turns text → accepts false (Unsigned 0 4294967295) text ≡ true
turns_pass turns text (numeral, value, fits) = Accepts-accepts false (Unsigned 0 4294967295) text (numeral, omega arith, omega arith, omega arith)

-- a word that begins with no minus is not `--`, and no option
pub no_option : (word : List ℕ) → HasNoMinus word → (bytes_eq word (45 ∷ 45 ∷ []) ≡ false) × (strip_byte 45 word ≡ None)
no_option [] none = (refl, refl)
no_option (d ∷ ds) none = let other = ne_eqb d 45 (λ is. none (ap Some is)) in (rw other refl, rw other refl)

-- a number of turns begins with no minus
number_plain : (text : List ℕ) → IsNumeral 10 (without_leading_plus text) → HasNoMinus text
number_plain [] numeral is = cc
number_plain (d ∷ ds) numeral is = let same : d ≡ 45 = cc in absurd (omega (arith, (rw same at numeral).1.0))

-- so these words ask for `work` with this number
pub option_asks : OptionAsks
unfolding clap_on_literals
option_asks program text option turns writes (inl two) =
    let plain = no_option text (number_plain text writes.0) in
    rw two (rw (plain.0, plain.1, plain.1, turns_pass turns text writes) refl, _, _, refl, (refl, text, rw (plain.0, plain.1, plain.1) refl, writes))
option_asks program text option turns writes (inr one) = rw one (rw (turns_pass turns text writes) refl, _, _, refl, (refl, text, refl, writes))

-- `explain`, as it is built
abbrev explain_shape : Shape
explain_shape = built_leaf (with_rule (new_app (codes "explain")) code_rule).top

-- a walk over the words of `explain`, behind some of them
abbrev over_words : List Text → Walk
over_words words = record {
  held = record { rows = []; pending = Some (codes "code", words); skip = 0 };
  waiting = positional;
  position = 1;
  is_trailing = false;
  stopped = None;
}

-- the words behind some of them lead on, without a fault, and each is a value
other_words : (before words : List Text) → AllByRecursion HasNoMinus words
    → (fold (walked explain_shape.rules []) (over_words before) words ≡ over_words (before ++ words))
    × (walk_fault explain_shape [] (over_words before) words ≡ []) × (values_kinds false String words ≡ [])
unfolding clap_on_literals
other_words before [] all = grind (arith, append-nil)
other_words before (word ∷ words) all = grind (arith, append_assoc, no_option, other_words (before ++ word ∷ []) words)

-- all of them
all_words : (word : Text) (words : List Text) → AllByRecursion HasNoMinus (word ∷ words)
    → (walk explain_shape.rules [] nothing_held (word ∷ words) ≡ over_words (word ∷ words))
    × (walk_fault explain_shape [] (walk_from nothing_held) (word ∷ words) ≡ []) × (values_kinds false String (word ∷ words) ≡ [])
unfolding clap_on_literals
all_words word words plain = grind (arith, no_option, other_words (word ∷ []) words)

-- so these words ask for `explain`
pub explain_asks : ExplainAsks
unfolding clap_on_literals
explain_asks program [] some few plain = absurd (omega (arith, some))
explain_asks program (word ∷ words) some few plain =
    let top = built command_line in
    let found = sym (walk_stopped top.top.rules (names_of top) (walk_from nothing_held) (codes "explain") (word ∷ []) words) in
    let faults = stopped_fault top.top (names_of top) (walk_from nothing_held) (codes "explain", word ∷ []) words in
    let leaf = all_words word words plain in
    let passes : range_kinds 1 usize_max (length (word ∷ words)) ≡ [] = grind (arith, some, few) in (
      rw (found, faults, leaf.0, leaf.1) (rw (passes, leaf.2) refl),
      _,
      _,
      ap (λ (w : Walk). entered top w.stopped) found,
      (refl, rw leaf.0 refl),
    )

-- a parse fails by the faults of the command line, which is a simple one, and none of its arguments has a rule on another
pub fails_by : {T : Type 0} (line : App) (words : List (List ℕ)) (r : Result T Error) → line ≡ command_line
    → (is_simple_and_free line ≡ true → FailsBy (fault_of line words) r) → FailsBy (fault_of command_line words) r
unfolding clap_on_literals
fails_by line words r is fails = (rw is at fails) refl

-- a number of turns is read
pub turns_read : (turns : ℕ) (text : List ℕ) (read : Option ℕ)
    → ReadsOne (λ bs r. ParsesUnsigned 32 10 bs r × ExplainsUnsignedError 10 bs r × HasUnsignedDigitsIfOk bs r) text read
    → WritesTurns turns text → read ≡ Some turns
turns_read turns text read reads writes = grind (arith, nat_tests)

-- what words came to, by their rows
pub ruleset by_rows = (one_text-rows, raw_values-rows, turns_read)
