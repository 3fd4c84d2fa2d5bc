-- The kind of an error of mistaken words, and what a run comes to by its status.
use Rattle.mv_tool.proofs.Words.{Consumes, Err, IfErr, IfSome, IsMistake, List, None, Ok, OnOk, Open, Result, ServeFault, Some, ToldStrict, [], inl, refl, arith, nat_tests, ℕ, ◌∷◌, ◌≡◌, ◌⊎◌}
use Rattle.std.specs.List.{AllByRecursion}
use Rattle.std.specs.declared.option.Option.{Option}
use Rattle.clap.specs.Words.{IsAmong}
use Rattle.clap.specs.declared.error.kind.ErrorKind.{ErrorKind}
use Rattle.clap.specs.declared.error.kind.ErrorKind.TheVariants.{OutOfMemory}
use Rattle.mv_words.specs.declared.task.Task.TheVariants as tasks
use Rattle.mv_tool.specs.declared.status.Status.{Status}
use Rattle.mv_tool.specs.Commands.{Ran}
use Rattle.mv_lines.specs.declared.strict.Untaken.{Untaken}
use Rattle.mv_lines.specs.Strict.{IsStrictReply}
use Rattle.mv_engine.specs.Served.{EndedAt, Served}

-- the kind of an error of mistaken words is that of a mistake
pub kind_mistaken : (kind : ErrorKind) (kinds : List ErrorKind) → (kind ≡ OutOfMemory) ⊎ IsAmong kind kinds → AllByRecursion IsMistake kinds → IsMistake kind
kind_mistaken kind [] among all = grind arith
kind_mistaken kind (k ∷ ks) among all = grind (arith, kind_mistaken kind ks)

-- what answers is left so, also where the input is not known
left_by : {S : Type 0} (first : S) (P : List ℕ → S → Type 0) (input : Option (List ℕ)) → IfSome input (λ bytes. (after : S) × P bytes after)
    → (after : S) × IfSome input (λ bytes. P bytes after)
left_by first P input is = grind arith

module _ (input rest old new told_old told_new : Option (List ℕ)) (status : Status) where
  -- a strict run has that of how it ended, and of whether each line was taken
  pub ran_strict : (ended : Result (Unit {0}) ServeFault) (untaken : Option Untaken)
      → ToldStrict ended untaken status told_old told_new
      → OnOk ended (IfSome input (λ bytes. (after : Open) × Served IsStrictReply (None, None) bytes (after, untaken) old new))
      → IfErr ended (λ fault. (bytes : List ℕ) × Consumes input rest bytes × (after : Open)
      × EndedAt IsStrictReply fault (None, None) bytes rest (after, untaken) old new)
      → Ran input rest old new told_old told_new tasks.Strict status
  ran_strict (Ok done) None told ok err =
      let (after, served) = left_by None (λ bytes after. Served IsStrictReply (None, None) bytes (after, None) old new) input ok in
      rw told.0 ((after, None), (refl, tt), served)
  ran_strict (Ok done) (Some untaken) told ok err =
      let (after, served) = left_by None (λ bytes after. Served IsStrictReply (None, None) bytes (after, Some untaken) old new) input ok in
      rw told.0 (inl ((after, Some untaken), (refl, told.1), served))
  ran_strict (Err fault) untaken told ok (bytes, consumed, after, ended) = grind (arith, nat_tests)
