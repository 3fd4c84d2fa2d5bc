-- What a run leaves, by its plan, and what is carried out of what a party is to submit.
use Rattle.std.specs.Prelude.{◌≡◌, ◌<◌, ◌≤◌, ℕ, List, [], length, slice_index_or, true}
use mathlib.Core.List.{IsPrefix}
use Rattle.mv_hub.specs.Record.{is_open, routed_from}
use Rattle.mv_hub.specs.Hub.{items_on}
use Rattle.mv_message.specs.declared.message.Message.{Message}
use Rattle.mv_repository.specs.Repository.{items_from}
use Rattle.mv_party.specs.Site.{answers_in}
use Rattle.mv_machine.specs.State.{State, submissions_of, log_of}
use Rattle.mv_machine.specs.Lawful.{IsLawful}
use Rattle.mv_ends.specs.Whole.{KeepsSubmissions}
use Rattle.mv_workers.specs.declared.plan.Plan.{Plan}
use Rattle.mv_workers.specs.declared.plan.WorkFault.{WorkFault}
use Rattle.mv_workers.specs.declared.plan.WorkFault.TheVariants as fault
use Rattle.mv_workers.specs.Work.{own_among}

-- All that a party submitted was routed, and it applied all that was routed to it.
pub record IsCarried (outcome : State) (party : ℕ) : Type 0 where
  pub routed : routed_from outcome.hub.entries party ≡ submissions_of outcome party
  pub applied : (from : ℕ) → from < length outcome.hub.parties → items_from (log_of outcome party) from ≡ items_on outcome.hub from party

-- A plan can be run: it has a list for each party, and no answer is planned.
pub record IsSound (plan : Plan) : Type 0 where
  pub each : length plan.work ≡ length plan.parties
  pub no_answers : (party : ℕ) → party < length plan.work → answers_in (slice_index_or plan.work party []) ≡ []

-- What a party submitted of its own is where its list begins, and no more than it had turns: in each it tries one message.
pub record IsBegun (turns : ℕ) (own list : List Message) : Type 0 where
  pub front : IsPrefix own list
  pub few : length own ≤ turns

-- An outcome is one of a plan and of so many turns: it is lawful and has the plan's parties and limits. No party submitted more than these let
-- it, no link was closed, and the list of each party is begun.
pub record KeepsPlan (plan : Plan) (turns : ℕ) (outcome : State) : Type 0 where
  pub lawful : IsLawful outcome
  pub parties : outcome.hub.parties ≡ plan.parties
  pub limits : outcome.limits ≡ plan.limits
  pub few : KeepsSubmissions outcome
  pub all_open : (from to : ℕ) → is_open outcome.hub.entries from to ≡ true
  pub submitted : (party : ℕ) → party < length outcome.hub.parties
      → IsBegun turns (own_among (submissions_of outcome party)) (slice_index_or plan.work party [])

-- An outcome is complete: each party submitted just its list and answers, all that was submitted was routed, and all that was routed
-- was applied.
abbrev pub IsComplete : Plan → State → Type 0
IsComplete plan outcome = (party : ℕ) → party < length outcome.hub.parties
    → (own_among (submissions_of outcome party) ≡ slice_index_or plan.work party []) × IsCarried outcome party

-- why a run has no complete outcome
abbrev pub Faults : Plan → ℕ → WorkFault → Type 0
Faults plan turns (fault.Unfinished outcome) = IsSound plan × KeepsPlan plan turns outcome × (IsComplete plan outcome → ⊥)
Faults plan turns (fault.Memory outcome) = IsSound plan × KeepsPlan plan turns outcome × (IsComplete plan outcome → ⊥)
Faults plan turns fault.Start = IsSound plan
Faults plan turns fault.Plan = IsSound plan → ⊥
