-- What lines plan: a plan, once a line has opened it, or the refusal of the first line that is refused.
use Rattle.std.specs.Prelude.{ℕ, List, length, nat_lt, codes, string_bytes, if◌then◌else◌, Option, Some, None, Result, Ok, Err}
use Rattle.serde_json.specs.Data.{Data}
use Rattle.serde_json.specs.Written.{compact_text}
use Rattle.mv_message.specs.declared.message.Message.TheVariants.{Query}
use Rattle.mv_message.specs.Kinds.{is_query_or_answer}
use Rattle.mv_hub.specs.Parties.{parties_of}
use Rattle.mv_machine.specs.Limits.{Bounds, limits_of}
use Rattle.mv_machine.specs.declared.reply.Refusal.TheVariants.{Party, NotYours}
use Rattle.mv_machine.specs.declared.step.Step.{Step}
use Rattle.mv_machine.specs.declared.step.Step.TheVariants.{Submit, Verify}
use Rattle.mv_format.specs.declared.open_fault.OpenFault.{OpenFault}
use Rattle.mv_format.specs.declared.open_fault.OpenFault.TheVariants.{NotOpen, AlreadyOpen, Parties, Limits}
use Rattle.mv_plan.specs.declared.planned.Planned.{Planned as HeldPlan}
use Rattle.mv_plan.specs.declared.planned.Planned.TheVariants as held
use Rattle.mv_format.specs.declared.request.Request.{Request}
use Rattle.mv_format.specs.declared.request.Request.TheVariants as requests
use Rattle.mv_plan.specs.Drafts.{Parts, new_parts, with_message}
use Rattle.mv_format.specs.Openings.{◌and_then◌, map_err, code_of}
use Rattle.mv_format.specs.ReplyLines.{refused, line_fault_value, refusal_value}
use Rattle.mv_format.specs.Requests.{read_line}

-- what some lines plan: nothing yet, a plan, or the text of a refusal
abbrev pub Planned : Type 0
Planned = Result (Option Parts) (List ℕ)

-- what is kept of a plan
abbrev pub planned_of : HeldPlan → Planned
planned_of held.Nothing = Ok None
planned_of (held.Plan plan) = Ok (Some plan)
planned_of (held.Refused text) = Err (string_bytes text)

-- a line is refused by this value
abbrev pub refuses : Data → Planned
refuses value = Err (compact_text value)

-- the plan that an opening begins: no party has anything to submit
abbrev pub begins : Result (List (List (List ℕ))) OpenFault → Result Bounds OpenFault → Planned
begins (Err fault) limits = refuses (refused (code_of fault))
begins (Ok parties) (Err fault) = refuses (refused (code_of fault))
begins (Ok parties) (Ok limits) = Ok (Some (new_parts parties limits))

-- The plan behind a step: a submission is planned (S1, S2), and a verifying as a query (S1). Others are none of a plan (C3).
abbrev pub plan_step : Parts → Step → Planned
plan_step plan (Submit from message) =
    if nat_lt from (length plan.parties)
    then (if is_query_or_answer message then refuses (refusal_value NotYours) else Ok (Some (with_message plan from message)))
    else refuses (refusal_value Party)
plan_step plan (Verify party key) =
    if nat_lt party (length plan.parties) then Ok (Some (with_message plan party (Query key))) else refuses (refusal_value Party)
plan_step plan step = refuses (refused (codes "C3"))

-- the plan behind what a line asks: C1, C2
abbrev pub plan_request : Option Parts → Request → Planned
plan_request None (requests.Open parties submissions uplink window wire) =
    begins (map_err Parties (parties_of parties)) (map_err Limits (limits_of window wire uplink submissions))
plan_request None (requests.Step step) = refuses (refused (code_of NotOpen))
plan_request (Some plan) (requests.Open parties submissions uplink window wire) = refuses (refused (code_of AlreadyOpen))
plan_request (Some plan) (requests.Step step) = plan_step plan step

-- the plan behind a line, or the text of the refusal of what reading it gave; behind a line that is refused nothing changes
abbrev pub plan_line : Planned → List ℕ → Planned
plan_line planned line =
    planned and_then λ plan. map_err (λ fault. compact_text (line_fault_value fault)) (read_line line) and_then plan_request plan
