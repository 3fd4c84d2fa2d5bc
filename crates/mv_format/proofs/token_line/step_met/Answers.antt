use Rattle.mv_format.proofs.Words.{arith, refl, rules, [], ◌∷◌}
use Rattle.mv_format.proofs.LineFieldsLemmas.{message_told, number_told, request_read, gtin_told, serial_told, taken}
use Rattle.mv_format.specs.declared.field.LineField.TheVariants as fields
use Rattle.mv_format.proofs.token_line.step_met.Goals as goal

-- each kind by its fields
pub returns-in_ok-end-in-Submit : goal.returns-in_ok-end-in-Submit
returns-in_ok-end-in-Submit c = λ value has.
    request_read c.args.met.now c.in_ok-take.field-0.now c.in_ok-kind_called.field-0 _ (search rules) (search rules)
    (rw c.in-Submit.is (taken c.args.met.now _ (fields.Do ∷ fields.From ∷ fields.Message ∷ []) [] c.in_ok-end-in-Submit.ensures (λ field. grind arith))) value has
    (rw (c.in-Submit.is, number_told c.args.met.now fields.From c.in_ok-from-in-Submit.from (search rules) value has, message_told c.args.met.now c.in_ok-message-in-Submit.message (search rules) value has) refl)

pub returns-in_ok-end-in-Route : goal.returns-in_ok-end-in-Route
returns-in_ok-end-in-Route c = λ value has.
    request_read c.args.met.now c.in_ok-take.field-0.now c.in_ok-kind_called.field-0 _ (search rules) (search rules)
    (rw c.in-Route.is (taken c.args.met.now _ (fields.Do ∷ fields.From ∷ []) [] c.in_ok-end-in-Route.ensures (λ field. grind arith))) value has
    (rw (c.in-Route.is, number_told c.args.met.now fields.From c.in_ok-from-in-Route.from (search rules) value has) refl)

pub returns-in_ok-from-in-Relay : goal.returns-in_ok-from-in-Relay
returns-in_ok-from-in-Relay c = λ value has.
    request_read c.args.met.now c.in_ok-take.field-0.now c.in_ok-kind_called.field-0 _ (search rules) (search rules)
    (rw c.in-Relay.is (taken c.args.met.now _ (fields.Do ∷ []) (fields.From ∷ fields.To ∷ []) c.in_ok-from-in-Relay.ensures.2 (λ field. grind arith))) value has
    (rw (c.in-Relay.is, number_told c.args.met.now fields.From c.in_ok-from-in-Relay.from (search rules) value has, number_told c.args.met.now fields.To c.in_ok-from-in-Relay.to (search rules) value has) refl)

pub returns-in_ok-from-in-Apply : goal.returns-in_ok-from-in-Apply
returns-in_ok-from-in-Apply c = λ value has.
    request_read c.args.met.now c.in_ok-take.field-0.now c.in_ok-kind_called.field-0 _ (search rules) (search rules)
    (rw c.in-Apply.is (taken c.args.met.now _ (fields.Do ∷ []) (fields.From ∷ fields.To ∷ []) c.in_ok-from-in-Apply.ensures.2 (λ field. grind arith))) value has
    (rw (c.in-Apply.is, number_told c.args.met.now fields.From c.in_ok-from-in-Apply.from (search rules) value has, number_told c.args.met.now fields.To c.in_ok-from-in-Apply.to (search rules) value has) refl)

pub returns-in_ok-from-in-Close : goal.returns-in_ok-from-in-Close
returns-in_ok-from-in-Close c = λ value has.
    request_read c.args.met.now c.in_ok-take.field-0.now c.in_ok-kind_called.field-0 _ (search rules) (search rules)
    (rw c.in-Close.is (taken c.args.met.now _ (fields.Do ∷ []) (fields.From ∷ fields.To ∷ []) c.in_ok-from-in-Close.ensures.2 (λ field. grind arith))) value has
    (rw (c.in-Close.is, number_told c.args.met.now fields.From c.in_ok-from-in-Close.from (search rules) value has, number_told c.args.met.now fields.To c.in_ok-from-in-Close.to (search rules) value has) refl)

pub returns-in_ok-from-in-Lose : goal.returns-in_ok-from-in-Lose
returns-in_ok-from-in-Lose c = λ value has.
    request_read c.args.met.now c.in_ok-take.field-0.now c.in_ok-kind_called.field-0 _ (search rules) (search rules)
    (rw c.in-Lose.is (taken c.args.met.now _ (fields.Do ∷ []) (fields.From ∷ fields.To ∷ []) c.in_ok-from-in-Lose.ensures.2 (λ field. grind arith))) value has
    (rw (c.in-Lose.is, number_told c.args.met.now fields.From c.in_ok-from-in-Lose.from (search rules) value has, number_told c.args.met.now fields.To c.in_ok-from-in-Lose.to (search rules) value has) refl)

pub returns-in_ok-end-in-Repeat : goal.returns-in_ok-end-in-Repeat
returns-in_ok-end-in-Repeat c = λ value has.
    request_read c.args.met.now c.in_ok-take.field-0.now c.in_ok-kind_called.field-0 _ (search rules) (search rules)
    (rw c.in-Repeat.is (taken c.args.met.now _ (fields.Do ∷ fields.From ∷ fields.Number ∷ fields.To ∷ []) [] c.in_ok-end-in-Repeat.ensures (λ field. grind arith))) value has
    (rw (c.in-Repeat.is, number_told c.args.met.now fields.From c.in_ok-from-in-Repeat.from (search rules) value has, number_told c.args.met.now fields.Number c.in_ok-number-in-Repeat.number (search rules) value has, number_told c.args.met.now fields.To c.in_ok-to-in-Repeat.to (search rules) value has) refl)

pub returns-in_ok-end-in-Verdict : goal.returns-in_ok-end-in-Verdict
returns-in_ok-end-in-Verdict c = λ value has.
    request_read c.args.met.now c.in_ok-take.field-0.now c.in_ok-kind_called.field-0 _ (search rules) (search rules)
    (rw c.in-Verdict.is (taken c.args.met.now _ (fields.Do ∷ fields.Party ∷ fields.Q ∷ []) [] c.in_ok-end-in-Verdict.ensures (λ field. grind arith))) value has
    (rw (c.in-Verdict.is, number_told c.args.met.now fields.Party c.in_ok-party-in-Verdict.party (search rules) value has, number_told c.args.met.now fields.Q c.in_ok-q-in-Verdict.q (search rules) value has) refl)

pub returns-in_ok-verify_of-in-Verify : goal.returns-in_ok-verify_of-in-Verify
returns-in_ok-verify_of-in-Verify c = let (gtin, serial, reads, codes, is) = c.in_ok-verify_of-in-Verify.ensures in λ value has.
    request_read c.args.met.now c.in_ok-take.field-0.now c.in_ok-kind_called.field-0 _ (search rules) (search rules)
    (rw c.in-Verify.is (taken c.args.met.now _ (fields.Do ∷ fields.Gtin ∷ fields.Party ∷ fields.Serial ∷ []) [] c.in_ok-end-in-Verify.ensures (λ field. grind arith))) value has
    (rw (
      c.in-Verify.is,
      is,
      gtin_told c.args.met.now c.in_ok-gtin-in-Verify.gtin.now gtin (search rules) reads value has,
      number_told c.args.met.now fields.Party c.in_ok-party-in-Verify.party (search rules) value has,
      serial_told c.args.met.now c.in_ok-serial-in-Verify.serial.now serial (search rules) codes value has,
    ) refl)
