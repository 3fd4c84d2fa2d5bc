use Rattle.mv_format.proofs.Words.{arith, refl, Message, Number, Text}
use Rattle.mv_format.proofs.LineFieldsLemmas.{part_put, text_taken}
use Rattle.mv_format.proofs.token_line.takes_field.Goals as goal

pub returns-in-Do : goal.returns-in-Do
returns-in-Do c = rw c.in-Do.is (λ put.
    let text = text_taken (λ text. text.now) _ _ _ c.take_text.ensures.text in
    part_put (λ text. Text text.now) _ _ _ refl refl (c.puts.ensures put) text (λ other. grind arith))

pub returns-in-From : goal.returns-in-From
returns-in-From c =
    rw c.in-From.is (λ put. part_put Number _ _ _ refl refl (c.puts-in-From.ensures put) c.take_number.ensures (λ other. grind arith))

pub returns-in-Gtin : goal.returns-in-Gtin
returns-in-Gtin c = rw c.in-Gtin.is (λ put.
    let text = text_taken (λ text. text.now) _ _ _ c.take_text-in-Gtin.ensures.text in
    part_put (λ text. Text text.now) _ _ _ refl refl (c.puts-in-Gtin.ensures put) text (λ other. grind arith))

pub returns-in-Message : goal.returns-in-Message
returns-in-Message c =
    rw c.in-Message.is (λ put. part_put Message _ _ _ refl refl (c.puts-in-Message.ensures put) c.take_shared.ensures (λ other. grind arith))

pub returns-in-Number : goal.returns-in-Number
returns-in-Number c =
    rw c.in-Number.is (λ put. part_put Number _ _ _ refl refl (c.puts-in-Number.ensures put) c.take_number-in-Number.ensures (λ other. grind arith))

pub returns-in-Party : goal.returns-in-Party
returns-in-Party c =
    rw c.in-Party.is (λ put. part_put Number _ _ _ refl refl (c.puts-in-Party.ensures put) c.take_number-in-Party.ensures (λ other. grind arith))

pub returns-in-Q : goal.returns-in-Q
returns-in-Q c =
    rw c.in-Q.is (λ put. part_put Number _ _ _ refl refl (c.puts-in-Q.ensures put) c.take_number-in-Q.ensures (λ other. grind arith))

pub returns-in-Serial : goal.returns-in-Serial
returns-in-Serial c = rw c.in-Serial.is (λ put.
    let text = text_taken (λ text. text.now) _ _ _ c.take_text-in-Serial.ensures.text in
    part_put (λ text. Text text.now) _ _ _ refl refl (c.puts-in-Serial.ensures put) text (λ other. grind arith))

pub returns-in-To : goal.returns-in-To
returns-in-To c =
    rw c.in-To.is (λ put. part_put Number _ _ _ refl refl (c.puts-in-To.ensures put) c.take_number-in-To.ensures (λ other. grind arith))
