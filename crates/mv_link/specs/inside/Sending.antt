-- What the sending end of a link is seen as.
use Rattle.std.specs.Prelude.{◌≡◌, ◌-◌, ◌≤◌, min, length}
use Rattle.mv_link.specs.Sending.{IsWindow, Sending}

-- what every sending end keeps: the last items, those not yet relayed among them
pub record IsSending (sending : Sending) : Type 0 where
  pub window : IsWindow sending.window
  pub held : length sending.held ≡ min sending.window sending.total
  pub pushed : sending.sent ≤ sending.total
  pub waiting : sending.total - sending.sent ≤ sending.window
