-- The stamps in the logs of a state, and the agreement of its repositories, which rests on them.
use Rattle.std.specs.Prelude.{◌<◌, ℕ, length}
use Rattle.mv_pack.specs.declared.key.PackKey.{PackKey}
use Rattle.mv_repository.specs.Agreement.{HasDistinctStamps, HaveSameAbout, AgreeOn}
use Rattle.mv_machine.specs.State.{State, log_of}

-- in no log does a stamp stand twice
abbrev pub StampsAreDistinct : State → Type 0
StampsAreDistinct st = (party : ℕ) → party < length st.hub.parties → HasDistinctStamps (log_of st party)

-- two repositories whose logs have the same messages about a pack, in whatever order these came, agree on it: on its state,
-- the recall of its batch, the withdrawal of its product, and the verdict
abbrev pub RepositoriesAgree : State → Type 0
RepositoriesAgree st = (pack : PackKey) (one other : ℕ) → one < length st.hub.parties → other < length st.hub.parties
    → HaveSameAbout pack (log_of st one) (log_of st other) → AgreeOn pack (log_of st one) (log_of st other)
