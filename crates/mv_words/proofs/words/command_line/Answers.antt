use Rattle.mv_words.proofs.Names.{ap₂, refl, ◌∙◌}
use Rattle.std.proofs.lemmas.Result.{IfOk-weaker}
use Rattle.clap.specs.Words.{with_subcommand}
use Rattle.mv_words.proofs.words.command_line.Goals as goal

-- one subcommand after another was added
pub returns : goal.returns
returns c =
    let steps = c.in_ok-line.ensures _ c.flag.ensures.rule ∙ ap₂ with_subcommand c.program-line.ensures refl in
    let trail = c.in_ok-line-2.ensures.shape c.told.ensures.local ∙ ap₂ with_subcommand steps c.told.ensures.shape in
    let show = c.in_ok-line-3.ensures.shape c.told-2.ensures.local ∙ ap₂ with_subcommand trail c.told-2.ensures.shape in
    let canon = c.in_ok-line-4.ensures _ c.flag-2.ensures.rule ∙ ap₂ with_subcommand show refl in
    let work = c.in_ok-line-5.ensures _ c.turns.ensures.rule ∙ ap₂ with_subcommand canon refl in
    IfOk-weaker c.with_taking-4.result _ _ (λ line adds. adds ∙ ap₂ with_subcommand work refl) (c.with_taking-4.ensures _ c.codes.ensures.rule)
