use Rattle.mv_words.proofs.Names.{clap_on_literals, refl}
use Rattle.mv_words.proofs.laws.commands_named.Goals as goal

-- the command line takes these words, and names what they ask for
pub returns : goal.returns
unfolding clap_on_literals
returns c = record {
  steps = λ program. (refl, _, _, refl, (refl, refl));
  strict = λ program. (refl, _, _, refl, (refl, refl));
  trail = λ program. (refl, _, _, refl, refl);
  show = λ program. (refl, _, _, refl, refl);
  canon = λ program. (refl, _, _, refl, (refl, refl));
  check = λ program. (refl, _, _, refl, (refl, refl));
}
