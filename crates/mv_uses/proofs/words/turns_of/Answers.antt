use Rattle.std.proofs.Common.{map, string_bytes, subst, sym}
use Rattle.mv_words.specs.Words.{AreMistaken, AsksFor}
use Rattle.mv_words.specs.declared.task.Task.TheVariants.{Work}
use Rattle.mv_uses.proofs.words.turns_of.Goals as goal

pub returns-in-Ok-Some-Work-clause-given : goal.returns-in-Ok-Some-Work-clause-given
returns-in-Ok-Some-Work-clause-given c program text option turns writes gives same =
    let asks : AsksFor (Work turns) (map string_bytes c.args.words.now) =
    subst (AsksFor (Work turns)) (sym same) (c.work_named.ensures program text option turns writes gives)
    in
    let found = c.in-Ok-Some-Work.ensures.task (Work turns) asks in cc

pub returns-in-Ok-Some-Work-clause-mistaken : goal.returns-in-Ok-Some-Work-clause-mistaken
returns-in-Ok-Some-Work-clause-mistaken c program digits option numeral gives same =
    let mistaken : AreMistaken (map string_bytes c.args.words.now) =
    subst AreMistaken (sym same) (c.minus_is_mistaken.ensures program digits option numeral gives)
    in absurd (mistaken.0 c.in-Ok-Some-Work.ensures.taken)
