-- `record::number2`: the bytes at the place are those that the definition takes.
use mathlib.Core.Path.{ap, sym, ◌∙◌}
use Rattle.base.specs.Number.{number}
use Rattle.base.specs.Laws.Number.{two_at}
use Rattle.job.proofs.record.number2.Goals as goal

pub returns : goal.returns
returns c =
    c.number2.ensures ∙ ap number (sym (two_at c.args.file.now c.args.at c.requires))
