-- `record::number4`: the bytes at the place are those that the definition takes.
use mathlib.Core.Path.{ap, sym, ◌∙◌}
use Rattle.base.specs.Number.{number}
use Rattle.base.specs.Laws.Number.{four_at}
use Rattle.job.proofs.record.number4.Goals as goal

pub returns : goal.returns
returns c =
    c.number4.ensures ∙ ap number (sym (four_at c.args.file.now c.args.at c.requires))
