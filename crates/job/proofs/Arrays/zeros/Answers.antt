-- `zeros`: the arrays are as many zeros as the definition says.
use mathlib.Core.Path.{refl}
use Rattle.base.specs.Lists.{values}
use Rattle.job.specs.Job.{blank, wire_cost, result_count}
use Rattle.job.specs.Read.{arrays_of, padded, wire_array, result_array}
use Rattle.job.proofs.Arrays.zeros.Goals as goal

pub returns : goal.returns
unfolding arrays_of padded wire_array wire_cost result_array result_count values blank
returns c =
    refl
