-- `least::least`: the sums begin with what no walk passes, each edge lowers them, and the least of the last tasks' is the least cover
-- (Laws/Walk/LeastFound).
use Rattle.schedule.specs.Laws.Walk.ShortTicks.{scheduled}
use Rattle.schedule.specs.Laws.Walk.LeastFound.{few_bits, between, least_is}
use Rattle.schedule.proofs.least.least.Goals as goal

pub along_edges-requires : goal.along_edges-requires
along_edges-requires c =
    let F = c.requires.planned.1.plannable in
    let S = scheduled F c.requires.planned.1.plan in
    let R = c.requires.short_ticks in
    record {
      few_bits = λ T b. few_bits F S R T;
      between = between F S R c.requires.most_value c.nearest.ensures;
      unwalked = c.unwalked.ensures;
    }

pub returns : goal.returns
returns c order H = least_is H.plannable H.plan c.requires.short_ticks c.along_edges.ensures c.of_last.ensures
