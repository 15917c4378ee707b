-- `measure` answers the cover and the least cover that the walks over the short ticks find, and the dearest chain.
use Rattle.std.proofs.Common.{sym, ◌∙◌}
use Rattle.base.specs.Laws.Lists.{zeros_at}
use Rattle.schedule.specs.Laws.Held.{same_dearest}
use Rattle.schedule.specs.Laws.Walk.ShortTicks.{scheduled, places}
use Rattle.schedule.specs.Laws.Calls.{measured}
use Rattle.schedule.proofs.measure.Goals as goal

pub invariant_of-table : goal.invariant_of-table
invariant_of-table c =
    let H = c.requires.1 in record { in_place = places H.plannable H.plan }

pub short_ticks-requires : goal.short_ticks-requires
short_ticks-requires c =
    let H = c.requires.1 in record { apart = (scheduled H.plannable H.plan).apart; none_idle = zeros_at 256 }

pub returns : goal.returns
returns c order H =
    measured _ (c.cover-cover.ensures order H) (c.least-least.ensures order H) (c.dearest-dearest.ensures ∙ sym (same_dearest _ order))
