-- `lay_small` refuses where a slice is too short, and else leaves what `small::run` leaves, and a cleared scratch.
use Prim.Native.Nat.{◌≤◌}
use native.Mathlib.Omega.{arith}
use lib.ListN.{length}
use Rattle.base.specs.Laws.Filled.{filled_within}
use Rattle.schedule.specs.Handed.{plannable}
use Rattle.schedule.specs.Laws.Calls.{long_enough}
use Rattle.schedule.specs.Laws.SmallCalls.{small_room, small_short, small_end}
use Rattle.schedule.proofs.lay_small.Goals as goal

pub returns-then-too_short : goal.returns-then-too_short
returns-then-too_short c =
    small_short (plannable c.args.instance.now) _ _ _ _ c.too_short.ensures c.if-too_short.true (omega arith)

pub run-last-requires : goal.run-last-requires
run-last-requires c =
    let fits = long_enough c.too_short.ensures c.if-too_short.false in
    let scratch = c.args.scratch.now in
    let wide : 512 ≤ length scratch = omega (arith, fits.2) in
    small_room scratch (fits.0, fits.1, wide) (filled_within (λ x. 0) 512 scratch wide c.clear.ensures)

pub returns : goal.returns
returns c =
    let fits = long_enough c.too_short.ensures c.if-too_short.false in
    let scratch = c.args.scratch.now in
    let wide : 512 ≤ length scratch = omega (arith, fits.2) in
    small_end (plannable c.args.instance.now) _ _ _ _ c.too_short.ensures c.if-too_short.false (omega arith)
    (filled_within (λ x. 0) 512 scratch wide c.clear.ensures)
    c.run-last.auto.scratch c.run-last.ensures _ c.clear-2.ensures (omega arith)
