-- `fill`: before a place has its turn the places before it hold the byte.
use Rattle.std.proofs.Common.{◌≡◌, ◌++◌, replicate, drop}
use Rattle.gantt.proofs.fill.Given as goal

abbrev pub invariant-loop-place : goal.invariant-loop-place
invariant-loop-place l = l.place-items ≡ replicate l.place-index l.byte ++ drop l.place-index l.initial.place-items
