-- `lines`: the lines put so far are those of the first tasks.
use Prim.Native.Nat.{◌+◌, ◌*◌, ◌≤◌}
use lib.ListN.{get_or}
use Rattle.base.specs.Slices.{Put}
use Rattle.listing.specs.Listing.{task_lines}
use Rattle.listing.proofs.lines.Given as goal

abbrev pub invariant-loop-t : goal.invariant-loop-t
invariant-loop-t l = record {
  short : l.place ≤ l.at + 44 * l.t;
  put : Put l.initial.out l.out l.at l.place
      (task_lines l.t (λ T. get_or l.processors T 0) (λ T. get_or l.starts T 0) (λ T. get_or l.durations T 0));
}
