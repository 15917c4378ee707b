-- `small::is_late`: the loop keeps that each free processor before place i has the messages at `start` or later.
use mathlib.Core.List.{List}
use Prim.Native.Nat.{ℕ, ◌+◌, ◌*◌, ◌≤◌, ◌<◌}
use lib.ListN.{get_or}
use Rattle.schedule.proofs.small.is_late.Given as goal

-- the messages are at each of the first i free processors at `start` or later
pub record Late (start finish messages : ℕ) (row free : List ℕ) (i : ℕ) : Type 0 where
  pub late : (j : ℕ) → j < i → start ≤ finish + messages * get_or row (get_or free j 0) 0

abbrev pub invariant-loop-p : goal.invariant-loop-p
invariant-loop-p l = Late l.start l.bundle.finish l.bundle.messages l.bundle.row l.free l.p-index
