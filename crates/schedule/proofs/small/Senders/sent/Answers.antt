-- `Senders::sent`: each array is read at the place that `Known` speaks of.
use mathlib.Core.Path.{◌≡◌}
use mathlib.Core.List.{List, []}
use Prim.Native.Nat.{ℕ, ◌+◌, ◌<◌}
use lib.ListN.{get_or}
use Rattle.schedule.specs.SmallPass.{Known}
use Rattle.schedule.proofs.small.Senders.sent.Goals as goal

module _ (from counts : List ℕ) (costs : List (List ℕ)) (processors scratch : List ℕ) (k : ℕ)
    (K : Known from counts costs processors scratch k) (s p : ℕ) (e : s ≡ get_or from k 0) (d : p ≡ get_or processors s 0) where
  -- the processor of the sender
  there : p ≡ get_or processors (get_or from k 0) 0
  there = rw (d, e)

  below : p < 16
  below = rw there K.on_processor

  -- its finish, and its row of costs
  finish_there : get_or scratch (256 + s) 0 ≡ get_or scratch (256 + get_or from k 0) 0
  finish_there = rw e

  row_there : get_or costs p [] ≡ get_or costs (get_or processors (get_or from k 0) 0) []
  row_there = rw there

pub bounds-instance-p : goal.bounds-instance-p
bounds-instance-p c =
    below _ _ _ _ _ _ c.requires _ _ c.from-s.ensures c.from-p.ensures

pub returns : goal.returns
returns c =
    let K = c.requires in
    let e = c.from-s.ensures in
    let d = c.from-p.ensures in
    record {
      finish_value = finish_there _ _ _ _ _ _ K _ _ e d;
      messages_value = c.from.ensures;
      row_value = row_there _ _ _ _ _ _ K _ _ e d;
    }
