-- The messages of an edge, as code reads them: the task that they come from, its processor, their number, and what they take to a
-- processor.
use Rattle.std.specs.Prelude.{◌≡◌, ℕ, ◌+◌, ◌*◌, get_or}
use Rattle.etf.specs.Topology.{entry}
use Rattle.schedule.specs.declared.timetable.Timetable.{Timetable}
use Rattle.schedule.specs.Pass.{finish_in, message_at, reach_at, time_to, there_at}

-- what is read of edge k: the task s that it comes from, its processor p, and how many messages there are
module _ (x : Timetable) (k : ℕ) {s p w : ℕ} (s-is : s ≡ get_or x.instance.from.now k 0) (p-is : p ≡ get_or x.plan.processors.now s 0)
    (w-is : w ≡ get_or x.instance.counts.now k 0) where
  pub time_is : (P : ℕ) → w * entry x.instance.costs.now p P ≡ time_to x P k
  unfolding message_at
  time_is P = rw (p-is, s-is, w-is)

  pub arrival_is : (P : ℕ) → finish_in x s + w * entry x.instance.costs.now p P ≡ there_at x P k
  unfolding reach_at
  arrival_is P = rw (time_is P, s-is)
