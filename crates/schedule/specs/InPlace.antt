-- What stands beside a schedule of an instance that is handed on. A reader of the public contracts needs nothing of this file.
use Rattle.std.specs.Prelude.{List, ℕ, ◌+◌, ◌≤◌, ◌<◌, length, get_or}
use Rattle.job.specs.Limits.{most_duration}
use Rattle.etf.specs.Checker.{latest_start}

-- each of m tasks has its place: a start and a processor, which is one of n, and it finishes no later than a task can that starts in time
pub record EachInPlace (m n : ℕ) (durations starts processors : List ℕ) : Type 0 where
  pub has_starts : m ≤ length starts
  pub has_processors : m ≤ length processors
  pub on_processor : (T : ℕ) → T < m → get_or processors T 0 < n
  pub in_time : (T : ℕ) → T < m → get_or starts T 0 + get_or durations T 0 ≤ latest_start + most_duration
