-- What is read off a plan's bytes for a task, past the bytes of the tasks before it, is the processor and the start that were written.
use Rattle.std.specs.Prelude.{◌≡◌}
use Rattle.std.proofs.Math.Path.{ap, sym}
use Rattle.std.proofs.Common.{◌∙◌, zero-add, get_or-drop}
use mathlib.Core.List.{List, ◌++◌, flat_map, append_assoc}
use Prim.Native.Nat.{ℕ, zero, suc, ◌+◌, ◌*◌, ◌-◌, ◌^◌, ◌<◌}
use Rattle.std.proofs.Math.Nat.{add-zero}
use native.Mathlib.Omega.{arith}
use Rattle.std.proofs.Math.ListN.{length, get_or, take, drop}
use Rattle.std.proofs.Math.Seq.{take-append_seam, drop-append_seam, drop-drop}
use Rattle.base.specs.Number.{number, bytes}
use Rattle.base.specs.Lists.{values}
use Rattle.base.specs.Laws.Number.{length_bytes, number_bytes}
use Rattle.base.specs.Laws.Values.{upto-values}
use Rattle.kelvrist.specs.PlanBytes.{task_bytes, plan_bytes, processor_in, start_in}
use Rattle.kelvrist.specs.Laws.Encoded.{task_size}

module _ (g : ℕ → List ℕ) (five : (T : ℕ) → length (g T) ≡ 5) (rest : List ℕ) where
  -- from task i on: the bytes after those of T tasks
  after : (i T k : ℕ)
      → drop (5 * T) (flat_map g (values (λ x. x) i (T + suc k)) ++ rest)
      ≡ g (i + T) ++ (flat_map g (values (λ x. x) (suc (i + T)) k) ++ rest)
  unfolding values flat_map
  after i zero k = rw (zero-add (suc k), add-zero i) (append_assoc (g i) (flat_map g (values (λ x. x) (suc i) k)) rest)
  after i (suc T) k =
      let n : suc T + suc k ≡ suc (T + suc k) = omega arith in
      let e : 5 * suc T ≡ length (g i) + 5 * T = omega (arith, five i) in
      let s : suc i + T ≡ i + suc T = omega arith in
      rw (n, e, append_assoc (g i) (flat_map g (values (λ x. x) (suc i) (T + suc k))) rest, ← drop-drop (5 * T) (length (g i)))
      (ap (drop (5 * T)) (drop-append_seam (g i) (flat_map g (values (λ x. x) (suc i) (T + suc k)) ++ rest))
      ∙ (after (suc i) T k ∙ rw s))

module _ (m : ℕ) (processor start : ℕ → ℕ) (rest : List ℕ) where
  abbrev plan : List ℕ
  plan = plan_bytes m processor start ++ rest

  abbrev task : ℕ → List ℕ
  task T = task_bytes (processor T) (start T)

  -- what stands from task T on: its bytes, and those of the tasks after it
  abbrev later : ℕ → List ℕ
  later T = flat_map task (values (λ x. x) (suc T) (m - suc T)) ++ rest

  at_task : (T : ℕ) → T < m → drop (5 * T) plan ≡ task T ++ later T
  unfolding plan_bytes
  at_task T h =
      let e : m ≡ T + suc (m - suc T) = omega arith in
      ap (λ (l : List ℕ). drop (5 * T) (flat_map task l ++ rest)) (upto-values m ∙ ap (values (λ x. x) 0) e)
      ∙ (after task (λ U. task_size (processor U) (start U)) rest 0 T (m - suc T) ∙ rw (zero-add T))

  pub processor_back : (T : ℕ) → T < m → processor_in plan T ≡ processor T
  unfolding processor_in task_bytes
  processor_back T h =
      let s = at_task T h in
      ap (λ (n : ℕ). get_or plan n 0) (sym (add-zero (5 * T))) ∙ (sym (get_or-drop (5 * T) plan 0 0) ∙ ap (λ (l : List ℕ). get_or l 0 0) s)

  pub start_back : (T : ℕ) → T < m → start T < 2 ^ 32 → start_in plan T ≡ start T
  unfolding start_in task_bytes
  start_back T h b =
      let s = at_task T h in
      let d : drop (5 * T + 1) plan ≡ bytes 4 (start T) ++ later T = sym (drop-drop 1 (5 * T) plan) ∙ ap (drop 1) s in
      ap number
      (ap (take 4) d
      ∙ (ap (λ (n : ℕ). take n (bytes 4 (start T) ++ later T)) (sym (length_bytes 4 (start T)))
      ∙ take-append_seam (bytes 4 (start T)) (later T)))
      ∙ number_bytes 4 (start T) (omega arith)
