-- `emit::Judged::put_results`: the results put so far are those of the first tasks, and there is room for all.
use Rattle.std.proofs.Common.{◌≡◌, ℕ, ◌+◌, ◌≤◌, ◌<◌, refl, ap, ◌∙◌, arith, length, get_or, length-append, get_or-take}
use Rattle.std.proofs.lemmas.List.{length-take}
use mathlib.Core.List.{List, ◌++◌, flat_map, append-nil}
use Rattle.base.specs.Slices.{Put}
use Rattle.base.specs.Laws.Put.{put_none, put_then}
use Rattle.base.specs.Laws.Stored.{flat_append, flat_size}
use Rattle.job.specs.Write.{result_bytes, results_held, held_job}
use Rattle.job.specs.Pass.{result_of}
use Rattle.job.specs.Laws.Lists.{empty_is, empty_nil}
use Rattle.job.specs.Laws.Results.{held_first, held_with, held_without, held_up}
use Rattle.job.specs.Laws.Sizes.{result_size}
use Rattle.job.proofs.emit.Judged.put_results.Invariants.{Delivering}
use Rattle.job.proofs.emit.Judged.put_results.Goals as goal
use Rattle.job.proofs.emit.Judged.put_results.Goals.{else-count-ne0, then-count-ne0}

none : (counts : List ℕ) (m many : ℕ) (out : List ℕ) (at : ℕ) → many ≡ length (results_held counts m) → many ≡ 0
    → Put out out at at (flat_map result_bytes (results_held counts m))
unfolding flat_map
none counts m many out at e z = rw (empty_nil (results_held counts m) (empty_is (results_held counts m) (omega arith))) (put_none out at)

begin : (counts : List ℕ) (m : ℕ) (out : List ℕ) (start : ℕ)
    → start + length (flat_map result_bytes (results_held counts m)) ≤ length out → Delivering counts m out out start start 0
unfolding flat_map
begin counts m out start room = record { long = refl; room = room; put = rw (held_first counts) (put_none out start) }

module _ (counts : List ℕ) (m : ℕ) (out₀ out : List ℕ) (start at t : ℕ) (g : Delivering counts m out₀ out start at t) where
  done : m ≤ t → t ≤ m → Put out₀ out start at (flat_map result_bytes (results_held counts m))
  done h k = let e : t ≡ m = omega arith in rw e at g.put

  past : (out' : List ℕ) (at' : ℕ) → out' ≡ out → at' ≡ at → get_or counts t 0 ≡ 0 → Delivering counts m out₀ out' start at' (t + 1)
  past out' at' out-is at_is z = record {
    long = rw out-is g.long;
    room = g.room;
    put = rw (out-is, at_is, held_without counts t z) g.put;
  }

  module _ (h : t < m) (d : get_or counts t 0 ≡ 0 → ⊥) where
    abbrev next : List ℕ
    next = result_bytes (result_of t (get_or counts t 0))

    one_more : flat_map result_bytes (results_held counts (t + 1)) ≡ flat_map result_bytes (results_held counts t) ++ next
    unfolding flat_map
    one_more =
        rw (held_with counts t d, flat_append)
        (ap (λ (l : List ℕ). flat_map result_bytes (results_held counts t) ++ l) (append-nil next))

    fits : at + 4 ≤ length out
    fits = omega (
      arith,
      g.put.past,
      g.room,
      g.long,
      ap length one_more,
      length-append (flat_map result_bytes (results_held counts t)) next,
      result_size (result_of t (get_or counts t 0)),
      held_up counts (t + 1) m (omega arith),
      flat_size result_bytes 4 result_size (results_held counts (t + 1)),
      flat_size result_bytes 4 result_size (results_held counts m),
    )

    turn : (out' : List ℕ) (at' : ℕ) (o : List ℕ) (n : ℕ) → out' ≡ o → at' ≡ n → length o ≡ length out → Put out o at n next
        → Delivering counts m out₀ out' start at' (t + 1)
    turn out' at' o n out-is at_is same q = record {
      long = rw out-is (same ∙ g.long);
      room = g.room;
      put = rw (out-is, at_is, one_more) (put_then g.put q);
    }

pub returns-then-self-eq0 : goal.returns-then-self-eq0
unfolding held_job
returns-then-self-eq0 c = none _ _ _ _ _ c.args.self.now.counted c.if-self-eq0.true

pub loop-t-init : goal.loop-t-init
unfolding held_job
loop-t-init c = begin _ _ _ _ c.requires

pub put_result-at-requires : goal.put_result-at-requires
put_result-at-requires c =
    let h : c.loop-t.t < c.args.self.now.job.tasks = omega (arith, length-take {A = ℕ}) in (
      omega (arith, c.args.self.now.few_tasks),
      fits _ _ _ _ _ _ _ c.loop-t.invariant h (rw get_or-take at c.if-count-ne0.true),
    )

pub loop-t-preserved : goal.loop-t-preserved
loop-t-preserved c =
    let g = c.loop-t.invariant in
    let h : c.loop-t.t < c.args.self.now.job.tasks = omega (arith, length-take {A = ℕ}) in
    elim c.if-count-ne0.branch [
      | then-count-ne0 w ↦
          turn _ _ _ _ _ _ _ g h (rw get_or-take at w.if-count-ne0.true) _ _ _ _ w.out-is w.at-is w.put_result-at.auto.out
          (rw get_or-take at w.put_result-at.ensures)
      | else-count-ne0 w ↦ past _ _ _ _ _ _ _ g _ _ w.out-is w.at-is (rw get_or-take at w.if-count-ne0.false)
    ]

pub returns : goal.returns
unfolding held_job
returns c =
    done _ _ _ _ _ _ _ c.loop-t.invariant (omega (arith, c.loop-t-test.false)) (omega (arith, length-take {A = ℕ}))
