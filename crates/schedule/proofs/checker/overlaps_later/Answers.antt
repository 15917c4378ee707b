-- `checker::overlaps_later`: an overlap was counted, or the later tasks that are left have one, exactly if all of them have.
use mathlib.Core.Path.{◌≡◌, refl, ap, sym, ◌∙◌}
use mathlib.Core.Bool.{Bool, true, false, not, ◌||◌}
use mathlib.Core.List.{List}
use Prim.Native.Nat.{ℕ, ◌+◌, ◌-◌, ◌≤◌, ◌<◌}
use native.Mathlib.Numerals.{add-one}
use native.Mathlib.Omega.{arith}
use borrow.Author.Tests.{lt-ltb, le-ltb, eq-eqb, ne_eqb}
use lib.Dec.{eqb}
use lib.ListN.{get_or}
use Rattle.schedule.specs.Pass.{some_in_places, overlap_at, overlaps_later}
use Rattle.schedule.specs.Laws.Rows.SomeIn.{none_left, met, passed}
use Rattle.schedule.proofs.checker.overlaps_later.Invariants.{Going}
use Rattle.schedule.proofs.checker.overlaps_later.Goals as goal
use Rattle.schedule.proofs.checker.overlaps_later.Goals.{else-table-u, then-table-u+else-other-finish}
use Rattle.schedule.proofs.checker.overlaps_later.Goals.{then-table-u+then-other-finish+else-start-end}
use Rattle.schedule.proofs.checker.overlaps_later.Goals.{then-table-u+then-other-finish+then-start-end}

-- the test of tasks t and u, by the three tests of the code
module _ (durations starts processors : List ℕ) (t u : ℕ) where
  abbrev finish : ℕ → ℕ
  finish T = get_or starts T 0 + get_or durations T 0

  overlaps : get_or processors u 0 ≡ get_or processors t 0 → get_or starts u 0 < finish t → get_or starts t 0 < finish u
      → overlap_at durations starts processors t u ≡ true
  unfolding overlap_at
  overlaps a b d = rw (eq-eqb _ _ a, lt-ltb _ _ b, lt-ltb _ _ d)

  finishes_before : get_or processors u 0 ≡ get_or processors t 0 → get_or starts u 0 < finish t → finish u ≤ get_or starts t 0
      → overlap_at durations starts processors t u ≡ false
  unfolding overlap_at
  finishes_before a b d = rw (eq-eqb _ _ a, lt-ltb _ _ b, le-ltb _ _ d)

  starts_after : get_or processors u 0 ≡ get_or processors t 0 → finish t ≤ get_or starts u 0 → overlap_at durations starts processors
      t u ≡ false
  unfolding overlap_at
  starts_after a b = rw (eq-eqb _ _ a, le-ltb _ _ b)

  elsewhere : ¬ (get_or processors u 0 ≡ get_or processors t 0) → overlap_at durations starts processors t u ≡ false
  unfolding overlap_at
  elsewhere a = rw (ne_eqb _ _ a)

begun : (durations starts processors : List ℕ) (m t : ℕ) → t < m → Going durations starts processors m t 0 (t + 1)
unfolding overlaps_later
begun durations starts processors m t h =
    record { past = omega arith; within = omega arith; few = omega arith; counted = rw (add-one t) }

module _ {durations starts processors : List ℕ} {m t found u : ℕ} (g : Going durations starts processors m t found u) where
  abbrev over : ℕ → Bool
  over = overlap_at durations starts processors t

  -- what is left by a turn, or after the last
  left : {b : Bool} → some_in_places over u (m - u) ≡ b → (not (eqb found 0) || b) ≡ overlaps_later durations starts processors m t
  left e = ap (λ (b : Bool). not (eqb found 0) || b) (sym e) ∙ g.counted

  one_more : {found' : ℕ} → found' ≡ found + 1 → u < m → over u ≡ true → Going durations starts processors m t found' (u + 1)
  one_more {found' = found'} e h o = record {
    past = omega (arith, g.past);
    within = omega arith;
    few = omega (arith, g.few);
    counted = rw (ne_eqb found' 0 (λ z. absurd (omega arith))) (sym (all_true (not (eqb found 0))) ∙ left (met over u m h o));
  }
    where
      all_true : (b : Bool) → (b || true) ≡ true
      all_true true = refl
      all_true false = refl

  no_more : {found' : ℕ} → found' ≡ found → u < m → over u ≡ false → Going durations starts processors m t found' (u + 1)
  no_more e h o = record {
    past = omega (arith, g.past);
    within = omega arith;
    few = omega (arith, g.few);
    counted = rw e (left (passed over u m h o));
  }

  all_counted : m ≤ u → not (eqb found 0) ≡ overlaps_later durations starts processors m t
  all_counted h = sym (with_false (not (eqb found 0))) ∙ left (none_left over u m h)
    where
      with_false : (b : Bool) → (b || false) ≡ b
      with_false true = refl
      with_false false = refl

pub loop-u-init : goal.loop-u-init
loop-u-init c = begun _ _ _ _ _ c.requires

pub loop-u-preserved : goal.loop-u-preserved
loop-u-preserved c =
    let going = c.loop-u.invariant in
    let more = c.loop-u-test.true in
    let here = c.finish-finish.ensures in
    let there = c.finish-end.ensures in
    (elim c.if-table-u.branch [
      | then-table-u+then-other-finish+then-start-end w ↦
          one_more going w.found-is more
          (overlaps _ _ _ _ _ w.if-table-u.true (omega (arith, w.if-other-finish.true, here)) (omega (arith, w.if-start-end.true, there)))
      | then-table-u+then-other-finish+else-start-end w ↦
          no_more going w.found-is more
          (finishes_before _ _ _ _ _ w.if-table-u.true (omega (arith, w.if-other-finish.true, here))
          (omega (arith, w.if-start-end.false, there)))
      | then-table-u+else-other-finish w ↦
          no_more going w.found-is more (starts_after _ _ _ _ _ w.if-table-u.true (omega (arith, w.if-other-finish.false, here)))
      | else-table-u w ↦ no_more going w.found-is more (elsewhere _ _ _ _ _ w.if-table-u.false)
    ])

pub returns : goal.returns
returns c =
    all_counted c.loop-u.invariant c.loop-u-test.false
