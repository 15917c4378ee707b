-- `small::is_late`: the loop keeps that each free processor before place i has the messages at `start` or later.
use mathlib.Core.Path.{◌≡◌, refl}
use mathlib.Core.Logic.{◌⊎◌, inl, inr}
use mathlib.Core.List.{List}
use Prim.Native.Nat.{ℕ, ◌+◌, ◌*◌, ◌≤◌, ◌<◌}
use native.Mathlib.Omega.{arith}
use borrow.Author.Rules.{rules}
use lib.ListN.{get_or}
use Rattle.base.specs.Laws.Tests.{lt_or_ge}
use Rattle.schedule.proofs.small.is_late.Invariants.{Late}
use Rattle.schedule.proofs.small.is_late.Goals as goal

module _ (start finish messages : ℕ) (row free : List ℕ) where
  begun : Late start finish messages row free 0
  begun = record { late = λ j h. absurd (omega arith) }

  turn : (i p : ℕ) → Late start finish messages row free i → p ≡ get_or free i 0 → start ≤ finish + messages * get_or row p 0
      → Late start finish messages row free (i + 1)
  turn i p v e h = record { late = λ j k. go j k (lt_or_ge j i) }
    where
      go : (j : ℕ) → j < i + 1 → (j < i) ⊎ (i ≤ j) → start ≤ finish + messages * get_or row (get_or free j 0) 0
      go j k (inl q) = v.late j q
      go j k (inr q) = let d : j ≡ i = omega arith in rw (d, ← e) h

  ended : (i count : ℕ) → Late start finish messages row free i → count ≤ i
      → (j : ℕ) → j < count → start ≤ finish + messages * get_or row (get_or free j 0) 0
  ended i count v h j k = v.late j (omega arith)

pub loop-p-init : goal.loop-p-init
loop-p-init c =
    begun _ _ _ _ _

pub offset_bounds-bundle-p : goal.offset_bounds-bundle-p
offset_bounds-bundle-p c =
    let b = c.requires.free_in_bounds c.loop-p.p-index c.loop-p-test.true in
    search rules

pub bounds-bundle-p : goal.bounds-bundle-p
bounds-bundle-p c =
    let b = c.requires.free_in_bounds c.loop-p.p-index c.loop-p-test.true in
    search rules

pub loop-p-preserved : goal.loop-p-preserved
loop-p-preserved c =
    turn _ _ _ _ _ _ _ c.loop-p.invariant refl c.if-finish-messages.false

pub returns : goal.returns
returns c =
    λ _. ended _ _ _ _ _ _ _ c.loop-p.invariant c.loop-p-test.false
