-- `planner::raise`: before processor p the row is raised for the processors below p, and nothing else is changed; each turn adds one place.
use mathlib.Core.Path.{◌≡◌, refl, ◌∙◌}
use mathlib.Core.Logic.{◌⊎◌, inl, inr}
use mathlib.Core.List.{List}
use Prim.Native.Nat.{ℕ, ◌+◌, ◌*◌, ◌≤◌, ◌<◌, max}
use native.Mathlib.Omega.{arith}
use borrow.Author.Rules.{rules}
use lib.ListN.{length, get_or, set, length-set}
use lib.Seq.{get_or-set_same, get_or-set_other}
use Rattle.base.specs.Laws.Tests.{lt_or_ge}
use Rattle.schedule.specs.Pass.{Raised}
use Rattle.schedule.proofs.planner.raise.Goals as goal

-- no processor's arrival is raised yet
begun : (T finish count : ℕ) (row before : List ℕ) → Raised 0 T finish count row before before
begun T finish count row before = record { in_row = λ P h. absurd (omega arith); left_of = λ x h. refl; right_of = λ x h. refl }

module _ (p T finish count : ℕ) (row before now : List ℕ) (r : Raised p T finish count row before now) where
  -- one place more, where nothing else is changed
  one : (after : List ℕ) → get_or after (16 * T + p) 0 ≡ max (get_or now (16 * T + p) 0) (finish + count * get_or row p 0)
      → ((x : ℕ) → (x ≡ 16 * T + p → ⊥) → get_or after x 0 ≡ get_or now x 0) → Raised (p + 1) T finish count row before after
  one after e same = record {
    in_row = λ P h. go P (lt_or_ge P p) h;
    left_of = λ x h. same x (λ k. omega arith) ∙ r.left_of x h;
    right_of = λ x h. same x (λ k. omega arith) ∙ r.right_of x (omega arith);
  }
    where
      go : (P : ℕ) → (P < p) ⊎ (p ≤ P) → P < p + 1
          → get_or after (16 * T + P) 0 ≡ max (get_or before (16 * T + P) 0) (finish + count * get_or row P 0)
      go P (inl k) h = same (16 * T + P) (λ q. omega arith) ∙ r.in_row P k
      go P (inr k) h = let q : P ≡ p = omega arith in rw (q, e, r.right_of (16 * T + p) (omega arith))

  -- the greater of the two is stored
  raises : (x : ℕ) → x ≡ max (get_or now (16 * T + p) 0) (finish + count * get_or row p 0) → 16 * T + p < length now
      → (length (set now (16 * T + p) x) ≡ length now) × Raised (p + 1) T finish count row before (set now (16 * T + p) x)
  raises x e l = (
    length-set now (16 * T + p) x,
    one (set now (16 * T + p) x) (get_or-set_same now (16 * T + p) x 0 l ∙ e) (λ y k. get_or-set_other now (16 * T + p) y x 0 k),
  )

pub loop-p-init : goal.loop-p-init
loop-p-init c =
    (refl, begun _ _ _ _ _)

pub overflow_mul-arrival : goal.overflow_mul-arrival
overflow_mul-arrival c =
    let near = c.requires.finish_le_most_finish.1 in
    record { fits = omega (arith, near c.loop-p.p) }

pub overflow_add-arrival : goal.overflow_add-arrival
overflow_add-arrival c =
    let in_time = c.requires.finish_le_most_finish.0 in
    let near = c.requires.finish_le_most_finish.1 in
    record { fits = omega (arith, in_time, near c.loop-p.p) }

pub loop-p-preserved : goal.loop-p-preserved
loop-p-preserved c =
    let v = c.loop-p.invariant in
    let r = raises _ _ _ _ _ _ _ v.1 _ c.max.ensures (search rules) in
    (r.0 ∙ v.0, r.1)

pub returns : goal.returns
returns c =
    let e : c.loop-p.p ≡ c.args.n = omega arith in
    rw e at c.loop-p.invariant.1
