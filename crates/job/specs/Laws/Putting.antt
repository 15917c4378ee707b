-- Records put one after the other, from the first on: what a loop that puts them keeps, and that each turn keeps to it.
use Rattle.std.specs.Prelude.{◌≡◌, refl, length}
use Rattle.std.proofs.Common.{◌∙◌, length-append}
use mathlib.Core.List.{List, flat_map}
use Prim.Native.Nat.{ℕ, suc, ◌+◌, ◌-◌, ◌≤◌, ◌<◌}
use Rattle.std.proofs.Math.Numerals.{add-one}
use native.Mathlib.Omega.{arith}
use Rattle.base.specs.Lists.{values}
use Rattle.base.specs.Slices.{Put}
use Rattle.base.specs.Laws.Put.{put_none, put_more}
use Rattle.base.specs.Laws.Values.{values_front}

-- of m records i have been put from `start` on, `at` is the place after them, and there is room for what is left
pub record Putting {A : Type 0} (g : A → List ℕ) (f : ℕ → A) (m i : ℕ) (out₀ out : List ℕ) (start at : ℕ) : Type 0 where
  pub so_far : i ≤ m
  pub long : length out ≡ length out₀
  pub room : at + length (flat_map g (values f i (m - i))) ≤ length out₀
  pub put : Put out₀ out start at (flat_map g (values f 0 i))

module _ {A : Type 0} (g : A → List ℕ) (f : ℕ → A) (m : ℕ) where
  pub putting_none : (out : List ℕ) (start : ℕ) → start + length (flat_map g (values f 0 m)) ≤ length out →
      Putting g f m 0 out out start start
  unfolding flat_map values
  putting_none out start h = record {
    so_far = omega arith;
    long = refl;
    room = let e : m - 0 ≡ m = omega arith in rw e h;
    put = put_none out start;
  }

  module _ {i : ℕ} {out₀ out : List ℕ} {start at : ℕ} (p : Putting g f m i out₀ out start at) where
    -- what is left: the next record, and the others
    left : i < m → length (flat_map g (values f i (m - i))) ≡ length (g (f i)) + length (flat_map g (values f (i + 1) (m - (i + 1))))
    unfolding flat_map
    left h = rw (values_front f i m h, add-one i) (length-append (g (f i)) (flat_map g (values f (suc i) (m - suc i))))

    pub putting_room : i < m → at + length (g (f i)) ≤ length out
    putting_room h = omega (arith, p.long, p.room, left h)

    pub putting_more : i < m → {out' : List ℕ} {next : ℕ} → length out' ≡ length out → Put out out' at next (g (f i)) →
        Putting g f m (i + 1) out₀ out' start next
    putting_more h k q = record {
      so_far = omega arith;
      long = k ∙ p.long;
      room = omega (arith, p.room, left h, q.past);
      put = put_more g f i p.put q;
    }

    pub putting_done : m ≤ i → Put out₀ out start at (flat_map g (values f 0 m))
    putting_done h = let e : i ≡ m = omega (arith, p.so_far) in rw e at p.put
