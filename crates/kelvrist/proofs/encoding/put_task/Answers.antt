-- `encoding::put_task`: the task's bytes stand in the place of as many.
use Rattle.std.proofs.Common.{◌≡◌, ◌+◌, ◌-◌, ◌≤◌, ℕ, List, ◌∷◌, refl, ◌∙◌, arith, length, set, append_assoc, length-set}
use Rattle.std.proofs.Math.Nat.{div-div-eq-div-mul}
use Rattle.std.proofs.lemmas.List.Edits.{sets, sets-eq}
use Rattle.std.specs.Int.{w32, to_le_bytes}
use native.Mathlib.Numerals.{towards_suc}
use borrow.Rule.Slice.PartMut.{put_mid, Post-is}
use Rattle.base.specs.Number.{bytes}
use Rattle.kelvrist.specs.PlanBytes.{task_bytes}
use Rattle.kelvrist.proofs.encoding.put_task.Goals as goal

in_place : (l vs : List ℕ) (i : ℕ) → i + length vs ≤ length l → put_mid i (i + length vs - i) l vs ≡ sets l i vs
in_place l vs i h = rw (Post-is i (i + length vs) l (omega arith), sets-eq vs l i h, append_assoc) refl

little : (n : ℕ) → to_le_bytes w32 n ≡ bytes 4 n
unfolding bytes
little n = rw (div-div-eq-div-mul n 256 256, div-div-eq-div-mul n 65536 256) refl

-- the processor's byte before the others
first : (l : List ℕ) (i p : ℕ) (vs : List ℕ) → sets (set l i p) (i + 1) vs ≡ sets l i (p ∷ vs)
first l i p vs = simp towards_suc

stored : (l : List ℕ) (i p n : ℕ) (b : List ℕ) → i + 5 ≤ length l → b ≡ to_le_bytes w32 n
    → put_mid (i + 1) (i + 5 - (i + 1)) (set l i p) b ≡ sets l i (task_bytes p n)
unfolding task_bytes bytes
stored l i p n b h e =
    let w : b ≡ bytes 4 n = e ∙ little n in
    let k : i + 5 - (i + 1) ≡ i + 1 + 4 - (i + 1) = omega arith in
    rw (w, k) (in_place (set l i p) (bytes 4 n) (i + 1) (omega (arith, h, length-set l i p)) ∙ first l i p (bytes 4 n))

pub returns : goal.returns
returns c = stored _ _ _ _ _ c.requires (c.copy_from_slice.ensures.after ∙ c.to_le_bytes.ensures)
