-- Texts put one after the other are the text of them all.
use Rattle.std.specs.Prelude.{◌≡◌, refl, length, take}
use Rattle.std.proofs.Math.Path.{ap, sym}
use Rattle.std.proofs.Common.{◌∙◌, append_assoc}
use mathlib.Core.List.{List, [], ◌∷◌, ◌++◌, flat_map, append-nil}
use Prim.Native.Nat.{ℕ, suc, ◌+◌, ◌-◌, ◌≤◌}
use native.Mathlib.Omega.{arith}
use Rattle.std.proofs.lemmas.List.Edits.{sets-eq}
use borrow.Rule.Slice.PartMut.{put_mid, Post-is}
use Rattle.base.specs.Lists.{upto}
use Rattle.base.specs.Slices.{Put}
use Rattle.base.specs.Laws.Put.{put_then}
use Rattle.base.specs.Laws.Stored.{flat_append}
use Rattle.listing.specs.Listing.{task_line, task_lines}

-- bytes copied to a part of the buffer are put there
pub copied : (out : List ℕ) (at : ℕ) (bytes : List ℕ) {part : List ℕ} → at + length bytes ≤ length out → part ≡ bytes
    → Put out (put_mid at (at + length bytes - at) out part) at (at + length bytes) bytes
copied out at bytes {part} fits same = record {
  stored =
      ap (put_mid at (at + length bytes - at) out) same
      ∙ ap (λ (l : List ℕ). take at out ++ (bytes ++ l)) (Post-is at (at + length bytes) out (omega arith))
      ∙ sym (append_assoc (take at out) bytes _)
      ∙ sym (sets-eq bytes out at fits);
  past = refl;
}

-- the lines of the tasks, one by one
module _ (processor start time : ℕ → ℕ) where
  pub lines_none : (out : List ℕ) (at : ℕ) → Put out out at at (task_lines 0 processor start time)
  unfolding task_lines upto flat_map
  lines_none out at = record { stored = refl; past = omega arith }

  abbrev line : ℕ → List ℕ
  line T = task_line T (processor T) (start T) (start T + time T)

  pub lines_more : {out out' out'' : List ℕ} {at place next : ℕ} (t T P s f : ℕ)
      → Put out out' at place (task_lines t processor start time) → Put out' out'' place next (task_line T P s f)
      → T ≡ t → P ≡ processor t → s ≡ start t → f ≡ start t + time t → Put out out'' at next (task_lines (t + 1) processor start time)
  unfolding task_lines upto flat_map
  lines_more t T P s f p q t-is p-is s-is f-is =
      let one : t + 1 ≡ suc t = omega arith in
      let e : flat_map line (upto t) ++ line t ≡ flat_map line (upto t ++ (t ∷ [])) =
      sym (flat_append line (upto t) (t ∷ []) ∙ ap (λ (b : List ℕ). flat_map line (upto t) ++ b) (append-nil (line t))) in
      rw (one, ← e) (put_then p (rw (t-is, p-is, s-is, f-is) at q))
