-- `read_all`: what a turn reads goes on from what came before it.
use Rattle.std.proofs.Common.{◌≡◌, ℕ, ◌+◌, ◌-◌, ◌≤◌, List, ◌++◌, length, take, drop, sym, ap, ◌∙◌, subst, le_refl, drop_at}
use Rattle.std.proofs.Common.{length-take-le, arith}
use Rattle.std.proofs.lemmas.Slice.{take-put_mid_below}
use Rattle.std.specs.Io.KnownBytes.{Consumes}
use Rattle.std.proofs.KnownBytes.{Consumes-trans}
use borrow.Rule.Slice.PartMut.{put_mid, post_of}
use lib.Seq.{take-add, take-append-le}
use Rattle.input.proofs.read_all.Goals as goal

-- what stands before the place that is reached, where n bytes came to place a
reached : (a k n : ℕ) (xs ys : List ℕ) → a ≤ length xs → n ≤ length ys → take (a + n) (put_mid a k xs ys) ≡ take a xs ++ take n ys
reached a k n xs ys within fits =
    let all = put_mid a k xs ys in
    let after = ys ++ post_of a k xs in
    take-add a n all
    ∙ ap (λ l. l ++ take n (drop a all)) (take-put_mid_below a k xs ys a (le_refl a) within)
    ∙ ap (λ l. take a xs ++ take n l) (drop_at (take a xs) after a (length-take-le a xs within))
    ∙ ap (λ l. take a xs ++ l) (take-append-le n ys (post_of a k xs) fits)

pub loop-at-preserved : goal.loop-at-preserved
loop-at-preserved g c =
    let k = length c.loop-at.input - c.loop-at.at in
    let fits = c.in_ok-n.ensures.bound.0 in
    let joined = reached c.loop-at.at k c.in_ok-n.n c.loop-at.input c.read.new.buf c.loop-at.invariant.within fits in
    record {
      within = omega (arith, fits);
      came = subst (Consumes _ _) (sym joined) (Consumes-trans _ _ _ _ _ c.loop-at.invariant.came c.in_ok-n.ensures.bytes.0);
    }
