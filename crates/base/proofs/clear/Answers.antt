-- `clear`: a front that was filled with 0, and what was behind it.
use Rattle.std.proofs.Common.{◌≡◌, ◌++◌, ℕ, ◌≤◌, List, replicate, drop, take, length, min, arith, length-take-le}
use Rattle.std.proofs.lemmas.Simd.{splat_is_map}
use Rattle.base.specs.Lists.{upto}
use Rattle.base.specs.Laws.Lists.{length-upto}
use Rattle.base.specs.Slices.{filled}
use Rattle.base.proofs.clear.Goals as goal

zeros : (n : ℕ) (old front : List ℕ) → n ≤ length old → front ≡ replicate (length (take n old)) 0
    → front ++ drop n old ≡ filled (λ x. 0) n old
unfolding filled
zeros n old front h e = rw (e, length-take-le n old h, splat_is_map {Y = ℕ} (upto n) n 0 (length-upto n))

pub returns : goal.returns
returns c =
    let end : c.min-end.result ≡ min c.args.places (length c.args.slice.now) = c.min-end.ensures in
    rw (← end) (zeros _ _ _ (omega arith) (c.fill.ensures.after (λ y e. e)))
