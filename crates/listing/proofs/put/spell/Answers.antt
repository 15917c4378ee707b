-- `put::spell`: the digits after place `at` are written, and those of what is left are due.
use mathlib.Core.Path.{sym, ◌∙◌}
use native.Mathlib.Omega.{arith}
use borrow.Author.Rules.{rules}
use lib.ListN.{length-set}
use Rattle.listing.specs.Laws.Digits.{spelt_none, spelt_more, spelt_all}
use Rattle.listing.proofs.put.spell.Goals as goal

pub loop-rest-init : goal.loop-rest-init
loop-rest-init c =
    spelt_none _ _ (search rules) c.requires

pub overflow_add-digits : goal.overflow_add-digits
overflow_add-digits c =
    omega arith

pub overflow_cast-digits : goal.overflow_cast-digits
overflow_cast-digits c =
    omega arith

pub bounds-digits-at : goal.bounds-digits-at
bounds-digits-at c =
    omega (arith, c.loop-rest.invariant.within, c.loop-rest.invariant.size)

pub overflow_sub-at : goal.overflow_sub-at
overflow_sub-at c =
    (spelt_more _ _ _ _ c.loop-rest.invariant (omega arith)).0

pub loop-rest-smaller : goal.loop-rest-smaller
loop-rest-smaller c =
    omega arith

pub loop-rest-preserved : goal.loop-rest-preserved
loop-rest-preserved c =
    (spelt_more _ _ _ _ c.loop-rest.invariant (omega arith)).1

pub overflow_add-digits-2 : goal.overflow_add-digits-2
overflow_add-digits-2 c =
    omega arith

pub overflow_cast-digits-2 : goal.overflow_cast-digits-2
overflow_cast-digits-2 c =
    omega arith

pub bounds-digits-at-2 : goal.bounds-digits-at-2
bounds-digits-at-2 c =
    omega (arith, c.loop-rest.invariant.within, c.loop-rest.invariant.size)

pub shape_of-digits : goal.shape_of-digits
shape_of-digits c =
    length-set c.loop-rest.digits c.loop-rest.at _ ∙ c.loop-rest.invariant.size ∙ sym c.requires

pub returns : goal.returns
returns c =
    (c.loop-rest.invariant.within, spelt_all _ _ _ _ c.loop-rest.invariant (omega arith))
