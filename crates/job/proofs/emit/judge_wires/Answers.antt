-- `emit::judge_wires`: the wires of the pairs still to come have the trouble of all, as long as none was met.
use Rattle.std.proofs.Common.{◌≡◌, ℕ, ◌+◌, ◌*◌, ◌≤◌, ◌<◌, List, map, refl, sym, ◌∙◌, arith, get_or}
use Rattle.std.proofs.lemmas.Result.{err_from_is_err_and}
use Rattle.job.specs.declared.Platform.{Platform}
use Rattle.job.specs.Table.{is_trouble}
use Rattle.job.specs.Record.{pairs, wire_pairs}
use Rattle.job.specs.Write.{wire_held, held_job}
use Rattle.job.specs.Pass.{first_of, due_from, cost_trouble, wires_trouble}
use Rattle.job.specs.Laws.Judged.{first_some, first_none}
use Rattle.job.specs.Laws.Tests.{platform_facts}
use Rattle.job.specs.Laws.Wires.{first_due, due_pair, past_itself, next_row, none_due, wired, unwired}
use Rattle.job.proofs.emit.judge_wires.Invariants.{Judging}
use Rattle.job.proofs.emit.judge_wires.Goals as goal
use Rattle.job.proofs.emit.judge_wires.Goals.{then-from-to+in_ok-judge_cost, else-from-to}

-- under topology 3 the pairs are those of the rack's number of processors, under another there is none
under_3 : (p : Platform) (costs : List ℕ) (t : ℕ) → p.topology ≡ 3 → t ≡ wires_trouble (map (wire_held costs) (pairs p.processors))
    → t ≡ wires_trouble (map (wire_held costs) (wire_pairs p))
under_3 p costs t e h = rw (wired p e) h

under_other : (p : Platform) (costs : List ℕ) → (p.topology ≡ 3 → ⊥) → 0 ≡ wires_trouble (map (wire_held costs) (wire_pairs p))
unfolding wires_trouble
under_other p costs d = rw (unwired p d) refl

begin : (costs : List ℕ) (n : ℕ) → Judging costs n 0 0
begin costs n = rw (first_due n) refl

module _ (costs : List ℕ) (n p q : ℕ) (g : Judging costs n p q) where
  none : n ≤ p → 0 ≡ wires_trouble (map (wire_held costs) (pairs n))
  unfolding wires_trouble
  none h = rw (none_due n p q h) at g

  same : (p' q' : ℕ) → due_from n p q ≡ due_from n p' q' → Judging costs n p' q'
  same p' q' e = rw e at g

  module _ (h : p < n) (k : q < n) (d : p ≡ q → ⊥) (c : ℕ) (at : c ≡ 16 * p + q) where
    own : wires_trouble (map (wire_held costs) (pairs n))
        ≡ first_of (cost_trouble (get_or costs c 0)) (wires_trouble (map (wire_held costs) (due_from n p (q + 1))))
    unfolding wires_trouble wire_held
    own =
        sym g ∙ rw (due_pair n (record { from = p; to = q }) (record { from_below = h; to_below = k; different = d }), at) refl

    met : (r : ℕ) → r ≡ cost_trouble (get_or costs c 0) → (r ≡ 0 → ⊥) → r ≡ wires_trouble (map (wire_held costs) (pairs n))
    met r is z = sym (own ∙ rw (← is) (first_some _ _ z))

    turn : 0 ≡ cost_trouble (get_or costs c 0) → Judging costs n p (q + 1)
    turn z = sym (own ∙ first_none _ _ (sym z))

pub returns-then-job : goal.returns-then-job
unfolding held_job
returns-then-job c = under_other c.args.job.now.platform _ c.if-job.true

pub loop-from-init : goal.loop-from-init
loop-from-init c = begin _ _

pub place-requires : goal.place-requires
place-requires c =
    let f = platform_facts _ c.requires in
    (omega (arith, f.1, c.loop-from-test.true), omega (arith, f.1, c.loop-to-test.true))

pub returns-in_err-judge_cost : goal.returns-in_err-judge_cost
unfolding held_job
returns-in_err-judge_cost c =
    let p = err_from_is_err_and c.from_residual.result c.from_residual.ensures.1 in
    rw (p.1, p.2) (under_3 c.args.job.now.platform _ _ c.if-job.false
    (met _ _ _ _ c.loop-to.invariant c.loop-from-test.true c.loop-to-test.true c.if-from-to.true _ c.place.ensures.0 _
    c.in_err-judge_cost.ensures (is_trouble _)))

pub loop-to-preserved : goal.loop-to-preserved
loop-to-preserved c =
    let g = c.loop-to.invariant in
    elim c.if-from-to.branch [
      | then-from-to+in_ok-judge_cost w ↦
          turn _ _ _ _ g c.loop-from-test.true c.loop-to-test.true w.if-from-to.true _ w.place.ensures.0 w.in_ok-judge_cost.ensures
      | else-from-to w ↦ same _ _ _ _ g _ _ (rw (sym w.if-from-to.false) (past_itself _ _))
    ]

pub loop-from-preserved : goal.loop-from-preserved
loop-from-preserved c = same _ _ _ _ c.loop-to.invariant _ _ (next_row _ _ _ c.loop-to-test.false c.loop-from-test.true)

pub returns : goal.returns
unfolding held_job
returns c = under_3 c.args.job.now.platform _ _ c.if-job.false (none _ _ _ _ c.loop-from.invariant c.loop-from-test.false)
