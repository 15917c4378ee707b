-- `parse::wires`: the loop keeps that the answer to the file is the answer to its rest, with the wires taken so far; their pairs and those
-- that are due are all pairs, so that where none is due the array holds the wires that were taken.
use mathlib.Core.Path.{◌≡◌, refl, ap, sym, ◌∙◌}
use mathlib.Core.List.{List, [], ◌∷◌, ◌++◌, map, map-append, append_assoc, append-nil}
use mathlib.Core.Option.{some}
use Prim.Native.Nat.{ℕ, ◌+◌, ◌*◌, ◌-◌, ◌≤◌}
use native.Mathlib.Omega.{arith}
use lib.Dec.{T as Holds}
use lib.ListN.{length, drop, set}
use Rattle.std.specs.Prelude.{Option, None, IfSome, Err}
use Rattle.job.specs.Table.{number_of}
use Rattle.job.specs.declared.table.Refusal.{Refusal}
use Rattle.job.specs.declared.Platform.{Platform}
use Rattle.job.specs.declared.record.Pair.{Pair}
use Rattle.job.specs.declared.parse.FoundWire.{FoundWire}
use Rattle.job.specs.Job.{Job, Wire, ends, blank, with_rack, with_wires}
use Rattle.job.specs.Record.{wire, no_rack, stands, platform_in_range, pairs, wire_pairs, pairs_due, too_early_number}
use Rattle.job.specs.Read.{refused, records, wire_array}
use Rattle.job.specs.Write.{wire_held}
use Rattle.job.specs.Pass.{wire_of, due_from, pairs_from, OnPair, PairAfter, WireDue, WireRead, WirePassed}
use Rattle.job.specs.Pass.{StepDue, StepsDue, EarlyPassed, NoneThere, WiresTaken}
use Rattle.job.specs.Laws.Tests.{platform_facts}
use Rattle.job.specs.Laws.Due.{wires_then, no_wires, due_after, wired_up, first_wire, first_step, bare}
use Rattle.job.specs.Laws.Wires.{due_pair, one_due, next_on, array_more, wired, unwired, held_back}
use Rattle.job.proofs.parse.wires.Given as goal

-- the job so far: a rack and wires
abbrev pub sofar : Platform → List Wire → Job
sofar p ws = with_wires (with_rack blank p) ws

-- a rack of n processors, joined by wires
pub record Joined (n : ℕ) (p : Platform) : Type 0 where
  pub some : 1 ≤ n
  pub few : n ≤ 16
  pub processors_are : p.processors ≡ n
  pub by_wires : p.topology ≡ 3

pub joined : (p : Platform) → Holds (platform_in_range p) → p.topology ≡ 3 → Joined p.processors p
joined p h t = let f = platform_facts p h in record { some = f.0; few = f.1; processors_are = refl; by_wires = t }

-- the wires ws were taken up to place `at`, and are in the array; of the rack the loop knows n alone, so that `same` is of any such rack
pub record Going (file : List ℕ) (start n : ℕ) (costs : List ℕ) (due : Option Pair) (at : ℕ) : Type 0 where
  pub ws : List Wire
  pub pairs_are : map ends ws ++ pairs_from n due ≡ pairs n
  pub costs_are : costs ≡ wire_array ws
  pub on : IfSome due (OnPair n)
  pub inside : at ≤ length file
  pub same : (p : Platform) → Joined n p → records (drop start file) 0 (with_rack blank p) ≡ records (drop at file) 0 (sofar p ws)

-- all wires were taken, the array holds them, and the steps are due
pub whole : (file : List ℕ) (start at : ℕ) (p : Platform) (costs : List ℕ) (ws : List Wire) → map (wire_held costs) (wire_pairs p) ≡ ws →
    costs ≡ wire_array ws → records (drop start file) 0 (with_rack blank p) ≡ records (drop at file) 0 (sofar p ws) →
    at ≤ length file → StepsDue file at (sofar p ws) → WiresTaken file start p costs at
whole file start at p costs ws held stored same l s =
    record { answer = rw held same; inside = l; due = rw held s; spare = rw held (sym stored) }

-- under another topology there are no wires
pub none : (file : List ℕ) (at : ℕ) (p : Platform) (costs : List ℕ) → Holds (platform_in_range p) → (p.topology ≡ 3 → ⊥) →
    costs ≡ wire_array [] → at ≤ length file → WiresTaken file at p costs at
unfolding pairs_due blank
none file at p costs h t e l =
    let s = first_step p [] (platform_facts p h).0 in
    whole file at at p costs [] (rw (unwired p t)) e (ap (records (drop at file) 0) (sym (no_wires (with_rack blank p)))) l (record {
      due = s;
      wired = wired_up (sofar p []) (unwired p t);
      alone = λ i k q. bare (sofar p []) s k (λ a b. t b);
    })

module _ (file : List ℕ) (start n : ℕ) (costs : List ℕ) (due : Option Pair) (at : ℕ) (g : Going file start n costs due at) where
  abbrev pub left : List (ℕ × ℕ)
  left = pairs_from n due

  module _ (p : Platform) (w : Joined n p) where
    abbrev pub now : Job
    now = sofar p g.ws

    pub all_pairs : wire_pairs p ≡ pairs n
    all_pairs = wired p w.by_wires ∙ ap pairs w.processors_are

    pub due_are : pairs_due now ≡ left
    unfolding blank
    due_are = due_after now left (g.pairs_are ∙ sym all_pairs)

    pub wire_due : WireDue now left
    unfolding stands no_rack blank
    wire_due = record { placed = first_wire p (omega (arith, w.some, w.processors_are)) w.by_wires; due_are = due_are }

    pub step_due : StepDue now 0
    step_due = first_step p g.ws (omega (arith, w.some, w.processors_are))

    -- a wire with trouble
    pub bad : (e : Refusal) → WirePassed file at n due (Err e) → records (drop start file) 0 (with_rack blank p) ≡ refused (number_of e)
    bad e x = g.same p w ∙ x now wire_due

    -- no wire is there, and one is due
    pub too_early : (due ≡ None → ⊥) → too_early_number now ≡ 14
    unfolding too_early_number
    too_early h = rw due_are (one_due n due g.on h)

    pub early : (due ≡ None → ⊥) → (e : Refusal) → EarlyPassed file at e →
        records (drop start file) 0 (with_rack blank p) ≡ refused (number_of e)
    early h e x = g.same p w ∙ x now (record { due = step_due; early = too_early h })

    -- no wire is there, and none is due
    pub done : due ≡ None → NoneThere file at wire → WiresTaken file start p costs at
    done h no-wire =
        let no-pair : left ≡ [] = rw h in
        let all : map ends g.ws ≡ pairs n = sym (append-nil _) ∙ (rw no-pair at g.pairs_are) in
        let held : map (wire_held (wire_array g.ws)) (wire_pairs p) ≡ g.ws = rw all_pairs (held_back n g.ws w.few all) in
        whole file start at p costs g.ws (rw g.costs_are held) g.costs_are (g.same p w) g.inside (record {
          due = step_due;
          wired = wired_up now (due_are ∙ no-pair);
          alone = λ i k e. bare now step_due k (λ q t. no-wire i (e ∙ ap some q));
        })

  -- one wire more
  module _ (few : n ≤ 16) (r : FoundWire) (x : WireRead file at n due r) where
    abbrev pub taken : Wire
    taken = wire_of r.pair.from r.pair.to r.cost

    pub next_is : left ≡ (r.pair.from, r.pair.to) ∷ due_from n r.pair.from (r.pair.to + 1)
    next_is = rw x.is_due_lem (due_pair n r.pair (next_on n due r.pair g.on x.is_due_lem))

    pub on : (place : ℕ) → place ≡ 16 * r.pair.from + r.pair.to → (due' : Option Pair) → PairAfter n r.pair due' →
        Going file start n (set costs place r.cost) due' (at + 4)
    on place i due' a = record {
      ws = g.ws ++ (taken ∷ []);
      pairs_are = rw (
        map-append ends g.ws (taken ∷ []),
        append_assoc (map ends g.ws) (ends taken ∷ []) (pairs_from n due'),
        a.left,
        ← next_is,
      ) g.pairs_are;
      costs_are = rw (i, g.costs_are) (array_more n g.ws r.pair.from r.pair.to r.cost _ few (rw next_is at g.pairs_are));
      on = a.on;
      inside = x.inside;
      same = λ p w. g.same p w ∙ x.answer (sofar p g.ws) (wire_due p w)
          ∙ ap (records (drop (at + 4) file) 0) (wires_then (with_rack blank p) g.ws (taken ∷ []));
    }

abbrev pub invariant-loop-due : goal.invariant-loop-due
invariant-loop-due l = Going l.file l.start l.n l.costs l.due l.at

abbrev pub decreases-loop-due : goal.decreases-loop-due
decreases-loop-due l = length l.file - l.at
