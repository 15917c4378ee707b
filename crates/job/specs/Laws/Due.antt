-- The job so far: what may follow it, with one record more.
use Rattle.std.specs.Prelude.{Bool, true, false, not, ◌&&◌, ◌⊎◌, ◌≡◌, refl, List, [], ◌∷◌, ◌++◌, map, ℕ, ◌+◌, ◌≤◌, ◌<◌, eqb, T as Holds}
use Rattle.std.specs.Prelude.{length, drop}
use Rattle.std.proofs.Common.{inl, inr, ap, sym, ◌∙◌, append_assoc, append-nil, arith, le→leb, eqb→eq, length-append, drop_at, drop-drop}
use Rattle.std.proofs.lemmas.List.{length-map}
use Rattle.base.specs.Choice.{pick}
use Rattle.base.specs.Laws.Tests.{parts, both, not_both, fails, not-not, eq→eqb, ne→neqb, lt→nleb}
use Rattle.job.specs.declared.Platform.{Platform}
use Rattle.job.specs.Job.{Edge, Wire, Result, ends, Job, blank, with_rack, with_wires, with_tasks, with_edges, job_with_results}
use Rattle.job.specs.Record.{Kind, rack, step, link, end, wire, result, empty, no_rack, stands, full, platform_in_range}
use Rattle.job.specs.Record.{wire_pairs, pairs_due, is_due, too_early_number}
use Rattle.job.specs.Pass.{key, StepDue, LinkDue, platform_trouble}
use Rattle.job.specs.Laws.Lists.{empty_nil, empty_is, empty_not}
use Rattle.job.specs.Laws.Tests.{platform_facts}
use Rattle.job.specs.Laws.Order.{above_none, above_more}

-- records more, and then more; nothing more
pub tasks_then : (j : Job) (a b : List ℕ) → with_tasks (with_tasks j a) b ≡ with_tasks j (a ++ b)
tasks_then j a b = rw (append_assoc j.tasks a b)

pub edges_then : (j : Job) (a b : List Edge) → with_edges (with_edges j a) b ≡ with_edges j (a ++ b)
edges_then j a b = rw (append_assoc j.edges a b)

pub wires_then : (j : Job) (a b : List Wire) → with_wires (with_wires j a) b ≡ with_wires j (a ++ b)
wires_then j a b = rw (append_assoc j.wires a b)

pub results_then : (j : Job) (a b : List Result) → job_with_results (job_with_results j a) b ≡ job_with_results j (a ++ b)
results_then j a b = rw (append_assoc j.results a b)

pub no_wires : (j : Job) → with_wires j [] ≡ j
no_wires j = rw (append-nil j.wires)

pub no_tasks : (j : Job) → with_tasks j [] ≡ j
no_tasks j = rw (append-nil j.tasks)

pub no_edges : (j : Job) → with_edges j [] ≡ j
no_edges j = rw (append-nil j.edges)

pub nothing_delivered : (j : Job) → job_with_results j [] ≡ j
nothing_delivered j = rw (append-nil j.results)

-- a rack without trouble is in its ranges, and has a processor
pub in_ranges : (p : Platform) → platform_trouble p ≡ 0 → Holds (platform_in_range p)
unfolding platform_trouble
in_ranges p = go (platform_in_range p)
  where
    go : (t : Bool) → ◌≡◌ {A = ℕ} (pick (not t) 4 0) 0 → Holds t
    go true e = tt
    go false e = let n : ⊥ = omega arith in absurd n

pub racked : (p : Platform) → platform_trouble p ≡ 0 → 1 ≤ p.processors
racked p e = (platform_facts p (in_ranges p e)).0

-- the next pair due is the wire's, ..
pub due_ends : (due : List (ℕ × ℕ)) (w : Wire) → Holds (is_due due w) → (xs : List (ℕ × ℕ)) × (due ≡ ends w ∷ xs)
unfolding is_due
due_ends [] w h = absurd h
due_ends (x ∷ xs) w h =
    let s = parts (eqb w.from x.0) (eqb w.to x.1) h in
    let f : w.from ≡ x.0 = eqb→eq _ _ s.0 in
    let t : w.to ≡ x.1 = eqb→eq _ _ s.1 in
    (xs, rw (f, t))

-- .. and after it the one after that
pub due_then : (j : Job) (x : ℕ × ℕ) (xs : List (ℕ × ℕ)) (w : Wire) → pairs_due j ≡ x ∷ xs → pairs_due (with_wires j (w ∷ [])) ≡ xs
unfolding pairs_due
due_then j x xs w e = rw (length-append j.wires (w ∷ []))
    (sym (drop-drop 1 (length j.wires) (wire_pairs j.platform)) ∙ ap (λ (l : List (ℕ × ℕ)). drop 1 l) e)

-- the pairs after those of the wires are due
pub due_after : (j : Job) (xs : List (ℕ × ℕ)) → map ends j.wires ++ xs ≡ wire_pairs j.platform → pairs_due j ≡ xs
unfolding pairs_due
due_after j xs e =
    rw (← e) (drop_at (map ends j.wires) xs (length j.wires) (length-map j.wires ends))

-- no pair is due, and no step comes too early
pub wired_up : (j : Job) → pairs_due j ≡ [] → too_early_number j ≡ 0
unfolding too_early_number
wired_up j e = rw e

-- after the rack a wire may follow under topology 3, ..
pub first_wire : (p : Platform) → 1 ≤ p.processors → p.topology ≡ 3 → Holds (stands (with_rack blank p) wire)
unfolding stands no_rack blank
first_wire p n t =
    both (not (eqb p.processors 0) && eqb p.topology 3) true
    (both (not (eqb p.processors 0)) (eqb p.topology 3) (ne→neqb p.processors 0 (λ z. omega arith)) (eq→eqb p.topology 3 t)) tt

-- .. and the wires of all its pairs are due
pub all_due : (p : Platform) → pairs_due (with_rack blank p) ≡ wire_pairs p
unfolding pairs_due blank
all_due p = refl

-- after the rack and its wires a step may follow, ..
pub first_step : (p : Platform) (ws : List Wire) → 1 ≤ p.processors → StepDue (with_wires (with_rack blank p) ws) 0
unfolding stands no_rack blank
first_step p ws h = record {
  placed = both (not (eqb p.processors 0) && true) true
      (both (not (eqb p.processors 0)) true (ne→neqb p.processors 0 (λ e. omega arith)) tt) tt;
  tasks_are = refl;
}

-- .. and after steps
pub next_step : {j : Job} {m : ℕ} → StepDue j m → (ts : List ℕ) (k : ℕ) → m + length ts ≡ k → StepDue (with_tasks j ts) k
unfolding stands no_rack
next_step {j} {m} s ts k e = record { placed = s.placed; tasks_are = length-append j.tasks ts ∙ omega (arith, s.tasks_are) }

-- where a step may stand there is a rack, no edge and no result
pub step_placed : (j : Job) → Holds (stands j step) → Holds (not (no_rack j)) × (j.edges ≡ []) × (j.results ≡ [])
unfolding stands
step_placed j s =
    let a = parts (not (no_rack j) && empty j.edges) (empty j.results) s in
    let b = parts (not (no_rack j)) (empty j.edges) a.0 in
    (b.0, empty_nil j.edges b.1, empty_nil j.results a.1)

-- where a link may stand there is a task and no result
pub link_placed : (j : Job) → Holds (stands j link) → Holds (not (empty j.tasks)) × (j.results ≡ [])
unfolding stands
link_placed j s = let a = parts (not (empty j.tasks)) (empty j.results) s in (a.0, empty_nil j.results a.1)

-- where a wire may stand there is a rack of topology 3 and no task
pub wire_placed : (j : Job) → Holds (stands j wire) → Holds (not (no_rack j)) × (j.platform.topology ≡ 3) × (j.tasks ≡ [])
unfolding stands
wire_placed j s =
    let a = parts (not (no_rack j) && eqb j.platform.topology 3) (empty j.tasks) s in
    let b = parts (not (no_rack j)) (eqb j.platform.topology 3) a.0 in
    (b.0, eqb→eq j.platform.topology 3 b.1, empty_nil j.tasks a.1)

-- before the first step nothing but a step may stand, and a wire under topology 3
pub bare : (j : Job) → StepDue j 0 → (k : Kind) → (k ≡ wire → j.platform.topology ≡ 3 → ⊥) → (k ≡ step) ⊎ Holds (not (stands j k))
unfolding stands no_rack
bare j s rack h = inr (step_placed j s.placed).0
bare j s step h = inl refl
bare j s link h = inr (fails (stands j link) (λ t. not_both (empty j.tasks) (link_placed j t).0 (empty_is j.tasks s.tasks_are)))
bare j s end h = inr (not-not (empty j.tasks) (empty_is j.tasks s.tasks_are))
bare j s result h = inr (not-not (empty j.tasks) (empty_is j.tasks s.tasks_are))
bare j s wire h = inr (fails (stands j wire) (λ t. h refl (wire_placed j t).1))

-- after steps a link may follow, ..
pub first_link : (j : Job) (m : ℕ) → 1 ≤ m → length j.tasks ≡ m → j.edges ≡ [] → j.results ≡ [] → LinkDue j m 0 0
unfolding stands
first_link j m h e n r = record {
  placed = rw r (both (not (empty j.tasks)) true (empty_not j.tasks (λ z. omega arith)) tt);
  tasks_are = e;
  edges_are = rw n;
  above = rw n above_none;
}

-- .. and after a link
pub next_link : {j : Job} {m l least : ℕ} → LinkDue j m l least → (e : Edge) → e.to < 256 →
    LinkDue (with_edges j (e ∷ [])) m (l + 1) (key e + 1)
unfolding stands
next_link {j} {m} {l} {least} s e h = record {
  placed = s.placed;
  tasks_are = s.tasks_are;
  edges_are = length-append j.edges (e ∷ []) ∙ omega (arith, s.edges_are);
  above = above_more j.edges e h;
}

-- how many there may be
pub steps_full : {j : Job} {m : ℕ} → StepDue j m → 256 ≤ m → Holds (full j step)
unfolding full
steps_full {j} s h = le→leb 256 (length j.tasks) (omega (arith, s.tasks_are))

pub steps_room : {j : Job} {m : ℕ} → StepDue j m → m < 256 → Holds (not (full j step))
unfolding full
steps_room {j} s h = lt→nleb 256 (length j.tasks) (omega (arith, s.tasks_are))

pub links_full : {j : Job} {m l least : ℕ} → LinkDue j m l least → 1024 ≤ l → Holds (full j link)
unfolding full
links_full {j} s h = le→leb 1024 (length j.edges) (omega (arith, s.edges_are))

pub links_room : {j : Job} {m l least : ℕ} → LinkDue j m l least → l < 1024 → Holds (not (full j link))
unfolding full
links_room {j} s h = lt→nleb 1024 (length j.edges) (omega (arith, s.edges_are))
