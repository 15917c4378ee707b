-- How much of a file settles its answer: a record is judged by its body, and by whether a byte is left at the end record, so the bytes
-- that the records still to come can have are enough (`need`). Many links leave few tasks that may deliver a result. By induction on the
-- file.
use Rattle.std.specs.Prelude.{Bool, false, not, ◌⊎◌, ◌≡◌, List, [], ◌∷◌, ◌++◌, ℕ, zero, suc, ◌+◌, ◌*◌, ◌-◌, ◌<◌, ◌≤◌, ltb, take, drop}
use Rattle.std.proofs.Math.Bool.{true}
use Rattle.std.proofs.Common.{inl, inr, ⊎_elim, ◌∙◌, lt-ltb, le-ltb, ne_eqb, length-take, take-take, get_or-take}
use Rattle.std.proofs.Math.Path.{refl, ap, sym}
use Rattle.std.proofs.Math.Option.{Option, none, some}
use native.Mathlib.Omega.{arith}
use Rattle.std.proofs.Math.Dec.{nleb→lt, nltb→le, T as Holds}
use Rattle.std.proofs.Math.ListN.{length, length-append, length-drop}
use Rattle.std.proofs.Math.Seq.{take-nil}
use Rattle.base.specs.Choice.{pick}
use Rattle.base.specs.Laws.Tests.{lt_or_ge, either, is_true, is_not}
use Rattle.job.specs.declared.Platform.{Platform}
use Rattle.job.specs.Job.{Wire, Result, ends, Job, blank, with_rack, with_wires}
use Rattle.job.specs.Record.{Kind, rack, step, link, end, wire, result, kind_of, body_length, empty, no_rack, stands, full, in_range}
use Rattle.job.specs.Record.{may_deliver, misfit, added, platform_in, duration_in, edge_in, wire_in, result_in, wire_pairs, pairs_due}
use Rattle.job.specs.Read.{Answer, refused, refused_or, after, judged, records, read_job}
use Rattle.job.specs.Write.{settling_length}
use Rattle.job.specs.Cause.{Untroubled}
use Rattle.job.specs.Laws.Judged.{misplaced, crowded, wire_fits, result_fits}
use Rattle.job.specs.Laws.Tests.{platform_facts}
use Rattle.job.specs.Laws.Due.{step_placed, link_placed, wire_placed, due_ends, due_then}
use Rattle.job.specs.Laws.Kept.{no_edge, Kept, SoFar, nothing, grown, ready}
use Rattle.job.specs.Laws.Successors.{left, left_less, left_most}
use Rattle.job.specs.Laws.Wires.{few_pairs}

-- the most bytes that steps, links and results after the job so far have
later : Job → ℕ
later j = pick (empty j.results) (5 * (256 - length j.tasks) + 5 * (1024 - length j.edges) + 1004) (4 * left j)

-- the most bytes that the records after the job so far have, and four for a result past the last that could stand
need : Job → ℕ
need j = later j + pick (no_rack j) 968 (4 + 4 * length (pairs_due j))

-- neither a rack nor a wire moves what comes after the wires
later_rack : (j : Job) (p : Platform) → later (with_rack j p) ≡ later j
unfolding later may_deliver
later_rack j p = refl

later_wire : (j : Job) (ws : List Wire) → later (with_wires j ws) ≡ later j
unfolding later may_deliver
later_wire j ws = refl

-- the values of a body stand in its bytes
platform_prefix : (n : ℕ) (rest : List ℕ) → 3 ≤ n → platform_in (take n rest) ≡ platform_in rest
unfolding platform_in
platform_prefix n rest h =
    rw (get_or-take n rest 0 0 (omega arith), get_or-take n rest 1 0 (omega arith), get_or-take n rest 2 0 (omega arith))

duration_prefix : (n : ℕ) (rest : List ℕ) → 4 ≤ n → duration_in (take n rest) ≡ duration_in rest
unfolding duration_in
duration_prefix n rest h = rw (take-take 4 n rest)

edge_prefix : (n : ℕ) (rest : List ℕ) → 4 ≤ n → edge_in (take n rest) ≡ edge_in rest
unfolding edge_in
edge_prefix zero rest h = absurd (omega arith)
edge_prefix (suc zero) rest h = absurd (omega arith)
edge_prefix (suc (suc n)) [] h = refl
edge_prefix (suc (suc n)) (x ∷ []) h = refl
edge_prefix (suc (suc n)) (x ∷ y ∷ rest) h = rw (take-take 2 n rest (omega arith))

wire_prefix : (n : ℕ) (rest : List ℕ) → 3 ≤ n → wire_in (take n rest) ≡ wire_in rest
unfolding wire_in
wire_prefix n rest h = rw (get_or-take n rest 0 0 (omega arith), get_or-take n rest 1 0 (omega arith), get_or-take n rest 2 0 (omega arith))

result_prefix : (n : ℕ) (rest : List ℕ) → 3 ≤ n → result_in (take n rest) ≡ result_in rest
unfolding result_in
result_prefix zero rest h = absurd (omega arith)
result_prefix (suc n) [] h = refl
result_prefix (suc n) (x ∷ rest) h = rw (take-take 2 n rest (omega arith))

short_prefix : (k n : ℕ) (rest : List ℕ) → k ≤ n → ltb (length (take n rest)) k ≡ ltb (length rest) k
short_prefix k n rest h = ⊎_elim
    (λ (l : length rest < k). lt-ltb (length (take n rest)) k (rw length-take (omega arith)) ∙ sym (lt-ltb _ _ l))
    (λ (g : k ≤ length rest). le-ltb (length (take n rest)) k (rw length-take (omega arith)) ∙ sym (le-ltb _ _ g))
    (lt_or_ge (length rest) k)

empty_prefix : (n : ℕ) (rest : List ℕ) → 1 ≤ n → empty (take n rest) ≡ empty rest
empty_prefix zero rest h = absurd (omega arith)
empty_prefix (suc n) [] h = refl
empty_prefix (suc n) (x ∷ rest) h = refl

-- the same body: the tests and the job with this record more
record Same (a b : List ℕ) (j : Job) (k : Kind) : Type 0 where
  range : in_range k a ≡ in_range k b
  fit : misfit j k a ≡ misfit j k b
  more : added j k a ≡ added j k b

same : (n : ℕ) (rest : List ℕ) (j : Job) (k : Kind) → body_length k ≤ n → Same (take n rest) rest j k
unfolding body_length in_range misfit added
same n rest j rack h =
    let e : platform_in (take n rest) ≡ platform_in rest = platform_prefix n rest h in
    record { range = rw e; fit = refl; more = rw e }
same n rest j step h =
    let e : duration_in (take n rest) ≡ duration_in rest = duration_prefix n rest h in
    record { range = rw e; fit = refl; more = rw e }
same n rest j link h =
    let e : edge_in (take n rest) ≡ edge_in rest = edge_prefix n rest h in
    record { range = rw e; fit = rw e; more = rw e }
same n rest j wire h =
    let e : wire_in (take n rest) ≡ wire_in rest = wire_prefix n rest h in
    record { range = rw e; fit = rw e; more = rw e }
same n rest j result h =
    let e : result_in (take n rest) ≡ result_in rest = result_prefix n rest h in
    record { range = rw e; fit = rw e; more = rw e }
same n rest j end h = record { range = refl; fit = refl; more = refl }

-- the tests lead to the same answer, if what follows them is the same
through : (s f l r : Bool) (n : ℕ) (x y : Answer) → (Holds (not l) → Holds r → n ≡ 0 → x ≡ y) →
    pick (not s) (refused 3) (pick f (refused 5) (pick l (refused 1) (pick (not r) (refused 4) (refused_or n x))))
    ≡ pick (not s) (refused 3) (pick f (refused 5) (pick l (refused 1) (pick (not r) (refused 4) (refused_or n y))))
through s f false true zero x y h = rw (h tt tt refl)
through s f true true zero x y h = refl
through s f l true (suc n) x y h = refl
through s f l false n x y h = refl

at_least : (b : Bool) (k : ℕ) → 4 ≤ pick b 968 (4 + k)
at_least true k = omega arith
at_least false k = omega arith

some_more : (rs : List Result) (r : Result) → empty (rs ++ (r ∷ [])) ≡ false
some_more [] r = refl
some_more (s ∷ rs) r = refl

-- before the first result there is room for one of each task that may deliver one
room : (j : Job) → SoFar j → Holds (not (empty j.tasks)) → 4 * left j ≤ later j
unfolding later
room j so tasked = go (empty j.results) (ready so tasked).0
  where
    go : (b : Bool) → Kept j
        → 4 * left j ≤ pick b (5 * (256 - length j.tasks) + 5 * (1024 - length j.edges) + 1004) (4 * left j)
    go true k = left_most no_edge j k.edges_join k.edges_rise k.few_tasks k.few_edges
    go false k = omega arith

-- one record, where what is left is settled by as many bytes as it needs
module _ (n : ℕ) (rest : List ℕ) (j : Job) (so : SoFar j) (h : need j ≤ suc n)
    (ih : (s : ℕ) (i : Job) → SoFar i → s + need i ≤ n → records (take n rest) s i ≡ records rest s i) where
  some_left : 4 ≤ suc n
  unfolding need
  some_left = omega (arith, at_least (no_rack j) (4 * length (pairs_due j)))

  body_inside : (k : Kind) → Holds (stands j k) → Holds (not (full j k)) → body_length k ≤ n
  unfolding need later full body_length
  body_inside rack s f = omega (arith, some_left)
  body_inside step s f =
      omega (
        arith,
        nleb→lt 256 (length j.tasks) f,
        rw (ap empty (step_placed j s).2) at h,
        at_least (no_rack j) (4 * length (pairs_due j)),
      )
  body_inside link s f =
      omega (
        arith,
        nleb→lt 1024 (length j.edges) f,
        rw (ap empty (link_placed j s).1) at h,
        at_least (no_rack j) (4 * length (pairs_due j)),
      )
  body_inside end s f = omega arith
  body_inside wire s f = omega (arith, some_left)
  body_inside result s f = omega (arith, some_left)

  left_inside : (k : Kind) → Untroubled rest j k → 1 ≤ body_length k → body_length k + need (added j k rest) ≤ n
  unfolding need later stands full body_length in_range added no_rack pairs_due
  left_inside rack u b =
      let p = platform_facts (platform_in rest) u.ranges in
      let few : length (drop (length j.wires) (wire_pairs (platform_in rest))) ≤ 240 =
      omega (arith, length-drop (length j.wires) (wire_pairs (platform_in rest)), few_pairs (platform_in rest) p.1) in
      rw (ne_eqb (platform_in rest).processors 0 (λ z. omega (arith, p.0)))
      (omega (arith, rw (is_true (no_rack j) u.placed) at h, later_rack j (platform_in rest)))
  left_inside wire u b =
      let d = due_ends (pairs_due j) (wire_in rest) (wire_fits j rest u.fits) in
      let racked : Holds (not (no_rack j)) = (wire_placed j u.placed).0 in
      rw (is_not (no_rack j) racked, due_then j (ends (wire_in rest)) d.0 (wire_in rest) d.1)
      (omega (arith, ap length d.1, rw (is_not (no_rack j) racked) at h, later_wire j (wire_in rest ∷ [])))
  left_inside step u b =
      let e : empty j.results ≡ true = ap empty (step_placed j u.placed).2 in
      rw (e, length-append j.tasks (duration_in rest ∷ [])) (omega (arith, nleb→lt 256 (length j.tasks) u.room, rw e at h))
  left_inside link u b =
      let e : empty j.results ≡ true = ap empty (link_placed j u.placed).1 in
      rw (e, length-append j.edges (edge_in rest ∷ [])) (omega (arith, nleb→lt 1024 (length j.edges) u.room, rw e at h))
  left_inside result u b =
      rw (some_more j.results (result_in rest))
      (omega (arith, room j so u.placed, left_less j (result_in rest) (result_fits j rest u.fits)))
  left_inside end u b = absurd (omega arith)

  more_same : (k : Kind) → Untroubled rest j k → 1 ≤ body_length k →
      records (take n rest) (body_length k) (added j k (take n rest)) ≡ records rest (body_length k) (added j k rest)
  more_same k u b =
      rw (same n rest j k (body_inside k u.placed u.room)).more
      (ih (body_length k) (added j k rest) (grown k rest so u) (left_inside k u b))

  after_same : (k : Kind) → Untroubled rest j k → after k (take n rest) j (records (take n rest)) ≡ after k rest j (records rest)
  unfolding after body_length
  after_same rack u = more_same rack u (omega arith)
  after_same step u = more_same step u (omega arith)
  after_same link u = more_same link u (omega arith)
  after_same wire u = more_same wire u (omega arith)
  after_same result u = more_same result u (omega arith)
  after_same end u = rw (empty_prefix n rest (omega (arith, some_left)))

  judged_same : (o : Option Kind) → judged o (take n rest) j (records (take n rest)) ≡ judged o rest j (records rest)
  unfolding judged
  judged_same none = refl
  judged_same (some k) = go (either (stands j k)) (either (full j k))
    where
      go : Holds (stands j k) ⊎ Holds (not (stands j k)) → Holds (full j k) ⊎ Holds (not (full j k)) →
          judged (some k) (take n rest) j (records (take n rest)) ≡ judged (some k) rest j (records rest)
      go (inr s) f = misplaced k (take n rest) j (records (take n rest)) s ∙ sym (misplaced k rest j (records rest) s)
      go (inl s) (inl f) = crowded k (take n rest) j (records (take n rest)) s f ∙ sym (crowded k rest j (records rest) s f)
      go (inl s) (inr f) =
          let b : body_length k ≤ n = body_inside k s f in
          let e : Same (take n rest) rest j k = same n rest j k b in
          rw (short_prefix (body_length k) n rest b, e.range, e.fit)
          (through (stands j k) (full j k) (ltb (length rest) (body_length k)) (in_range k rest) (misfit j k rest) _ _
          (λ w r m. after_same k (record { placed = s; room = f; whole = nltb→le (length rest) (body_length k) w; ranges = r; fits = m })))

-- so many bytes are enough
enough : (xs : List ℕ) (s n : ℕ) (j : Job) → SoFar j → s + need j ≤ n → records (take n xs) s j ≡ records xs s j
unfolding records need
enough [] s n j so h = rw (take-nil {A = ℕ} n)
enough (b ∷ xs) s zero j so h = absurd (omega (arith, at_least (no_rack j) (4 * length (pairs_due j))))
enough (b ∷ xs) (suc s) (suc n) j so h = enough xs s n j so (omega arith)
enough (b ∷ xs) zero (suc n) j so h = judged_same n xs j so (omega arith) (λ s i. enough xs s n i) (kind_of b)

pub first_bytes : (file : List ℕ) (n : ℕ) → settling_length ≤ n → read_job (take n file) ≡ read_job file
unfolding read_job need later blank no_rack
first_bytes file n h = enough file 0 n blank nothing (omega arith)
