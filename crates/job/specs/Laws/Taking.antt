-- What reading keeps: the answer to a file is the answer to its rest, with the job that the arrays hold so far; from the first link on
-- (`Going`), and from the end record on (`Ready`).
use Rattle.std.specs.Prelude.{Bool, not, ◌⊎◌, ◌≡◌, ℕ, ◌+◌, ◌*◌, ◌≤◌, ◌<◌, T as Holds, get_or, drop, set, Result, Ok, Err}
use Rattle.std.proofs.Math.Bool.{false}
use Rattle.std.proofs.Math.Logic.{inl, inr}
use Rattle.std.proofs.Math.Path.{refl, ap, sym}
use Rattle.std.proofs.Common.{◌∙◌}
use mathlib.Core.List.{List, [], map}
use Rattle.std.proofs.Math.Option.{some}
use native.Mathlib.Omega.{arith}
use Rattle.std.proofs.Math.ListN.{length}
use Rattle.base.specs.Lists.{values}
use Rattle.base.specs.Laws.Tests.{fails, ne→neqb}
use Rattle.base.specs.Laws.Values.{length-values, value_at}
use Rattle.job.specs.declared.Arrays.{Arrays}
use Rattle.job.specs.declared.Found.{Found}
use Rattle.job.specs.declared.Platform.{Platform}
use Rattle.job.specs.declared.Verdict.TheVariants.{Counts, Refused}
use Rattle.job.specs.declared.parse.FoundLink.{FoundLink}
use Rattle.job.specs.declared.table.Refusal.{Refusal}
use Rattle.job.specs.Job.{Job, blank, with_rack, with_wires}
use Rattle.job.specs.Record.{Kind, rack, step, link, end, wire, result, kind_of, no_rack, stands, wire_pairs}
use Rattle.job.specs.Read.{accepted, refused, refused_or, records, read_job, padded, result_array, arrays_of, reading_of}
use Rattle.job.specs.Read.{reading_as}
use Rattle.job.specs.Write.{wire_held, results_held, held_job, gathered}
use Rattle.job.specs.Table.{number_of, trouble, is_trouble}
use Rattle.job.specs.Pass.{edge, key, sends, NoneThere, RackRead, WiresTaken, StepsTaken, LinkDue, LinkRead}
use Rattle.job.specs.Pass.{Refuses, ResultDue, ResultsTaken, EndPassed}
use Rattle.job.specs.Laws.Judged.{stops}
use Rattle.job.specs.Laws.Tests.{platform_facts}
use Rattle.job.specs.Laws.Due.{first_link, next_link, step_placed, link_placed, wire_placed}
use Rattle.job.specs.Laws.Columns.{edges_set}
use Rattle.job.specs.Laws.Results.{no_results, array_none, sends_are, past_none}
use Rattle.job.specs.Laws.Spare.{Filled, front_none, front_set, arrays_back}

-- a refusal, beside arrays that are all 0
pub nothing_read : (file : List ℕ) (e : Refusal) (r : Found) (a : Arrays) → r ≡ record { verdict = Refused (number_of e); platform = blank.platform } →
    a ≡ arrays_of blank → read_job file ≡ refused (number_of e) → reading_as r a ≡ reading_of (read_job file)
unfolding reading_of
nothing_read file e r a f z q = rw (q, f, z) refl

-- l links were taken up to place `at`, and the arrays hold the job so far
pub record Going (file : List ℕ) (p : Platform) (m : ℕ) (a : Arrays) (l at least : ℕ) : Type 0 where
  pub some_processor : 1 ≤ p.processors
  pub some_task : 1 ≤ m
  pub few_tasks : m ≤ 256
  pub few_edges : l ≤ 1024
  pub inside : at ≤ length file
  pub over : l ≡ 0 → NoneThere file at step
  pub filled : Filled p m l a
  pub due : LinkDue (held_job p m l a) m l least
  pub same : read_job file ≡ records (drop at file) 0 (held_job p m l a)

-- no edge yet: the rest of the arrays is 0
module _ (file : List ℕ) (p : Platform) (x : RackRead file p) where
  module _ (costs : List ℕ) (after_wires : ℕ) (v : WiresTaken file 4 p costs after_wires) where
    abbrev pub joined : Job
    joined = with_wires (with_rack blank p) (map (wire_held costs) (wire_pairs p))

    pub begun : (durations : List ℕ) (m next : ℕ) → StepsTaken file after_wires durations m next → (z : Arrays) → z ≡ arrays_of blank →
        Going file p m (gathered durations z.from z.to z.counts costs z.results) 0 next 0
    unfolding held_job values blank arrays_of padded
    begun durations m next t z e =
        let empty : z.results ≡ result_array [] = ap (λ (a : Arrays). a.results) e in
        let none : results_held z.results m ≡ [] = no_results z.results m (λ T. rw empty (array_none T)) in
        record {
          some_processor = (platform_facts p x.in_range_lem).0;
          some_task = t.some_task;
          few_tasks = t.few_tasks;
          few_edges = omega arith;
          inside = omega (arith, t.inside);
          over = λ q. t.over;
          filled = record {
            durations = t.front;
            from = front_none 1024 z.from (rw e);
            to = front_none 1024 z.to (rw e);
            counts = front_none 1024 z.counts (rw e);
            wires = v.spare;
            results = ap result_array none ∙ sym empty;
          };
          due = first_link _ m t.some_task (length-values _ 0 m) refl none;
          same = rw none (x.answer ∙ v.answer ∙ t.answer joined v.due);
        }

module _ {file : List ℕ} {p : Platform} {m : ℕ} {a : Arrays} {l at least : ℕ} (g : Going file p m a l at least) where
  abbrev pub held : Job
  held = held_job p m l a

  -- one link more
  pub on : (r : FoundLink) → LinkRead file at m l least r → (q : ℕ) → q ≡ 256 * r.from + r.to →
      Going file p m (gathered a.durations (set a.from l r.from) (set a.to l r.to) (set a.counts l r.count) a.wires
      a.results) (l + 1) (at + 5) (q + 1)
  unfolding held_job key
  on r x q e =
      let few : l < 1024 = x.few in
      let grown = edges_set a.from a.to a.counts l r.from r.to r.count (omega (arith, g.filled.from.long))
      (omega (arith, g.filled.to.long)) (omega (arith, g.filled.counts.long)) in
      record {
        some_processor = g.some_processor;
        some_task = g.some_task;
        few_tasks = g.few_tasks;
        few_edges = omega arith;
        inside = x.inside;
        over = λ q. let n : ⊥ = omega arith in absurd n;
        filled = record {
          durations = g.filled.durations;
          from = front_set g.filled.from r.from few;
          to = front_set g.filled.to r.to few;
          counts = front_set g.filled.counts r.count few;
          wires = g.filled.wires;
          results = g.filled.results;
        };
        due = rw (grown, e) (next_link g.due (edge r.from r.to r.count) x.byte);
        same = g.same ∙ x.answer held g.due ∙ rw grown;
      }

  -- after the links there are a task and no result yet
  placed : Holds (stands held result)
  unfolding stands
  placed = (link_placed held g.due.placed).0

  none_yet : held.results ≡ []
  none_yet = (link_placed held g.due.placed).1

  pub undelivered : a.results ≡ result_array []
  unfolding held_job
  undelivered = sym g.filled.results ∙ ap result_array none_yet

  -- nothing but the end record may stand at place `next`, and the arrays hold the job
  pub record Ready (b : Arrays) (next : ℕ) : Type 0 where
    pub inside : next ≤ length file
    pub answer : (r : Result (Unit {0}) Refusal) → EndPassed file next r →
        read_job file ≡ refused_or (trouble r) (accepted (held_job p m l b))
    pub whole : record { verdict = Counts m l; platform = p; arrays = b } ≡ reading_of (accepted (held_job p m l b))

  abbrev pub with : List ℕ → Arrays
  with counts = gathered a.durations a.from a.to a.counts a.wires counts

  module _ (no-link : NoneThere file at link) (counts : List ℕ) (next : ℕ) (first : results_held counts m ≡ [] → next ≡ at)
      (over : NoneThere file next result) (spare : result_array (results_held counts m) ≡ counts) (inside : next ≤ length file) where
    abbrev job : Job
    job = held_job p m l (with counts)

    alone : next < length file → (k : Kind) → kind_of (get_or file next 0) ≡ some k → (k ≡ end) ⊎ Holds (not (stands job k))
    unfolding held_job stands no_rack
    alone h rack e = inr (ne→neqb p.processors 0 (λ q. omega (arith, g.some_processor)))
    alone h step e = inr (fails (stands job step) (λ s.
        let f = step_placed job s in
        g.over (sym g.due.edges_are ∙ ap length f.1) (rw (first f.2) at h) (rw (first f.2) at e)))
    alone h link e = inr (fails (stands job link) (λ s.
        let i = first (link_placed job s).1 in
        no-link (rw i at h) (rw i at e)))
    alone h end e = inl refl
    alone h wire e = inr (fails (stands job wire) (λ s.
        let n : length job.tasks ≡ 0 = ap length (wire_placed job s).2 in omega (arith, g.some_task, g.due.tasks_are)))
    alone h result e = absurd (over h e)

    ready : read_job file ≡ records (drop next file) 0 job → Ready (with counts) next
    unfolding held_job stands reading_of
    ready same =
        let f : Filled p m l (with counts) = record {
          durations = g.filled.durations;
          from = g.filled.from;
          to = g.filled.to;
          counts = g.filled.counts;
          wires = g.filled.wires;
          results = spare;
        } in
        record {
          inside = inside;
          answer = λ r y. same ∙ y job (record { placed = placed; alone = alone });
          whole = rw (g.due.tasks_are, g.due.edges_are, arrays_back p f g.few_tasks g.few_edges);
        }

  module _ {sent : List Bool} (e : sent ≡ values (sends a.from l) 0 256) where
    result_due : ResultDue held m 0 sent
    unfolding held_job
    result_due = record {
      placed = placed;
      tasks_are = g.due.tasks_are;
      sent_are = λ T h. rw e (value_at (sends a.from l) false 256 T h ∙ sym (sends_are a.from a.to a.counts l T));
      above = λ T. rw none_yet (past_none T);
    }

    pub results-met : (e : Refusal) → Refuses file at (λ j. ResultDue j m 0 sent) e → read_job file ≡ refused (number_of e)
    results-met e x = g.same ∙ x held result_due

    -- the results are taken; or none stands there
    pub taken : (counts : List ℕ) (next : ℕ) → ResultsTaken file at m sent counts next → NoneThere file at link → Ready (with counts) next
    unfolding held_job
    taken counts next t no-link =
        ready no-link counts next t.first t.over t.spare t.inside (g.same ∙ t.answer held result_due ∙ rw none_yet)

  pub untaken : NoneThere file at result → NoneThere file at link → Ready a at
  untaken no_result no-link = ready no-link a.results at (λ z. refl) no_result g.filled.results g.inside g.same

  pub end-met : {b : Arrays} {next : ℕ} → Ready b next → (e : Refusal) → EndPassed file next (Err e) → read_job file ≡ refused (number_of e)
  end-met t e y = t.answer (Err e) y ∙ stops _ _ (is_trouble e)

  -- the job is accepted
  pub accept : {b : Arrays} {next : ℕ} → Ready b next → (u : Unit {0}) → EndPassed file next (Ok u) →
      reading_as (record { verdict = Counts m l; platform = p }) b ≡ reading_of (read_job file)
  accept t u y = t.whole ∙ ap reading_of (sym (t.answer (Ok u) y))
