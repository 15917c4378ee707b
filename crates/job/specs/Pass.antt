-- What the private functions promise one another: one record or a pass over one kind of record, from a place of the file to the place
-- after it, and the first trouble of a job. A reader of the public contracts needs nothing of this file.
use Rattle.std.specs.Prelude.{Bool, false, not, ◌&&◌, ◌⊎◌, ◌≡◌, ℕ, zero, suc, ◌+◌, ◌*◌, ◌-◌, ◌≤◌, ◌<◌, leb, ltb, eqb, T as Holds, length}
use Rattle.std.specs.Prelude.{get_or, drop, replicate, Option, Some, None, IfSome, Result, Ok, Err}
use mathlib.Core.List.{List, [], ◌∷◌, ◌++◌, map, flat_map}
use Rattle.std.proofs.Math.Option.{none, some}
use Rattle.std.specs.Int.{w8, w16, w32}
use Rattle.std.proofs.Common.{Fits}
use Rattle.base.specs.Choice.{pick}
use Rattle.base.specs.Lists.{values, upto, any, filter}
use Rattle.job.specs.declared.Arrays.{Arrays}
use Rattle.job.specs.declared.Found.{Found}
use Rattle.job.specs.declared.Platform.{Platform}
use Rattle.job.specs.declared.kind.RecordKind.{RecordKind}
use Rattle.job.specs.declared.kind.RecordKind.TheVariants.{Rack, Step, Link, End, Wire as Wires, Result as Results}
use Rattle.job.specs.declared.parse.Pass.{Pass}
use Rattle.job.specs.declared.parse.FoundLink.{FoundLink}
use Rattle.job.specs.declared.parse.FoundWire.{FoundWire}
use Rattle.job.specs.declared.parse.FoundResult.{FoundResult}
use Rattle.job.specs.declared.record.Pair.{Pair}
use Rattle.job.specs.declared.table.Refusal.{Refusal}
use Rattle.job.specs.declared.table.Refusal.TheVariants.{UnknownKind}
use Rattle.job.specs.Job.{Edge, Wire, Result as Sent, Job, blank, with_rack, with_wires, with_tasks, with_edges, job_with_results}
use Rattle.job.specs.Table.{number_of, trouble}
use Rattle.job.specs.Record.{Kind, rack, step, link, end, wire, result, kind_of, empty, stands, platform_in_range, duration_in_range}
use Rattle.job.specs.Record.{count_in_range, joins, above_last, cost_in_range, wire_pairs, pairs_due, is_due, too_early_number}
use Rattle.job.specs.Record.{has_successor, past_results}
use Rattle.job.specs.Read.{refused, accepted, refused_or, records, read_job, wire_array, result_array, reading_of, reading_as}
use Rattle.job.specs.Write.{edge_held, wire_held, result_held, results_held, file_of}

-- links by their keys: rising by from, then by to, is rising by key, as to is a byte
unfoldable pub key : Edge → ℕ
key e = 256 * e.from + e.to

abbrev pub edge : ℕ → ℕ → ℕ → Edge
edge f t c = record { from = f; to = t; count = c }

abbrev pub wire_of : ℕ → ℕ → ℕ → Wire
wire_of f t c = record { from = f; to = t; cost = c }

abbrev pub result_of : ℕ → ℕ → Sent
result_of T c = record { task = T; count = c }

-- task T is where one of the first l edges comes from
unfoldable pub sends : List ℕ → ℕ → ℕ → Bool
sends from l T = any (λ k. eqb (get_or from k 0) T) (upto l)

-- the results of k tasks from task T on, of those that have a count
unfoldable pub results_from : List ℕ → ℕ → ℕ → List Sent
results_from counts T k = map (result_held counts) (filter (λ i. ltb 0 (get_or counts i 0)) (values (λ i. i) T k))

-- the pairs from p to a processor that is at least q
unfoldable pub row_from : ℕ → ℕ → ℕ → List (ℕ × ℕ)
row_from n p q = map (λ y. (p, y)) (filter (λ y. not (eqb p y)) (values (λ i. i) q (n - q)))

-- the pairs that are at least (p, q), by from, then by to; none from p = n on
unfoldable pub due_from : ℕ → ℕ → ℕ → List (ℕ × ℕ)
due_from n p q = pick (ltb p n) (row_from n p q ++ flat_map (λ x. row_from n x 0) (values (λ i. i) (suc p) (n - suc p))) []

-- x is a pair of different processors below n
pub record OnPair (n : ℕ) (x : Pair) : Type 0 where
  pub from_below : x.from < n
  pub to_below : x.to < n
  pub different : x.from ≡ x.to → ⊥

-- the pairs from the next one on, none where there is no next one
abbrev pub pairs_from : ℕ → Option Pair → List (ℕ × ℕ)
pairs_from n None = []
pairs_from n (Some x) = due_from n x.from x.to

-- the pair after x, by from, then by to, if there is one
pub record PairAfter (n : ℕ) (x : Pair) (r : Option Pair) : Type 0 where
  pub left : pairs_from n r ≡ due_from n x.from (x.to + 1)
  pub on : IfSome r (OnPair n)

-- a if it is a trouble's number, else b
abbrev pub first_of : ℕ → ℕ → ℕ
first_of zero b = b
first_of (suc a) b = suc a

-- the trouble of a rack, 4, or 0 for none
unfoldable pub platform_trouble : Platform → ℕ
platform_trouble p = pick (not (platform_in_range p)) 4 0

-- the trouble of a step, 4, or 0 for none
unfoldable pub step_trouble : ℕ → ℕ
step_trouble d = pick (not (duration_in_range d)) 4 0

-- the trouble of a message count, of a link or a result, 4, or 0 for none
unfoldable pub count_trouble : ℕ → ℕ
count_trouble c = pick (not (count_in_range c)) 4 0

-- the trouble of a link, 4, 6 or 7, or 0 for none; `least` is the least key above the link before
unfoldable pub link_trouble : ℕ → ℕ → Edge → ℕ
link_trouble m least e =
    pick (not (count_in_range e.count)) 4
    (pick (not (joins m e)) 6
    (pick (not (leb least (key e))) 7
    0))

-- the trouble of a wire's cost, 4, or 0 for none
unfoldable pub cost_trouble : ℕ → ℕ
cost_trouble c = pick (not (cost_in_range c)) 4 0

-- the trouble of a wire, 4 or 14, or 0 for none; `due` are the pairs due
unfoldable pub wire_trouble : List (ℕ × ℕ) → Wire → ℕ
wire_trouble due w =
    pick (not (cost_in_range w.cost)) 4
    (pick (not (is_due due w)) 14
    0)

-- the trouble of a result whose task is below m and above that of the one before, 4 or 15, or 0 for none; `sent`: it has a successor
unfoldable pub delivery_trouble : Bool → ℕ → ℕ
delivery_trouble sent c =
    pick (not (count_in_range c)) 4
    (pick sent 15
    0)

-- the trouble of a result, 4 or 15, or 0 for none; `least` is the least task above that of the result before
unfoldable pub result_trouble : ℕ → ℕ → Bool → Sent → ℕ
result_trouble m least sent r =
    pick (not (count_in_range r.count)) 4
    (pick (not (ltb r.task m && not sent && leb least r.task)) 15
    0)

-- the first trouble of wires that stand in their order, or 0
unfoldable pub wires_trouble : List Wire → ℕ
wires_trouble [] = 0
wires_trouble (w ∷ ws) = first_of (cost_trouble w.cost) (wires_trouble ws)

-- the first trouble of the steps, or 0
unfoldable pub steps_trouble : List ℕ → ℕ
steps_trouble [] = 0
steps_trouble (d ∷ ds) = first_of (step_trouble d) (steps_trouble ds)

-- the first trouble of the links, or 0
unfoldable pub links_trouble : ℕ → ℕ → List Edge → ℕ
links_trouble m least [] = 0
links_trouble m least (e ∷ es) = first_of (link_trouble m least e) (links_trouble m (key e + 1) es)

-- the first trouble of results that stand in their order, of tasks below m, or 0; `sent`: which tasks have a successor
unfoldable pub results_trouble : (ℕ → Bool) → List Sent → ℕ
results_trouble sent [] = 0
results_trouble sent (r ∷ rs) = first_of (delivery_trouble (sent r.task) r.count) (results_trouble sent rs)

-- the first trouble of a job whose wires are those of its pairs and whose results stand in their order, of tasks below m, as the reader
-- would meet its records, or 0
unfoldable pub job_trouble : Job → ℕ
job_trouble j =
    first_of (platform_trouble j.platform)
    (first_of (wires_trouble j.wires)
    (first_of (pick (empty j.tasks) 3 0)
    (first_of (steps_trouble j.tasks)
    (first_of (links_trouble (length j.tasks) 0 j.edges)
    (results_trouble (has_successor j.edges) j.results)))))

-- the reader meets the file of a job with this trouble, or 0 and it accepts the job as it is
abbrev pub Met : Job → ℕ → Type 0
Met j trouble = read_job (file_of j) ≡ refused_or trouble (accepted j)

-- steps of these durations: their first trouble; each duration has 32 bits
pub record StepsJudged (durations : List ℕ) (trouble : ℕ) : Type 0 where
  pub first : trouble ≡ steps_trouble durations
  pub fits : (t : ℕ) → Fits w32 (get_or durations t 0)

-- links of these ends and message counts, among m tasks: their first trouble; ends have 8 bits and message counts 16
pub record LinksJudged (from to counts : List ℕ) (m trouble : ℕ) : Type 0 where
  pub first : trouble ≡ links_trouble m 0 (values (edge_held from to counts) 0 (length from))
  pub to_fits : (i : ℕ) → Fits w8 (get_or to i 0)
  pub count_fits : (i : ℕ) → Fits w16 (get_or counts i 0)

-- results of these message counts by task: their first trouble, where the first l edges come from `from`; counts have 16 bits
pub record ResultsJudged (from counts : List ℕ) (l trouble : ℕ) : Type 0 where
  pub first : trouble ≡ results_trouble (sends from l) (results_held counts (length counts))
  pub fits : (T : ℕ) → Fits w16 (get_or counts T 0)

-- after any of these jobs, what stands at place `at` is refused with this refusal
abbrev pub Refuses : List ℕ → ℕ → (Job → Type 0) → Refusal → Type 0
Refuses file at Due e = (j : Job) → Due j → records (drop at file) 0 j ≡ refused (number_of e)

-- the kind of the specifications
abbrev pub kind_named : RecordKind → Kind
kind_named Rack = rack
kind_named Step = step
kind_named Link = link
kind_named End = end
kind_named Wires = wire
kind_named Results = result

-- a byte names this kind, or none
abbrev pub Names : ℕ → Result RecordKind Refusal → Type 0
Names b (Ok k) = kind_of b ≡ some (kind_named k)
Names b (Err e) = (kind_of b ≡ none) × (e ≡ UnknownKind)

-- no record of this kind stands at place `at`
abbrev pub NoneThere : List ℕ → ℕ → Kind → Type 0
NoneThere file at k = at < length file → kind_of (get_or file at 0) ≡ some k → ⊥

-- a record of no kind stands at place `at`, or none at all
pub record NoKind (file : List ℕ) (at : ℕ) (e : Refusal) : Type 0 where
  pub answer : (j : Job) → records (drop at file) 0 j ≡ refused (number_of e)
  pub none_there : (k : Kind) → NoneThere file at k

-- the kind of the record at place `at`
abbrev pub KindFound : List ℕ → ℕ → Result RecordKind Refusal → Type 0
KindFound file at (Ok k) = (at < length file) × (kind_of (get_or file at 0) ≡ some (kind_named k))
KindFound file at (Err e) = NoKind file at e

-- the answer to whether a record of this kind stands at place `at`
pub record StandsThere (file : List ℕ) (at : ℕ) (kind : Kind) (answer : Bool) : Type 0 where
  pub yes : Holds answer → (at < length file) × (kind_of (get_or file at 0) ≡ some kind)
  pub no : Holds (not answer) → NoneThere file at kind

-- the rack at the file's first byte: what is left to judge is the file past it
pub record RackRead (file : List ℕ) (p : Platform) : Type 0 where
  pub answer : read_job file ≡ records (drop 4 file) 0 (with_rack blank p)
  pub inside : 4 ≤ length file
  pub in_range_lem : Holds (platform_in_range p)

-- .. or the file is refused
abbrev pub RackPassed : List ℕ → Result Platform Refusal → Type 0
RackPassed file (Ok p) = RackRead file p
RackPassed file (Err e) = read_job file ≡ refused (number_of e)

-- a job so far that a wire may follow, and the pairs due
pub record WireDue (j : Job) (due : List (ℕ × ℕ)) : Type 0 where
  pub placed : Holds (stands j wire)
  pub due_are : pairs_due j ≡ due

-- the wire at place `at`, where `due` is the next pair due, if there is one: what is left to judge is the file past it, with this wire
-- more
pub record WireRead (file : List ℕ) (at n : ℕ) (due : Option Pair) (w : FoundWire) : Type 0 where
  pub answer : (j : Job) → WireDue j (pairs_from n due) →
      records (drop at file) 0 j ≡ records (drop (at + 4) file) 0 (with_wires j (wire_of w.pair.from w.pair.to w.cost ∷ []))
  pub inside : at + 4 ≤ length file
  pub is_due_lem : due ≡ Some w.pair

abbrev pub WirePassed : List ℕ → ℕ → ℕ → Option Pair → Result FoundWire Refusal → Type 0
WirePassed file at n due (Ok w) = WireRead file at n due w
WirePassed file at n due (Err e) = Refuses file at (λ j. WireDue j (pairs_from n due)) e

-- a job so far that a step may follow, with m steps
pub record StepDue (j : Job) (m : ℕ) : Type 0 where
  pub placed : Holds (stands j step)
  pub tasks_are : length j.tasks ≡ m

-- the step at place `at`, after m steps: what is left to judge is the file past it, with this step more
pub record StepRead (file : List ℕ) (at m d : ℕ) : Type 0 where
  pub answer : (j : Job) → StepDue j m →
      records (drop at file) 0 j ≡ refused_or (too_early_number j) (records (drop (at + 5) file) 0 (with_tasks j (d ∷ [])))
  pub inside : at + 5 ≤ length file
  pub few : m < 256

abbrev pub StepPassed : List ℕ → ℕ → ℕ → Result ℕ Refusal → Type 0
StepPassed file at m (Ok d) = StepRead file at m d
StepPassed file at m (Err e) = Refuses file at (λ j. StepDue j m) e

-- an array of n places whose first k are filled, and whose others are 0
pub record Front (n k : ℕ) (xs : List ℕ) : Type 0 where
  pub long : length xs ≡ n
  pub spare : drop k xs ≡ replicate (n - k) 0

-- a job so far that the first step may follow, and of the kinds that a record at place `at` can have, no other
pub record StepsDue (file : List ℕ) (at : ℕ) (j : Job) : Type 0 where
  pub due : StepDue j 0
  pub wired : too_early_number j ≡ 0
  pub alone : at < length file → (k : Kind) → kind_of (get_or file at 0) ≡ some k → (k ≡ step) ⊎ Holds (not (stands j k))

-- a job so far with a rack and no step, and pairs due
pub record PairsDue (j : Job) : Type 0 where
  pub due : StepDue j 0
  pub early : too_early_number j ≡ 14

-- what stands at place `at` is no wire, but pairs are due
abbrev pub EarlyPassed : List ℕ → ℕ → Refusal → Type 0
EarlyPassed file at e = Refuses file at PairsDue e

-- the wires of a rack from place `at` on were taken, and no wire stands at `next`: what is left to judge is the file from there on, with
-- these wires, and the steps are due
pub record WiresTaken (file : List ℕ) (at : ℕ) (p : Platform) (costs : List ℕ) (next : ℕ) : Type 0 where
  pub answer : records (drop at file) 0 (with_rack blank p)
      ≡ records (drop next file) 0 (with_wires (with_rack blank p) (map (wire_held costs) (wire_pairs p)))
  pub inside : next ≤ length file
  pub due : StepsDue file next (with_wires (with_rack blank p) (map (wire_held costs) (wire_pairs p)))
  pub spare : wire_array (map (wire_held costs) (wire_pairs p)) ≡ costs

abbrev pub WiresPassed : List ℕ → ℕ → Platform → List ℕ → Result ℕ Refusal → Type 0
WiresPassed file at p costs (Ok next) = WiresTaken file at p costs next
WiresPassed file at p costs (Err e) = records (drop at file) 0 (with_rack blank p) ≡ refused (number_of e)

-- m steps from place `at` on were taken, and no step stands at `next`: what is left to judge is the file from there on, with these steps
-- more
pub record StepsTaken (file : List ℕ) (at : ℕ) (durations : List ℕ) (m next : ℕ) : Type 0 where
  pub answer : (j : Job) → StepsDue file at j →
      records (drop at file) 0 j ≡ records (drop next file) 0 (with_tasks j (values (λ t. get_or durations t 0) 0 m))
  pub some_task : 1 ≤ m
  pub few_tasks : m ≤ 256
  pub inside : next < length file
  pub over : NoneThere file next step
  pub front : Front 256 m durations

abbrev pub StepsPassed : List ℕ → ℕ → List ℕ → Result Pass Refusal → Type 0
StepsPassed file at durations (Ok r) = StepsTaken file at durations r.count r.next
StepsPassed file at durations (Err e) = Refuses file at (StepsDue file at) e

-- least is the least key of a link above the last of es
abbrev pub Above : List Edge → ℕ → Type 0
Above es least = (e : Edge) → e.to < 256 → above_last es e ≡ leb least (key e)

-- a job so far that a link may follow, with m steps and l links; `least` is the least key above the last link
pub record LinkDue (j : Job) (m l least : ℕ) : Type 0 where
  pub placed : Holds (stands j link)
  pub tasks_are : length j.tasks ≡ m
  pub edges_are : length j.edges ≡ l
  pub above : Above j.edges least

-- the link at place `at`: what is left to judge is the file past it, with this link more
pub record LinkRead (file : List ℕ) (at m l least : ℕ) (r : FoundLink) : Type 0 where
  pub answer : (j : Job) → LinkDue j m l least →
      records (drop at file) 0 j ≡ records (drop (at + 5) file) 0 (with_edges j (edge r.from r.to r.count ∷ []))
  pub inside : at + 5 ≤ length file
  pub few : l < 1024
  pub byte : r.to < 256

abbrev pub LinkPassed : List ℕ → ℕ → ℕ → ℕ → ℕ → Result FoundLink Refusal → Type 0
LinkPassed file at m l least (Ok r) = LinkRead file at m l least r
LinkPassed file at m l least (Err e) = Refuses file at (λ j. LinkDue j m l least) e

-- a job so far that a result may follow, with m steps; `sent` says which tasks have a successor, and `least` is the least task above that
-- of the last result
pub record ResultDue (j : Job) (m least : ℕ) (sent : List Bool) : Type 0 where
  pub placed : Holds (stands j result)
  pub tasks_are : length j.tasks ≡ m
  pub sent_are : (T : ℕ) → T < 256 → get_or sent T false ≡ has_successor j.edges T
  pub above : (T : ℕ) → past_results j.results T ≡ leb least T

-- the result at place `at`: what is left to judge is the file past it, with this result more
pub record ResultRead (file : List ℕ) (at m least : ℕ) (sent : List Bool) (r : FoundResult) : Type 0 where
  pub answer : (j : Job) → ResultDue j m least sent →
      records (drop at file) 0 j ≡ records (drop (at + 4) file) 0 (job_with_results j (result_of r.task r.count ∷ []))
  pub inside : at + 4 ≤ length file
  pub byte : r.task < 256
  pub some_message : 1 ≤ r.count
  pub within : r.task < m
  pub rises : least ≤ r.task

abbrev pub ResultPassed : List ℕ → ℕ → ℕ → ℕ → List Bool → Result FoundResult Refusal → Type 0
ResultPassed file at m least sent (Ok r) = ResultRead file at m least sent r
ResultPassed file at m least sent (Err e) = Refuses file at (λ j. ResultDue j m least sent) e

-- the results from place `at` on were taken, and no result stands at `next`, which is place `at` where there were none: what is left to
-- judge is the file from there on, with these results more
pub record ResultsTaken (file : List ℕ) (at m : ℕ) (sent : List Bool) (counts : List ℕ) (next : ℕ) : Type 0 where
  pub answer : (j : Job) → ResultDue j m 0 sent →
      records (drop at file) 0 j ≡ records (drop next file) 0 (job_with_results j (results_held counts m))
  pub inside : next ≤ length file
  pub first : results_held counts m ≡ [] → next ≡ at
  pub over : NoneThere file next result
  pub spare : result_array (results_held counts m) ≡ counts

abbrev pub ResultsPassed : List ℕ → ℕ → ℕ → List Bool → List ℕ → Result ℕ Refusal → Type 0
ResultsPassed file at m sent counts (Ok next) = ResultsTaken file at m sent counts next
ResultsPassed file at m sent counts (Err e) = Refuses file at (λ j. ResultDue j m 0 sent) e

-- a job so far that the end record may follow, and of the kinds that a record at place `at` can have, no other
pub record EndDue (file : List ℕ) (at : ℕ) (j : Job) : Type 0 where
  pub placed : Holds (stands j end)
  pub alone : at < length file → (k : Kind) → kind_of (get_or file at 0) ≡ some k → (k ≡ end) ⊎ Holds (not (stands j k))

-- the end record at place `at`: the job so far is accepted, or refused
abbrev pub EndPassed : List ℕ → ℕ → Result (Unit {0}) Refusal → Type 0
EndPassed file at r = (j : Job) → EndDue file at j → records (drop at file) 0 j ≡ refused_or (trouble r) (accepted j)

-- what was found in a file, beside the arrays that hold its job; or the file is refused
abbrev pub Filling : List ℕ → Arrays → Result Found Refusal → Type 0
Filling file a (Ok r) = reading_as r a ≡ reading_of (read_job file)
Filling file a (Err e) = read_job file ≡ refused (number_of e)
