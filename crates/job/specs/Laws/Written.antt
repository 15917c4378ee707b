-- The file of a job has the length that document 01 gives it, what the writer's answer tells, and that a job that is taken is read back.
use Rattle.std.specs.Prelude.{Bool, true, false, not, ◌≡◌, refl, ℕ, ◌+◌, ◌*◌, ◌≤◌, ltb, T as Holds, length, take, drop}
use Rattle.std.proofs.Common.{ap, ◌∙◌, sym, arith, ltb-false, length-append, take_at}
use mathlib.Core.List.{List, flat_map}
use Rattle.base.specs.Choice.{pick}
use Rattle.base.specs.Laws.Tests.{impossible, when_false}
use Rattle.base.specs.Laws.Stored.{flat_size}
use Rattle.job.specs.Job.{Job}
use Rattle.job.specs.Read.{Answer, accepted, refused, read_job}
use Rattle.job.specs.Write.{Length, Refused}
use Rattle.job.specs.Write.{rack_bytes, wire_bytes, step_bytes, link_bytes, result_bytes, file_of, room_for, is_too_many, write_answer}
use Rattle.job.specs.Write.{write_out}
use Rattle.job.specs.Pass.{job_trouble}
use Rattle.job.specs.Laws.Met.{Writable, met, met_accepted}
use Rattle.job.specs.Laws.Sizes.{wire_size, step_size, link_size, result_size}

pub file_size : (j : Job)
    → length (file_of j) ≡ 5 + 5 * (length j.tasks + length j.edges) + 4 * (length j.wires + length j.results)
unfolding file_of rack_bytes step_bytes link_bytes
file_size j =
    let w : length (flat_map wire_bytes j.wires) ≡ 4 * length j.wires = flat_size wire_bytes 4 wire_size j.wires in
    let s : length (flat_map step_bytes j.tasks) ≡ 5 * length j.tasks = flat_size step_bytes 5 step_size j.tasks in
    let l : length (flat_map link_bytes j.edges) ≡ 5 * length j.edges = flat_size link_bytes 5 link_size j.edges in
    let r : length (flat_map result_bytes j.results) ≡ 4 * length j.results = flat_size result_bytes 4 result_size j.results in
    simp length-append (omega arith)

-- what holds where the writer takes a job
pub record Takes (m l n : ℕ) (j : Job) (out : List ℕ) : Type 0 where
  pub few : Holds (not (is_too_many m l))
  pub size : n ≡ length (file_of j)
  pub room : n ≤ length out
  pub job : Job
  pub read : read_job (file_of j) ≡ accepted job

pub takes : (m l n : ℕ) (j : Job) (out : List ℕ) → write_answer m l j out ≡ Length n → Takes m l n j out
unfolding write_answer room_for
takes m l n j out e = go (is_too_many m l) (read_job (file_of j)) (ltb (length out) (length (file_of j))) refl refl refl e
  where
    go : (b : Bool) (a : Answer) (r : Bool) → is_too_many m l ≡ b → read_job (file_of j) ≡ a →
        ltb (length out) (length (file_of j)) ≡ r → pick b (Refused 5) (room_for (file_of j) out a) ≡ Length n → Takes m l n j out
    go true a r hb ha hr h = let z : false ≡ true = cc in impossible z
    go false (refused k) r hb ha hr h = let z : false ≡ true = cc in impossible z
    go false (accepted i) true hb ha hr h = let q : Refused 9 ≡ Length n = rw hr at h in let z : false ≡ true = cc in impossible z
    go false (accepted i) false hb ha hr h =
        let q : Length (length (file_of j)) ≡ Length n = rw hr at h in
        let z : n ≡ length (file_of j) = cc in
        record {
          few = when_false hb;
          size = z;
          room = omega (arith, ltb-false (length out) (length (file_of j)) hr);
          job = i;
          read = ha;
        }

-- a job that the writer takes, written out and read, is the same job
pub read_back : (j : Job) (out : List ℕ) (m l n : ℕ) → (Holds (not (is_too_many m l)) → Writable j) →
    write_answer m l j out ≡ Length n → read_job (take n (write_out (Length n) j out)) ≡ accepted j
unfolding write_out
read_back j out m l n w e =
    let t : Takes m l n j out = takes m l n j out e in
    let i : t.job ≡ j = met_accepted (job_trouble j) j t.job (sym (met j (w t.few)) ∙ t.read) in
    rw (take_at (file_of j) (drop n out) n (sym t.size)) (t.read ∙ ap accepted i)
