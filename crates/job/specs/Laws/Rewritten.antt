-- An accepted file is the file of its job: by induction on the chain of turns, the bytes read so far are the records of the job so far,
-- since a number's bytes are those that it was read from.
use Rattle.std.specs.Prelude.{true, false, ◌≡◌, refl, ℕ, zero, suc, ◌+◌, ◌*◌, ◌≤◌, T as Holds, length, take, drop}
use Rattle.std.proofs.Common.{ap, ◌∙◌, sym, arith, le-ltb, eqb→eq, take-append-drop, length-take-le}
use mathlib.Core.List.{List, [], ◌∷◌, ◌++◌, append_assoc, append-nil, map, flat_map}
use Rattle.std.proofs.lemmas.List.{length-map}
use Rattle.base.specs.Number.{number, bytes, Bytes, none, more}
use Rattle.base.specs.Laws.Tests.{impossible}
use Rattle.base.specs.Laws.Number.{bytes_number}
use Rattle.base.specs.Laws.Stored.{flat_append}
use Rattle.job.specs.declared.Platform.{Platform}
use Rattle.job.specs.Job.{Edge, Wire, Result, ends, Job, blank, with_wires, with_tasks, with_edges, job_with_results}
use Rattle.job.specs.Record.{Kind, rack, step, link, end, wire, result, body_length, no_rack, stands, in_range, added, platform_in}
use Rattle.job.specs.Record.{duration_in, edge_in, wire_in, result_in, wire_pairs}
use Rattle.job.specs.Read.{Answer, accepted, read_job}
use Rattle.job.specs.Write.{Length}
use Rattle.job.specs.Write.{rack_bytes, wire_bytes, step_bytes, link_bytes, result_bytes, file_of, greatest_length, room_for, is_too_many}
use Rattle.job.specs.Write.{write_answer, write_out}
use Rattle.job.specs.Cause.{Untroubled}
use Rattle.job.specs.Laws.Tests.{platform_facts}
use Rattle.job.specs.Laws.Written.{file_size}
use Rattle.job.specs.Laws.Lists.{some_in}
use Rattle.job.specs.Laws.Due.{step_placed, link_placed, wire_placed}
use Rattle.job.specs.Laws.Wires.{few_pairs}
use Rattle.job.specs.Laws.Kinds.{kind_byte, kind_byte_lem}
use Rattle.job.specs.Laws.Turn.{Reads, no_more, halted, past, closed, reads}

-- the job so far, and the bytes that it was read from
abbrev bytes_of : Job → List ℕ
bytes_of j =
    rack_bytes j.platform
    ++ (flat_map wire_bytes j.wires
    ++ (flat_map step_bytes j.tasks ++ (flat_map link_bytes j.edges ++ flat_map result_bytes j.results)))

data ReadFrom : Job → List ℕ → Type 0 where
  start : ReadFrom blank []
  under_way : {j : Job} {bs : List ℕ} → 1 ≤ j.platform.processors → (j.tasks ≡ [] → (j.edges ≡ []) × (j.results ≡ []))
      → bs ≡ bytes_of j → ReadFrom j bs

bytes_take : (n : ℕ) (bs : List ℕ) → Bytes bs → Bytes (take n bs)
bytes_take zero bs h = none
bytes_take (suc n) [] none = none
bytes_take (suc n) (b ∷ bs) (more h r) = more h (bytes_take n bs r)

bytes_drop : (n : ℕ) (bs : List ℕ) → Bytes bs → Bytes (drop n bs)
bytes_drop zero bs h = h
bytes_drop (suc n) [] none = none
bytes_drop (suc n) (b ∷ bs) (more h r) = bytes_drop n bs r

-- the bytes of a number are those that it was read from
bytes_back : (k : ℕ) (bs : List ℕ) → Bytes bs → k ≤ length bs → bytes k (number (take k bs)) ≡ take k bs
bytes_back k bs h l = rw (length-take-le k bs l) at (bytes_number (take k bs) (bytes_take k bs h))

-- each record's bytes are those that its values were read from
rack_bytes_lem : (rest : List ℕ) → 3 ≤ length rest → rack_bytes (platform_in rest) ≡ 1 ∷ take 3 rest
unfolding rack_bytes platform_in
rack_bytes_lem [] h = absurd (omega arith)
rack_bytes_lem (a ∷ []) h = absurd (omega arith)
rack_bytes_lem (a ∷ b ∷ []) h = absurd (omega arith)
rack_bytes_lem (a ∷ b ∷ c ∷ rest) h = refl

wire_bytes_lem : (rest : List ℕ) → 3 ≤ length rest → wire_bytes (wire_in rest) ≡ 5 ∷ take 3 rest
unfolding wire_bytes wire_in
wire_bytes_lem [] h = absurd (omega arith)
wire_bytes_lem (a ∷ []) h = absurd (omega arith)
wire_bytes_lem (a ∷ b ∷ []) h = absurd (omega arith)
wire_bytes_lem (a ∷ b ∷ c ∷ rest) h = refl

step_bytes_lem : (rest : List ℕ) → Bytes rest → 4 ≤ length rest → step_bytes (duration_in rest) ≡ 2 ∷ take 4 rest
unfolding step_bytes duration_in
step_bytes_lem rest b h = rw (bytes_back 4 rest)

link_bytes_lem : (rest : List ℕ) → Bytes rest → 4 ≤ length rest → link_bytes (edge_in rest) ≡ 3 ∷ take 4 rest
unfolding link_bytes edge_in
link_bytes_lem [] b h = absurd (omega arith)
link_bytes_lem (x ∷ []) b h = absurd (omega arith)
link_bytes_lem (x ∷ y ∷ rest) (more bx (more by b)) h = rw (bytes_back 2 rest b (omega arith))

result_bytes_lem : (rest : List ℕ) → Bytes rest → 3 ≤ length rest → result_bytes (result_in rest) ≡ 6 ∷ take 3 rest
unfolding result_bytes result_in
result_bytes_lem [] b h = absurd (omega arith)
result_bytes_lem (x ∷ rest) (more bx b) h = rw (bytes_back 2 rest b (omega arith))

flat_map_more : {A : Type 0} (f : A → List ℕ) (xs : List A) (x : A) → flat_map f (xs ++ (x ∷ [])) ≡ flat_map f xs ++ f x
unfolding flat_map
flat_map_more f xs x = flat_append f xs (x ∷ []) ∙ ap (λ (bs : List ℕ). flat_map f xs ++ bs) (append-nil (f x))

-- one record more
grown : (k : Kind) (rest : List ℕ) (j : Job) (bs : List ℕ) → 1 ≤ body_length k → Bytes rest → Untroubled rest j k → ReadFrom j bs →
    ReadFrom (added j k rest) (bs ++ (kind_byte k ∷ take (body_length k) rest))
unfolding body_length added stands no_rack in_range blank flat_map
grown rack rest j bs h b f start =
    let p : Platform = platform_in rest in
    under_way (platform_facts p f.ranges).0 (λ t. (refl, refl)) (sym (rack_bytes_lem rest f.whole) ∙ sym (append-nil (rack_bytes p)))
grown rack rest j bs h b f (under_way n u e) =
    let z : j.platform.processors ≡ 0 = eqb→eq j.platform.processors 0 f.placed in absurd (omega arith)
grown step rest j bs h b f start = absurd f.placed
grown wire rest j bs h b f start = absurd f.placed
grown wire rest j bs h b f (under_way n u e) =
    let w : Wire = wire_in rest in
    let wires : List ℕ = flat_map wire_bytes j.wires in
    let none : j.tasks ≡ [] = (wire_placed j f.placed).2 in
    let none' : j.edges ≡ [] = (u none).0 in
    let none'' : j.results ≡ [] = (u none).1 in
    let q : bs ++ (5 ∷ take 3 rest) ≡ bytes_of (with_wires j (w ∷ [])) =
    rw (
      e,
      none,
      none',
      none'',
      ← wire_bytes_lem rest f.whole,
      append-nil wires,
      flat_map_more wire_bytes j.wires w,
      append-nil (wires ++ wire_bytes w),
    )
    (simp append_assoc) in
    under_way n u q
grown step rest j bs h b f (under_way n u e) =
    let d : ℕ = duration_in rest in
    let steps : List ℕ = flat_map step_bytes j.tasks in
    let none : j.edges ≡ [] = (step_placed j f.placed).1 in
    let none' : j.results ≡ [] = (step_placed j f.placed).2 in
    let q : bs ++ (2 ∷ take 4 rest) ≡ bytes_of (with_tasks j (d ∷ [])) =
    rw (
      e,
      none,
      none',
      ← step_bytes_lem rest b f.whole,
      append-nil steps,
      flat_map_more step_bytes j.tasks d,
      append-nil (steps ++ step_bytes d),
    )
    (simp append_assoc) in
    under_way n (λ t. (none, none')) q
grown link rest j bs h b f start = absurd f.placed
grown link rest j bs h b f (under_way n u e) =
    let x : Edge = edge_in rest in
    let steps : List ℕ = flat_map step_bytes j.tasks in
    let links : List ℕ = flat_map link_bytes j.edges in
    let none : j.results ≡ [] = (link_placed j f.placed).1 in
    let q : bs ++ (3 ∷ take 4 rest) ≡ bytes_of (with_edges j (x ∷ [])) =
    rw (
      e,
      none,
      ← link_bytes_lem rest b f.whole,
      append-nil links,
      flat_map_more link_bytes j.edges x,
      append-nil (links ++ link_bytes x),
    )
    (simp append_assoc) in
    let tasked : j.tasks ≡ [] → (j.edges ++ (x ∷ []) ≡ []) × (j.results ≡ []) =
    λ t. absurd (omega (arith, ap length t, some_in j.tasks (link_placed j f.placed).0)) in
    under_way n tasked q
grown result rest j bs h b f start = absurd f.placed
grown result rest j bs h b f (under_way n u e) =
    let x : Result = result_in rest in
    let q : bs ++ (6 ∷ take 3 rest) ≡ bytes_of (job_with_results j (x ∷ [])) =
    rw (e, ← result_bytes_lem rest b f.whole, flat_map_more result_bytes j.results x)
    (simp append_assoc) in
    let tasked : j.tasks ≡ [] → (j.edges ≡ []) × (j.results ++ (x ∷ []) ≡ []) =
    λ t. absurd (omega (arith, ap length t, some_in j.tasks f.placed)) in
    under_way n tasked q
grown end rest j bs h b f r = absurd (omega arith)

-- the end record closes the file of the job so far
closes : (j : Job) (bs : List ℕ) → Holds (stands j end) → ReadFrom j bs → bs ++ (4 ∷ []) ≡ file_of j
unfolding stands blank file_of
closes j bs s start = absurd s
closes j bs s (under_way n u e) = rw e (simp append_assoc)

-- the bytes read so far and those that are left are the file of the accepted job
whole_file : {xs : List ℕ} {j : Job} {a : Answer} → Reads xs j a → (i : Job) → a ≡ accepted i → Bytes xs → (bs : List ℕ) → ReadFrom j bs →
    bs ++ xs ≡ file_of i
whole_file no_more i e b bs r = let z : false ≡ true = cc in impossible z
whole_file (halted c) i e b bs r = let z : false ≡ true = cc in impossible z
whole_file (past {b = x} {rest = rest} {j = j} k q h f t) i e (more l b) bs r =
    let n : ℕ = body_length k in
    let w : bs ++ (kind_byte k ∷ take n rest) ++ drop n rest ≡ file_of i =
    whole_file t i e (bytes_drop n rest b) (bs ++ (kind_byte k ∷ take n rest)) (grown k rest j bs h b f r) in
    rw (kind_byte_lem x k q) (rw (append_assoc bs (kind_byte k ∷ take n rest) (drop n rest), take-append-drop n rest) at w)
whole_file (closed {b = x} {rest = rest} {j = j} q f z) i e b bs r =
    let y : j ≡ i = cc in
    rw (kind_byte_lem x end q, z, ← y) (closes j bs f.placed r)

-- an accepted file is the file of its job
pub same_file : (file : List ℕ) (j : Job) → Bytes file → read_job file ≡ accepted j → file_of j ≡ file
unfolding read_job
same_file file j b e = sym (whole_file (reads file 0 blank) j e b [] start)

-- .. so the writer takes the job, where it has room, and writes the file
pub written_back : (file : List ℕ) (j : Job) (out : List ℕ) → Bytes file → read_job file ≡ accepted j → length file ≤ length out →
    length j.tasks ≤ 256 → length j.edges ≤ 1024 →
    (write_answer (length j.tasks) (length j.edges) j out ≡ Length (length file))
    × (write_out (Length (length file)) j out ≡ file ++ drop (length file) out)
unfolding write_answer is_too_many room_for write_out
written_back file j out b e h ht he =
    let q : file_of j ≡ file = same_file file j b e in
    (simp (le-ltb 256 (length j.tasks), le-ltb 1024 (length j.edges), q, e, le-ltb (length out) (length file)), rw q)

-- .. and has no more bytes than the greatest one
pub file_bound : (file : List ℕ) (j : Job) → Bytes file → read_job file ≡ accepted j → length j.tasks ≤ 256 → length j.edges ≤ 1024 →
    j.platform.processors ≤ 16 → map ends j.wires ≡ wire_pairs j.platform
    → length j.edges + 255 * length j.results ≤ 255 * length j.tasks → length file ≤ greatest_length
file_bound file j b e ht he few stand delivered =
    let wires : length j.wires ≤ 240 = rw (← length-map j.wires ends, stand) (few_pairs j.platform few) in
    omega (arith, file_size j, ap length (same_file file j b e))
