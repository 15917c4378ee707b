-- `emit::Judged::put`: the parts are put one after the other, and so is the file; each has room, as the file has.
use Rattle.std.proofs.Common.{◌≡◌, ℕ, ◌+◌, ◌≤◌, refl, ap, sym, ◌∙◌, arith, length, length-append}
use mathlib.Core.List.{List, [], ◌∷◌, ◌++◌, flat_map, append_assoc, append-nil}
use Rattle.base.specs.Slices.{Put}
use Rattle.base.specs.Laws.Put.{put_none, put_then}
use Rattle.job.specs.Job.{Job}
use Rattle.job.specs.Write.{rack_bytes, wire_bytes, step_bytes, link_bytes, result_bytes, file_of, held_job, job_held}
use Rattle.job.proofs.emit.Judged.put.Goals as goal
use Rattle.job.proofs.emit.Judged.put.Goals.{After-put_results-end}

joined : List (List ℕ) → List ℕ
joined [] = []
joined (t ∷ ts) = t ++ joined ts

-- a file has been put up to `at`, these parts are left, and there is room for the file
record Going (file out₀ out : List ℕ) (at : ℕ) (left : List (List ℕ)) : Type 0 where
  so_far : List ℕ
  parts : file ≡ so_far ++ joined left
  put : Put out₀ out 0 at so_far
  long : length out ≡ length out₀
  fits : length file ≤ length out₀

done : {file out₀ out : List ℕ} {at : ℕ} → Going file out₀ out at [] → Put out₀ out 0 at file
unfolding joined
done g = rw (g.parts, append-nil g.so_far) g.put

module _ {file out₀ out : List ℕ} {at : ℕ} {t : List ℕ} {ts : List (List ℕ)} (g : Going file out₀ out at (t ∷ ts)) where
  room : at + length t ≤ length out
  unfolding joined
  room = omega (
    arith,
    g.put.past,
    g.long,
    g.fits,
    ap length g.parts,
    length-append g.so_far (t ++ joined ts),
    length-append t (joined ts),
  )

  next : {out' : List ℕ} {n : ℕ} → Put out out' at n t → length out' ≡ length out → Going file out₀ out' n ts
  unfolding joined
  next q same = record {
    so_far = g.so_far ++ t;
    parts = g.parts ∙ sym (append_assoc g.so_far t (joined ts));
    put = put_then g.put q;
    long = same ∙ g.long;
    fits = g.fits;
  }

module _ (j : Job) where
  abbrev parts_of : List (List ℕ)
  parts_of =
      (1 ∷ j.platform.processors ∷ j.platform.topology ∷ j.platform.unit ∷ [])
      ∷ flat_map wire_bytes j.wires
      ∷ flat_map step_bytes j.tasks
      ∷ flat_map link_bytes j.edges
      ∷ flat_map result_bytes j.results
      ∷ (4 ∷ [])
      ∷ []

  begin : (out : List ℕ) → length (file_of j) ≤ length out → Going (file_of j) out out 0 parts_of
  unfolding file_of rack_bytes joined
  begin out fits = record { so_far = []; parts = refl; put = put_none out 0; long = refl; fits = fits }

pub put-wires-requires : goal.put-wires-requires
unfolding held_job
put-wires-requires c = room (begin (job_held c.args.self.now.job) _ c.requires)

-- after each call all but the parts put so far are left
pub put_wires-steps-requires : goal.put_wires-steps-requires
unfolding held_job
put_wires-steps-requires c =
    let g = begin (job_held c.args.self.now.job) _ c.requires in
    room (next g c.put-wires.ensures c.put-wires.auto.out)

pub put_steps-links-requires : goal.put_steps-links-requires
unfolding held_job
put_steps-links-requires c =
    let g = next (begin (job_held c.args.self.now.job) _ c.requires) c.put-wires.ensures c.put-wires.auto.out in
    room (next g c.put_wires-steps.ensures c.put_wires-steps.auto.out)

pub put_links-results-requires : goal.put_links-results-requires
unfolding held_job
put_links-results-requires c =
    let g = next (begin (job_held c.args.self.now.job) _ c.requires) c.put-wires.ensures c.put-wires.auto.out in
    let h = next g c.put_wires-steps.ensures c.put_wires-steps.auto.out in
    room (next h c.put_steps-links.ensures c.put_steps-links.auto.out)

pub put_results-end-requires : goal.put_results-end-requires
unfolding held_job
put_results-end-requires c =
    let g = next (begin (job_held c.args.self.now.job) _ c.requires) c.put-wires.ensures c.put-wires.auto.out in
    let h = next g c.put_wires-steps.ensures c.put_wires-steps.auto.out in
    let i = next h c.put_steps-links.ensures c.put_steps-links.auto.out in
    room (next i c.put_links-results.ensures c.put_links-results.auto.out)

-- all but the end record is put
all_put : (w : After-put_results-end)
    → Going (file_of (job_held w.args.self.now.job)) w.args.out.now w.put_results-end.new.out w.put_results-end.result ((4 ∷ []) ∷ [])
unfolding held_job
all_put w =
    let g = next (begin (job_held w.args.self.now.job) _ w.requires) w.put-wires.ensures w.put-wires.auto.out in
    let h = next g w.put_wires-steps.ensures w.put_wires-steps.auto.out in
    let i = next h w.put_steps-links.ensures w.put_steps-links.auto.out in
    let j = next i w.put_links-results.ensures w.put_links-results.auto.out in
    next j w.put_results-end.ensures w.put_results-end.auto.out

pub put-requires : goal.put-requires
put-requires c = room (all_put (goal.at.put-requires c).After-put_results-end)

pub returns : goal.returns
returns c = done (next (all_put (goal.at.returns c).After-put_results-end) c.put.ensures c.put.auto.out)
