-- `parse::link`: each return is the judgement of a link at this place, after any job that a link may follow.
use mathlib.Core.Path.{◌∙◌, ◌≡◌, refl}
use mathlib.Core.List.{List, [], ◌∷◌}
use mathlib.Core.Option.{some}
use Prim.Native.Nat.{ℕ, suc, ◌+◌, ◌-◌, ◌≤◌, ◌<◌}
use native.Mathlib.Omega.{arith}
use borrow.Author.Rules.{rules}
use lib.ListN.{length, get_or, take, drop}
use lib.Seq.{get_or-drop, drop-drop}
use Rattle.base.specs.Number.{number}
use Rattle.std.proofs.lemmas.Result.{err_from_is_err_and}
use Rattle.job.specs.Job.{Job, with_edges}
use Rattle.job.specs.Record.{link, kind_of, body_length, in_range, misfit, added, edge_in}
use Rattle.job.specs.Read.{refused, refused_or, records}
use Rattle.job.specs.Table.{is_trouble}
use Rattle.job.specs.Pass.{edge, link_trouble, LinkDue}
use Rattle.job.specs.Laws.Judged.{stops, crowded_at, short_at, whole_at}
use Rattle.job.specs.Laws.Due.{links_full, links_room}
use Rattle.job.proofs.parse.link.Goals as goal

module _ (file : List ℕ) (at m l least : ℕ) (h : at < length file) (is : kind_of (get_or file at 0) ≡ some link)
    (j : Job) (s : LinkDue j m l least) where
  crowd : l ≡ 1024 → records (drop at file) 0 j ≡ refused 5
  crowd e = crowded_at file at j link h is s.placed (links_full s (omega arith))

  module _ (room : l < 1024) where
    cut : length file - at < 5 → records (drop at file) 0 j ≡ refused 1
    unfolding body_length
    cut i = short_at file at j link h is s.placed (links_room s room) (omega arith)

    module _ (i : 5 ≤ length file - at) (x y n : ℕ) (xi : x ≡ get_or file (at + 1) 0) (yi : y ≡ get_or file (at + 2) 0)
        (ni : n ≡ number (take 2 (drop (at + 3) file))) (byte : y < 256) (t : ℕ) (ti : t ≡ link_trouble m least (edge x y n)) where
      edge_is : edge_in (drop (suc at) file) ≡ edge x y n
      unfolding edge_in
      edge_is =
          let a : suc at + 0 ≡ at + 1 = omega arith in
          let b : suc at + 1 ≡ at + 2 = omega arith in
          let d : suc at + 2 ≡ at + 3 = omega arith in
          rw (get_or-drop (suc at) file 0 0, get_or-drop (suc at) file 1 0, drop-drop 2 (suc at) file, a, b, d, ← xi, ← yi, ← ni)

      judged : records (drop at file) 0 j ≡ refused_or t (records (drop (at + 5) file) 0 (with_edges j (edge x y n ∷ [])))
      unfolding body_length in_range misfit added link_trouble
      judged =
          rw ti (rw (edge_is, s.tasks_are, s.above (edge x y n) byte) at
          (whole_at file at j link h is s.placed (links_room s room) (omega arith) (omega arith)))

pub returns-then-edges-eq1024 : goal.returns-then-edges-eq1024
returns-then-edges-eq1024 c = λ j s.
    crowd _ _ _ _ _ c.requires.0 c.requires.1 j s c.if-edges-eq1024.true

pub returns-then-file-at-lt-LINK_LENGTH : goal.returns-then-file-at-lt-LINK_LENGTH
returns-then-file-at-lt-LINK_LENGTH c = λ j s.
    cut _ _ _ _ _ c.requires.0 c.requires.1 j s (search rules) c.if-file-at-lt-LINK_LENGTH.true

pub returns-in_err-judge_link : goal.returns-in_err-judge_link
returns-in_err-judge_link c =
    let p = err_from_is_err_and c.from_residual.result c.from_residual.ensures.1 in
    rw (p.1, p.2) (λ j s.
    judged _ _ _ _ _ c.requires.0 c.requires.1 j s (search rules) c.if-file-at-lt-LINK_LENGTH.false _ _ _ refl refl
    c.number2-count.ensures (omega arith) _ c.in_err-judge_link.ensures ∙ stops _ _ (is_trouble _))

pub returns : goal.returns
returns c =
    let room : c.args.edges < 1024 = search rules in
    record {
      answer = λ j s.
          judged _ _ _ _ _ c.requires.0 c.requires.1 j s room c.if-file-at-lt-LINK_LENGTH.false _ _ _ refl refl
          c.number2-count.ensures (omega arith) _ c.in_ok-judge_link.ensures;
      inside = omega arith;
      few = room;
      byte = omega arith;
    }
