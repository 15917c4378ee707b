-- `emit::Judged::put_wires`: the wires put so far are those of the pairs before, and there is room for those of the pairs still to come.
use Rattle.std.proofs.Common.{◌≡◌, ℕ, ◌+◌, ◌*◌, ◌≤◌, ◌<◌, refl, sym, ap, ◌∙◌, arith, length, get_or}
use mathlib.Core.List.{List, [], ◌∷◌, ◌++◌, map, flat_map, map-append, append-nil, append_assoc}
use Rattle.base.specs.Slices.{Put}
use Rattle.base.specs.Laws.Put.{put_none, put_then}
use Rattle.base.specs.Laws.Stored.{flat_append}
use Rattle.job.specs.declared.Platform.{Platform}
use Rattle.job.specs.Record.{wire_pairs}
use Rattle.job.specs.Write.{wire_bytes, wire_held, held_job}
use Rattle.job.specs.Pass.{due_from}
use Rattle.job.specs.Laws.Tests.{platform_facts}
use Rattle.job.specs.Laws.Wires.{first_due, due_pair, past_itself, next_row, none_due, wired, unwired}
use Rattle.job.proofs.emit.Judged.put_wires.Invariants.{wires_of, Wiring}
use Rattle.job.proofs.emit.Judged.put_wires.Goals as goal
use Rattle.job.proofs.emit.Judged.put_wires.Goals.{then-from-to, else-from-to}

-- one wire at the front or at the end
wires_cons : (costs : List ℕ) (p q : ℕ) (xs : List (ℕ × ℕ)) → length (wires_of costs ((p, q) ∷ xs)) ≡ 4 + length (wires_of costs xs)
unfolding flat_map wire_bytes
wires_cons costs p q xs = omega arith

wires_snoc : (costs : List ℕ) (p q : ℕ) (xs : List (ℕ × ℕ))
    → wires_of costs (xs ++ ((p, q) ∷ [])) ≡ wires_of costs xs ++ (5 ∷ p ∷ q ∷ get_or costs (16 * p + q) 0 ∷ [])
unfolding flat_map wire_bytes wire_held
wires_snoc costs p q xs =
    ap (flat_map wire_bytes) (map-append (wire_held costs) xs ((p, q) ∷ []))
    ∙ flat_append wire_bytes (map (wire_held costs) xs) (wire_held costs (p, q) ∷ [])

-- under topology 3 the pairs are those of the rack's number of processors, under another there is none
under_other : (p : Platform) (costs out : List ℕ) (start : ℕ) → (p.topology ≡ 3 → ⊥)
    → Put out out start start (wires_of costs (wire_pairs p))
unfolding flat_map
under_other p costs out start d = rw (unwired p d) (put_none out start)

begin : (p : Platform) (costs out : List ℕ) (start : ℕ) → p.topology ≡ 3
    → start + length (wires_of costs (wire_pairs p)) ≤ length out → Wiring costs p.processors out out start start 0 0
unfolding flat_map
begin p costs out start e k = record {
  long = refl;
  room = rw (first_due p.processors) (rw (wired p e) at k);
  so_far = [];
  parts = first_due p.processors;
  put = put_none out start;
}

module _ (costs : List ℕ) (n : ℕ) (out₀ out : List ℕ) (start at p q : ℕ) (g : Wiring costs n out₀ out start at p q) where
  done : (x : Platform) → x.topology ≡ 3 → n ≡ x.processors → n ≤ p → Put out₀ out start at (wires_of costs (wire_pairs x))
  done x e is h =
      let k = rw (none_due n p q h, is) at g.parts in
      rw (wired x e, sym k, append-nil g.so_far) g.put

  -- the same pairs are left
  same : (p' q' : ℕ) → due_from n p q ≡ due_from n p' q' → Wiring costs n out₀ out start at p' q'
  same p' q' e = record { long = g.long; room = rw e at g.room; so_far = g.so_far; parts = rw e at g.parts; put = g.put }

  module _ (h : p < n) (k : q < n) (d : p ≡ q → ⊥) where
    due : due_from n p q ≡ (p, q) ∷ due_from n p (q + 1)
    due = due_pair n (record { from = p; to = q }) (record { from_below = h; to_below = k; different = d })

    left : length (wires_of costs (due_from n p q)) ≡ 4 + length (wires_of costs (due_from n p (q + 1)))
    left = rw due (wires_cons costs p q (due_from n p (q + 1)))

    fits : at + 4 ≤ length out
    fits = omega (arith, g.room, g.long, left)

    turn : (out' : List ℕ) (next c : ℕ) → length out' ≡ length out → c ≡ 16 * p + q
        → Put out out' at next (5 ∷ p ∷ q ∷ get_or costs c 0 ∷ []) → Wiring costs n out₀ out' start next p (q + 1)
    turn out' next c long c-is w = record {
      long = long ∙ g.long;
      room = omega (arith, g.room, left, w.past);
      so_far = g.so_far ++ ((p, q) ∷ []);
      parts = append_assoc g.so_far ((p, q) ∷ []) (due_from n p (q + 1)) ∙ rw (sym due) g.parts;
      put = rw (wires_snoc costs p q g.so_far) (put_then g.put (rw c-is at w));
    }

pub returns-then-self : goal.returns-then-self
unfolding held_job
returns-then-self c = under_other c.args.self.now.job.platform _ _ _ c.if-self.true

pub loop-from-init : goal.loop-from-init
unfolding held_job
loop-from-init c = begin c.args.self.now.job.platform _ _ _ c.if-self.false c.requires

pub place-requires : goal.place-requires
place-requires c =
    let f = platform_facts _ c.args.self.now.rack in
    (omega (arith, f.1, c.loop-from-test.true), omega (arith, f.1, c.loop-to-test.true))

pub put-at-requires : goal.put-at-requires
put-at-requires c = fits _ _ _ _ _ _ _ _ c.loop-to.invariant c.loop-from-test.true c.loop-to-test.true c.if-from-to.true

pub loop-to-preserved : goal.loop-to-preserved
loop-to-preserved c =
    let g = c.loop-to.invariant in
    elim c.if-from-to.branch [
      | then-from-to w ↦
          rw (w.out-is, w.at-is) (turn _ _ _ _ _ _ _ _ g c.loop-from-test.true c.loop-to-test.true w.if-from-to.true _ _ _ w.put-at.auto.out
          w.place.ensures.0 w.put-at.ensures)
      | else-from-to w ↦
          rw (w.out-is, w.at-is) (same _ _ _ _ _ _ _ _ g _ _ (rw (sym w.if-from-to.false) (past_itself _ _)))
    ]

pub loop-from-preserved : goal.loop-from-preserved
loop-from-preserved c =
    same _ _ _ _ _ _ _ _ c.loop-to.invariant _ _ (next_row _ _ _ c.loop-to-test.false c.loop-from-test.true)

pub returns : goal.returns
unfolding held_job
returns c = done _ _ _ _ _ _ _ _ c.loop-from.invariant c.args.self.now.job.platform c.if-self.false refl c.loop-from-test.false
