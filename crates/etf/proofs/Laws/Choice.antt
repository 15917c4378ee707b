-- The first of the pairs: task by task along the order. Of the pairs of one task the first of smallest start has the lowest processor;
-- those of the tasks after it are taken only where they start sooner.
use Rattle.std.specs.Prelude.{◌≡◌, ◌⊎◌, Bool, not, ltb, eqb}
use Rattle.std.proofs.Math.Path.{refl, ap, subst}
use Rattle.std.proofs.Common.{sym, ◌∙◌, arith, eqb→eq}
use Rattle.std.proofs.Math.Logic.{inl, inr}
use Rattle.std.proofs.Math.Bool.{true, false}
use Rattle.std.proofs.Math.Option.{Option, none, some}
use mathlib.Core.List.{List, [], ◌∷◌, ◌++◌, map, flat_map}
use Prim.Native.Nat.{ℕ, suc, ◌≤◌, ◌<◌}
use Rattle.std.proofs.Math.Dec.{ltb→lt, nltb→le, T as Holds}
use Rattle.base.specs.Choice.{pick}
use Rattle.base.specs.Lists.{◌∈◌, here, there, upto, filter, keep, best}
use Rattle.etf.specs.Instance.{Instance}
use Rattle.etf.specs.Schedule.{Placement}
use Rattle.etf.specs.Rule.{free, ready, pair, pairs, choice}
use Rattle.base.specs.Laws.Tests.{either, fails, not_both, pick_yes, pick_no, eq→eqb, neqb→ne, is_true, is_false, le_or_lt}
use Rattle.base.specs.Laws.Lists.{for_cons, for_join, in_nothing, in_left, in_right, filter_of, flat_map_of, map_of, Order, by_least}
use Rattle.etf.specs.Priority.{InOrder, position, GoesFirst, FirstPair, ChoiceIs, nothing, chosen}
use Rattle.etf.proofs.Laws.Order.{order_filter, order_upto, by_position}

-- ---- the best of two lists joined

module _ {A : Type 0} (beats : A → A → Bool) (O : Order beats) where
  -- of the best of two lists
  abbrev better : Option A → Option A → Option A
  better none p = p
  better (some u) p = some (keep beats u p)

  keep_better : (x : A) (o p : Option A) → keep beats x (better o p) ≡ keep beats (keep beats x o) p
  unfolding keep
  keep_better x none p = refl
  keep_better x (some u) none = refl
  keep_better x (some u) (some v) = go (either (beats u x)) (either (beats v u))
    where
      go : Holds (beats u x) ⊎ Holds (not (beats u x)) → Holds (beats v u) ⊎ Holds (not (beats v u))
          → keep beats x (some (pick (beats v u) v u)) ≡ keep beats (pick (beats u x) u x) (some v)
      go (inl a) (inl b) =
          let c : beats v x ≡ true =
          is_true (beats v x) (elim
          (either (beats v x)) [ inl h ↦ h | inr h ↦ absurd (not_both (beats u x) (O.through u v x (O.one_way v u b) h) a) ]) in
          rw (is_true (beats u x) a, is_true (beats v u) b, c)
      go (inl a) (inr b) = rw (is_true (beats u x) a, is_false (beats v u) (not_both (beats v u) b), is_true (beats u x) a)
      go (inr a) (inl b) = rw (is_false (beats u x) (not_both (beats u x) a), is_true (beats v u) b)
      go (inr a) (inr b) =
          let c : beats v x ≡ false = is_false (beats v x) (not_both (beats v x) (O.through v u x b a)) in
          let d : beats u x ≡ false = is_false (beats u x) (not_both (beats u x) a) in
          rw (d, is_false (beats v u) (not_both (beats v u) b), d, c)

  best_join : (s t : List A) → best beats (s ++ t) ≡ better (best beats s) (best beats t)
  unfolding best
  best_join [] t = refl
  best_join (x ∷ s) t = ap (λ o. some (keep beats x o)) (best_join s t) ∙ ap (λ y. some y) (keep_better x (best beats s) (best beats t))

-- ---- the pairs

-- one pair starts sooner than another
abbrev sooner : Placement → Placement → Bool
sooner u v = ltb u.start v.start

module _ (I : Instance) (cm : ℕ) (ps : List Placement) where
  -- the pairs of task T with some processors, and of some tasks
  abbrev row : List ℕ → ℕ → List Placement
  row frees T = map (pair I cm ps T) frees

  abbrev rows : List ℕ → List ℕ → List Placement
  rows frees l = flat_map (row frees) l

  -- a pair of a row has its task, and a processor of the list
  row_of_lem : (frees : List ℕ) (T : ℕ) (v : Placement) → v ∈ row frees T → (v.task ≡ T) × (v.processor ∈ frees)
  unfolding pair
  row_of_lem frees T v h =
      let z = map_of (pair I cm ps T) frees v h in
      (ap (λ (x : Placement). x.task) z.2, subst (λ P. P ∈ frees) (sym (ap (λ (x : Placement). x.processor) z.2)) z.1)

  -- a pair of some rows stands in the row of its task
  in_row : (frees l : List ℕ) (v : Placement) → v ∈ rows frees l → v ∈ row frees v.task
  in_row frees l v h =
      let z = flat_map_of (row frees) l v h in
      subst (λ T. v ∈ row frees T) (sym (row_of_lem frees z.0 v z.2).0) z.2

  task_of : (frees l : List ℕ) (v : Placement) → v ∈ rows frees l → v.task ∈ l
  task_of frees l v h =
      let z = flat_map_of (row frees) l v h in
      subst (λ T. T ∈ l) (sym (row_of_lem frees z.0 v z.2).0) z.1

  -- ---- one task: the smallest start, then the lowest processor

  abbrev LowFirst : Placement → Placement → Type 0
  LowFirst u v = (u.start < v.start) ⊎ ((u.start ≡ v.start) × (u.processor ≤ v.processor))

  data RowIs (l : List Placement) : Option Placement → Type 0 where
    row_none : ((v : Placement) → v ∈ l → ⊥) → RowIs l none
    row_first : (u : Placement) → u ∈ l → ((v : Placement) → v ∈ l → LowFirst u v) → RowIs l (some u)

  not_sooner : (u v : Placement) → LowFirst u v → u.start ≤ v.start
  not_sooner u v (inl k) = omega arith
  not_sooner u v (inr k) = omega arith

  row_is : (T : ℕ) (frees : List ℕ) → InOrder (λ P Q. P < Q) frees → RowIs (row frees T) (best sooner (row frees T))
  unfolding best keep pair
  row_is T [] o = row_none (λ v h. in_nothing h)
  row_is T (P ∷ frees) o = go (best sooner (row frees T)) (row_is T frees o.1)
    where
      x : Placement
      x = pair I cm ps T P

      self : LowFirst x x
      self = inr (refl, omega arith)

      lower : (v : Placement) → v ∈ row frees T → x.start ≤ v.start → LowFirst x v
      lower v h le = level (le_or_lt v.start x.start)
        where
          level : (v.start ≤ x.start) ⊎ (x.start < v.start) → LowFirst x v
          level (inl k) = inr (omega arith, omega (arith, o.0 v.processor (row_of_lem frees T v h).1))
          level (inr k) = inl k

      go : (b : Option Placement) → RowIs (row frees T) b → RowIs (row (P ∷ frees) T) (some (keep sooner x b))
      go b (row_none z) = row_first x (here refl) (for_cons (LowFirst x) self (λ v h. absurd (z v h)))
      go b (row_first u h lead) = one (either (sooner u x))
        where
          one : Holds (sooner u x) ⊎ Holds (not (sooner u x)) → RowIs (row (P ∷ frees) T) (some (pick (sooner u x) u x))
          one (inl k) =
              rw (is_true (sooner u x) k) (row_first u (there h) (for_cons (LowFirst u) (inl (ltb→lt u.start x.start k)) lead))
          one (inr k) =
              rw (is_false (sooner u x) (not_both (sooner u x) k))
              (row_first x (here refl) (for_cons (LowFirst x) self
              (λ v q. lower v q (omega (arith, nltb→le u.start x.start k, not_sooner u v (lead v q))))))

  -- ---- the tasks of a list: then the place in it

  abbrev ByPlace : List ℕ → ℕ → ℕ → Type 0
  ByPlace l S T = position l S < position l T

  data RowsAre (frees l : List ℕ) : Option Placement → Type 0 where
    rows_none : ((v : Placement) → v ∈ rows frees l → ⊥) → RowsAre frees l none
    rows_first : (u : Placement) → u ∈ rows frees l → ((v : Placement) → v ∈ rows frees l → GoesFirst (ByPlace l) u v)
        → RowsAre frees l (some u)

  at_first : (x T : ℕ) (l : List ℕ) → x ≡ T → position (x ∷ l) T ≡ 0
  unfolding position
  at_first x T l e = pick_yes (eqb x T) 0 (suc (position l T)) (eq→eqb x T e)

  at_next : (x T : ℕ) (l : List ℕ) → ¬ (x ≡ T) → position (x ∷ l) T ≡ suc (position l T)
  unfolding position
  at_next x T l n = pick_no (eqb x T) 0 (suc (position l T)) (fails (eqb x T) (λ e. n (eqb→eq x T e)))

  -- two tasks that are not the first keep their turn
  further : (x : ℕ) (l : List ℕ) (u v : Placement) → ¬ (x ≡ u.task) → ¬ (x ≡ v.task) → GoesFirst (ByPlace l) u v
      → GoesFirst (ByPlace (x ∷ l)) u v
  further x l u v a b (inl k) = inl k
  further x l u v a b (inr (e, inl k)) = inr (e, inl (omega (arith, at_next x u.task l a, at_next x v.task l b)))
  further x l u v a b (inr (e, inr k)) = inr (e, inr k)

  start_low : (l : List ℕ) (u v : Placement) → GoesFirst (ByPlace l) u v → u.start ≤ v.start
  start_low l u v (inl k) = omega arith
  start_low l u v (inr k) = omega arith

  module _ (frees : List ℕ) (o : InOrder (λ P Q. P < Q) frees) where
    -- the pairs of x before those of the other tasks
    module _ (x : ℕ) (l : List ℕ) where
      -- of the pairs of x with those of the rest
      split : (v : Placement) → v ∈ rows frees (x ∷ l) → (v ∈ row frees x) ⊎ ((¬ (x ≡ v.task)) × (v ∈ rows frees l))
      unfolding flat_map
      split = for_join (λ v. (v ∈ row frees x) ⊎ ((¬ (x ≡ v.task)) × (v ∈ rows frees l))) (row frees x) (rows frees l) (λ v h. inl h)
          (λ v h. elim (either (eqb x v.task)) [
            | inl k ↦ inl (subst (λ T. v ∈ row frees T) (sym (eqb→eq x v.task k)) (in_row frees l v h))
            | inr k ↦ inr (neqb→ne x v.task k, h)
          ])

      -- a pair of x that leads its row and starts no later than the rest leads all
      first_leads : (u : Placement) → u ∈ row frees x → ((v : Placement) → v ∈ row frees x → LowFirst u v)
          → ((v : Placement) → v ∈ rows frees l → u.start ≤ v.start) → (v : Placement) → v ∈ rows frees (x ∷ l)
          → GoesFirst (ByPlace (x ∷ l)) u v
      first_leads u h lead low v k = go (split v k)
        where
          own : x ≡ u.task
          own = sym (row_of_lem frees x u h).0

          same : v ∈ row frees x → LowFirst u v → GoesFirst (ByPlace (x ∷ l)) u v
          same q (inl e) = inl e
          same q (inr e) = inr (e.0, inr ((row_of_lem frees x u h).0 ∙ sym (row_of_lem frees x v q).0, e.1))

          level : ¬ (x ≡ v.task) → u.start ≤ v.start → (v.start ≤ u.start) ⊎ (u.start < v.start) → GoesFirst (ByPlace (x ∷ l)) u v
          level n p (inl q) = inr (omega arith, inl (omega (arith, at_first x u.task l own, at_next x v.task l n)))
          level n p (inr q) = inl q

          go : (v ∈ row frees x) ⊎ ((¬ (x ≡ v.task)) × (v ∈ rows frees l)) → GoesFirst (ByPlace (x ∷ l)) u v
          go (inl q) = same q (lead v q)
          go (inr q) = level q.0 (low v q.1) (le_or_lt v.start u.start)

      -- a pair of the rest that leads it and starts sooner than each of x leads all
      rest_leads : (u : Placement) → u ∈ rows frees l → ((v : Placement) → v ∈ rows frees l → GoesFirst (ByPlace l) u v)
          → ((v : Placement) → v ∈ row frees x → u.start < v.start) → (v : Placement) → v ∈ rows frees (x ∷ l)
          → GoesFirst (ByPlace (x ∷ l)) u v
      rest_leads u h lead low v k = go (split v k)
        where
          other : ¬ (x ≡ u.task)
          other e = absurd (omega (arith, low u (subst (λ T. u ∈ row frees T) (sym e) (in_row frees l u h))))

          go : (v ∈ row frees x) ⊎ ((¬ (x ≡ v.task)) × (v ∈ rows frees l)) → GoesFirst (ByPlace (x ∷ l)) u v
          go (inl q) = inl (low v q)
          go (inr q) = further x l u v other q.0 (lead v q.1)

      joined : (a b : Option Placement) → RowIs (row frees x) a → RowsAre frees l b
          → RowsAre frees (x ∷ l) (better sooner (by_least (λ u. u.start)) a b)
      unfolding keep flat_map
      joined a b (row_none y) (rows_none z) =
          rows_none (for_join (λ v. ⊥) (row frees x) (rows frees l) y z)
      joined a b (row_none y) (rows_first u h lead) =
          rows_first u (in_right (row frees x) h) (rest_leads u h lead (λ v k. absurd (y v k)))
      joined a b (row_first u h lead) (rows_none z) =
          rows_first u (in_left (rows frees l) h) (first_leads u h lead (λ v k. absurd (z v k)))
      joined a b (row_first u h lead) (rows_first w k tail) = go (either (sooner w u))
        where
          go : Holds (sooner w u) ⊎ Holds (not (sooner w u)) → RowsAre frees (x ∷ l) (some (pick (sooner w u) w u))
          go (inl q) =
              rw (is_true (sooner w u) q)
              (rows_first w (in_right (row frees x) k)
              (rest_leads w k tail (λ v r. omega (arith, ltb→lt w.start u.start q, not_sooner u v (lead v r)))))
          go (inr q) =
              rw (is_false (sooner w u) (not_both (sooner w u) q))
              (rows_first u (in_left (rows frees l) h)
              (first_leads u h lead (λ v r. omega (arith, nltb→le w.start u.start q, start_low l w v (tail v r)))))

    rows_are : (l : List ℕ) → RowsAre frees l (best sooner (rows frees l))
    unfolding flat_map best
    rows_are [] = rows_none (λ v h. in_nothing h)
    rows_are (x ∷ l) =
        subst (RowsAre frees (x ∷ l)) (sym (best_join sooner (by_least (λ u. u.start)) (row frees x) (rows frees l)))
        (joined x l (best sooner (row frees x)) (best sooner (rows frees l)) (row_is x frees o) (rows_are l))

  -- ---- the ready tasks, by their places in the whole order

  place_filter : (p : ℕ → Bool) (l : List ℕ) (S T : ℕ) → Holds (p S) → Holds (p T) → position (filter p l) S < position (filter p l) T
      → position l S < position l T
  unfolding filter position
  place_filter p [] S T a b h = h
  place_filter p (x ∷ l) S T a b h = go (either (p x)) (either (eqb x S)) (either (eqb x T)) (λ k. place_filter p l S T a b k)
    where
      -- the list with x, or without
      with_x : Holds (p x) → position (x ∷ filter p l) S < position (x ∷ filter p l) T
      with_x y = subst (λ k. position k S < position k T) (pick_yes (p x) (x ∷ filter p l) (filter p l) y) h

      without_x : Holds (not (p x)) → position (filter p l) S < position (filter p l) T
      without_x y = subst (λ k. position k S < position k T) (pick_no (p x) (x ∷ filter p l) (filter p l) y) h

      not_x : (U : ℕ) → Holds (p U) → Holds (not (p x)) → ¬ (x ≡ U)
      not_x U c y e = not_both (p x) y (subst (λ Q. Holds (p Q)) (sym e) c)

      go : Holds (p x) ⊎ Holds (not (p x)) → Holds (eqb x S) ⊎ Holds (not (eqb x S)) → Holds (eqb x T) ⊎ Holds (not (eqb x T))
          → (position (filter p l) S < position (filter p l) T → position l S < position l T) → position (x ∷ l) S < position (x ∷ l) T
      go (inl y) s (inl t) r = absurd (omega (arith, with_x y, at_first x T (filter p l) (eqb→eq x T t)))
      go (inl y) (inl s) (inr t) r = omega (arith, at_first x S l (eqb→eq x S s), at_next x T l (neqb→ne x T t))
      go (inl y) (inr s) (inr t) r =
          let m = neqb→ne x S s in
          let n = neqb→ne x T t in
          omega (
            arith,
            r (omega
                (arith, with_x y, at_next x S (filter p l) m, at_next x T (filter p l) n)),
            at_next x S l m,
            at_next x T l n,
          )
      go (inr y) s t r = omega (arith, r (without_x y), at_next x S l (not_x S a y), at_next x T l (not_x T b y))

  -- the free processors
  abbrev frees : List ℕ
  frees = filter (free I cm ps) (upto I.processors)

  pub pair_task : (v : Placement) → v ∈ pairs I cm ps → (v.task ∈ I.order) × Holds (ready I cm ps v.task)
  unfolding pairs
  pair_task v h = filter_of (ready I cm ps) I.order v.task (task_of frees (filter (ready I cm ps) I.order) v h)

  pub by_place : ChoiceIs I (λ S T. position I.order S < position I.order T) cm ps (choice I cm ps)
  unfolding choice pairs
  by_place =
      go (best sooner (pairs I cm ps))
      (rows_are frees (order_filter (λ P Q. P < Q) (free I cm ps) (upto I.processors) (order_upto I.processors))
      (filter (ready I cm ps) I.order))
    where
      readies : List ℕ
      readies = filter (ready I cm ps) I.order

      wider : (u v : Placement) → u ∈ pairs I cm ps → v ∈ pairs I cm ps → GoesFirst (ByPlace readies) u v
          → GoesFirst (ByPlace I.order) u v
      wider u v h k (inl e) = inl e
      wider u v h k (inr (e, inl l)) =
          inr (e, inl (place_filter (ready I cm ps) I.order u.task v.task (pair_task u h).1 (pair_task v k).1 l))
      wider u v h k (inr (e, inr l)) = inr (e, inr l)

      go : (b : Option Placement) → RowsAre frees readies b → ChoiceIs I (ByPlace I.order) cm ps b
      go b (rows_none z) = nothing z
      go b (rows_first u h lead) = chosen u (record { is-pair = h; first = λ v k. wider u v h k (lead v k) })

-- by any relation that the order stands in
module _ (I : Instance) (Before : ℕ → ℕ → Type 0) (o : InOrder Before I.order) (cm : ℕ) (ps : List Placement) where
  pub by_relation : ChoiceIs I Before cm ps (choice I cm ps)
  by_relation = go (choice I cm ps) (by_place I cm ps)
    where
      Place : ℕ → ℕ → Type 0
      Place S T = position I.order S < position I.order T

      turn : (u v : Placement) → u ∈ pairs I cm ps → v ∈ pairs I cm ps → GoesFirst Place u v → GoesFirst Before u v
      turn u v h k (inl e) = inl e
      turn u v h k (inr (e, inl l)) =
          inr (e, inl (by_position Before I.order o u.task v.task (pair_task I cm ps u h).0 (pair_task I cm ps v k).0 l))
      turn u v h k (inr (e, inr l)) = inr (e, inr l)

      go : (b : Option Placement) → ChoiceIs I Place cm ps b → ChoiceIs I Before cm ps b
      go b (nothing z) = nothing z
      go b (chosen u f) = chosen u (record { is-pair = f.is-pair; first = λ v k. turn u v f.is-pair k (f.first v k) })

-- where of two tasks not each stands before the other, one pair alone is the first
module _ (I : Instance) (Before : ℕ → ℕ → Type 0) (never : (S T : ℕ) → Before S T → Before T S → ⊥) (cm : ℕ) (ps : List Placement) where
  same_pair : (u v : Placement) → u.task ≡ v.task → u.processor ≡ v.processor → u.start ≡ v.start → u ≡ v
  same_pair u v a b c = rw (← a, ← b, ← c)

  pub one_first : (u v : Placement) → FirstPair I Before cm ps u → FirstPair I Before cm ps v → u ≡ v
  one_first u v a b = go (a.first v b.is-pair) (b.first u a.is-pair)
    where
      go : GoesFirst Before u v → GoesFirst Before v u → u ≡ v
      go (inl p) (inl q) = absurd (omega arith)
      go (inl p) (inr q) = absurd (omega arith)
      go (inr p) (inl q) = absurd (omega arith)
      go (inr (s, inl p)) (inr (t, inl q)) = absurd (never u.task v.task p q)
      go (inr (s, inl p)) (inr (t, inr q)) = let r = subst (Before u.task) q.0 p in absurd (never u.task u.task r r)
      go (inr (s, inr p)) (inr (t, inl q)) = let r = subst (Before v.task) p.0 q in absurd (never v.task v.task r r)
      go (inr (s, inr p)) (inr (t, inr q)) = same_pair u v p.0 (omega arith) s
