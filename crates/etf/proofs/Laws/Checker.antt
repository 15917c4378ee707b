-- The checker's answer against the rules: one view says of the whole answer that either all rules hold or its number has a reason.
-- The planner's plan keeps the rules, by what holds after each of its rounds.
use Rattle.std.specs.Prelude.{◌≡◌, ◌⊎◌, Bool, not, ◌&&◌, ◌||◌, List, [], ◌∷◌, ℕ, ◌+◌, ◌≤◌, ◌<◌, leb}
use Rattle.std.proofs.Math.Path.{refl, ap}
use Rattle.std.proofs.Common.{sym, ◌∙◌, subst, inl, inr, lt→ltb, nltb→le}
use Rattle.std.proofs.Math.Bool.{true, false}
use Rattle.std.proofs.Math.Option.{Option, none, some, or_else, some-injective, none-ne-some, some-ne-none}
use native.Mathlib.Omega.{arith}
use Rattle.std.proofs.Math.Dec.{ltb, eqb, leb→le, nleb→lt, ltb→lt, eqb→eq, T as Holds}
use Rattle.base.specs.Choice.{pick}
use Rattle.base.specs.Lists.{◌∈◌, here, there, any}
use Rattle.base.specs.Laws.Tests.{not_both, fails, both, first, second, eq→eqb, neqb→ne, le_or_lt}
use Rattle.base.specs.Laws.Lists.{for_cons, in_nothing, any-not, any_one}
use Rattle.job.specs.Job.{Edge}
use Rattle.etf.specs.Instance.{Instance, WellFormed, message_time}
use Rattle.etf.specs.Schedule.{Placement, placement_of, finish, message_time_to, by_task}
use Rattle.etf.specs.Rule.{planned}
use Rattle.etf.specs.Checker.{latest_start, first_answer, Apart, InTime, Keeps, misplaced, overlap, early, check}
use Rattle.etf.specs.Checker.{Because, no_processor, too_late, overlaps, too_early}
use Rattle.etf.proofs.Laws.Placements.{into_in, arrival_ge}
use Rattle.etf.proofs.Laws.Sound.{Sound}
use Rattle.etf.proofs.Laws.Ticks.{placement_once}
use Rattle.etf.proofs.Laws.Planned.{apart_pairs, last_clock, sound_plan, by_task_of}

-- what `first_answer` gives, where M a o says what answer o at a member a means: none at each member, or a number at one of them
data First {A : Type 0} (M : A → Option ℕ → Type 0) (l : List A) : Option ℕ → Type 0 where
  silent : ((a : A) → a ∈ l → M a none) → First M l none
  says : (a : A) (k : ℕ) → a ∈ l → M a (some k) → First M l (some k)

first_is : {A : Type 0} (M : A → Option ℕ → Type 0) (f : A → Option ℕ) → ((a : A) → M a (f a)) → (l : List A)
    → First M l (first_answer f l)
unfolding first_answer or_else
first_is M f v [] = silent (λ a h. absurd (in_nothing h))
first_is M f v (x ∷ xs) = go (f x) (v x) (first_answer f xs) (first_is M f v xs)
  where
    go : (o : Option ℕ) → M x o → (r : Option ℕ) → First M xs r → First M (x ∷ xs) (or_else o r)
    go (some k) w r R = says x k (here refl) w
    go none w r (silent z) = silent (for_cons (λ a. M a none) w z)
    go none w r (says a k h y) = says a k (there h) y

-- the test of an overlap, in parts
parts_of_test : (a b c d : Bool) → Holds (not a && (b && not (c || d))) → Holds (not a) × Holds b × Holds (not c) × Holds (not d)
parts_of_test true b c d h = absurd h
parts_of_test false false c d h = absurd h
parts_of_test false true true d h = absurd h
parts_of_test false true false true h = absurd h
parts_of_test false true false false h = (tt, tt, tt, tt)

parts_in : (a b c d : Bool) → Holds (not a) → Holds b → Holds (not c) → Holds (not d) → Holds (not a && (b && not (c || d)))
parts_in a b false false p q r s = both (not a) (b && true) p (both b true q tt)
parts_in a b false true p q r s = absurd s
parts_in a b true d p q r s = absurd r

module _ (I : Instance) where
  -- ---- each test as what it says

  -- what `misplaced` says of one placement
  data Place (u : Placement) : Option ℕ → Type 0 where
    well : u.processor < I.processors → u.start ≤ latest_start → Place u none
    off : I.processors ≤ u.processor → Place u (some 10)
    late : latest_start < u.start → Place u (some 11)

  place_is : (u : Placement) → Place u (misplaced I u)
  unfolding misplaced
  place_is u = go (ltb u.processor I.processors) refl (ltb latest_start u.start) refl
    where
      go : (a : Bool) → ltb u.processor I.processors ≡ a → (b : Bool) → ltb latest_start u.start ≡ b
          → Place u (pick (not a) (some 10) (pick b (some 11) none))
      go false d b e = off (nltb→le u.processor I.processors (subst (λ t. Holds (not t)) (sym d) tt))
      go true d true e = late (ltb→lt latest_start u.start (subst Holds (sym e) tt))
      go true d false e =
          well (ltb→lt u.processor I.processors (subst Holds (sym d) tt))
          (nltb→le latest_start u.start (subst (λ t. Holds (not t)) (sym e) tt))

  well_placed : (u : Placement) → Place u none → (u.processor < I.processors) × (u.start ≤ latest_start)
  well_placed u (well p s) = (p, s)

  -- two tasks on one processor, each of which starts before the other's finish
  abbrev pub Overlap : Placement → Placement → Type 0
  Overlap u v = (¬ (u.task ≡ v.task)) × (u.processor ≡ v.processor) × (v.start < finish I u) × (u.start < finish I v)

  pub overlap_of : (u v : Placement) → Holds (overlap I u v) → Overlap u v
  unfolding overlap
  overlap_of u v h =
      let z = parts_of_test (eqb u.task v.task) (eqb u.processor v.processor)
      (leb (finish I u) v.start) (leb (finish I v) u.start) h in (
        neqb→ne u.task v.task z.0,
        eqb→eq u.processor v.processor z.1,
        nleb→lt (finish I u) v.start z.2,
        nleb→lt (finish I v) u.start z.3,
      )

  pub overlap_in : (u v : Placement) → Overlap u v → Holds (overlap I u v)
  unfolding overlap
  overlap_in u v z =
      parts_in (eqb u.task v.task) (eqb u.processor v.processor) (leb (finish I u) v.start) (leb (finish I v) u.start)
      (fails (eqb u.task v.task) (λ h. z.0 (eqb→eq u.task v.task h)))
      (eq→eqb u.processor v.processor z.1)
      (fails (leb (finish I u) v.start) (λ h. absurd (omega (arith, z.2, leb→le (finish I u) v.start h))))
      (fails (leb (finish I v) u.start) (λ h. absurd (omega (arith, z.3, leb→le (finish I v) u.start h))))

  -- two placements that do not overlap, of different tasks on one processor, are apart
  overlap_not : (u v : Placement) → Holds (not (overlap I u v)) → ¬ (u.task ≡ v.task) → u.processor ≡ v.processor → Apart I u v
  overlap_not u v h ne p = go (le_or_lt (finish I u) v.start) (le_or_lt (finish I v) u.start)
    where
      go : (finish I u ≤ v.start) ⊎ (v.start < finish I u) → (finish I v ≤ u.start) ⊎ (u.start < finish I v) → Apart I u v
      go (inl a) b = inl a
      go (inr a) (inl b) = inr b
      go (inr a) (inr b) = absurd (not_both (overlap I u v) h (overlap_in u v (ne, p, a, b)))

  -- edge e goes from u's task to v's, and v starts before its messages are there
  abbrev pub Early : Edge → Placement → Placement → Type 0
  Early e u v = (u.task ≡ e.from) × (v.task ≡ e.to) × (v.start < finish I u + message_time I e u.processor v.processor)

  pub early_of_lem : (e : Edge) (u v : Placement) → Holds (early I e u v) → Early e u v
  unfolding early
  early_of_lem e u v h =
      let a = eqb u.task e.from in
      let b = eqb v.task e.to in
      let t = finish I u + message_time I e u.processor v.processor in
      let c = ltb v.start t in
      let z = second a (b && c) h in
      (eqb→eq u.task e.from (first a (b && c) h), eqb→eq v.task e.to (first b c z), ltb→lt v.start t (second b c z))

  pub early_in : (e : Edge) (u v : Placement) → Early e u v → Holds (early I e u v)
  unfolding early
  early_in e u v z =
      let a = eqb u.task e.from in
      let b = eqb v.task e.to in
      let t = finish I u + message_time I e u.processor v.processor in
      let c = ltb v.start t in
      both a (b && c) (eq→eqb u.task e.from z.0) (both b c (eq→eqb v.task e.to z.1) (lt→ltb v.start t z.2))

  -- where no start is too early the messages are in time
  early_not : (e : Edge) (u v : Placement) → Holds (not (early I e u v)) → u.task ≡ e.from → v.task ≡ e.to → InTime I e u v
  early_not e u v h f t = go (le_or_lt (finish I u + message_time I e u.processor v.processor) v.start)
    where
      go : InTime I e u v ⊎ (v.start < finish I u + message_time I e u.processor v.processor) → InTime I e u v
      go (inl a) = a
      go (inr a) = absurd (not_both (early I e u v) h (early_in e u v (f, t, a)))

  -- ---- the whole answer

  module _ (ps : List Placement) where
    -- a yes with all rules, or a number with its reason
    data Answer : Option ℕ → Type 0 where
      kept : Keeps I ps → Answer none
      refused : (k : ℕ) → Because I ps k → Answer (some k)

    -- some two placements overlap
    abbrev pub overlapping : Bool
    overlapping = any (λ u. any (overlap I u) ps) ps

    -- some start is too early
    abbrev pub hasty : Bool
    hasty = any (λ e. any (λ u. any (early I e u) ps) ps) I.edges

    because_place : (u : Placement) → u ∈ ps → (k : ℕ) → Place u (some k) → Because I ps k
    because_place u h k (off p) = no_processor u h p
    because_place u h k (late s) = too_late u h s

    because_overlap : Holds overlapping → Because I ps 12
    because_overlap h =
        let x = any_one (λ u. any (overlap I u) ps) ps h in
        let y = any_one (overlap I x.0) ps x.2 in
        let z = overlap_of x.0 y.0 y.2 in
        overlaps x.0 y.0 x.1 y.1 z.0 z.1 z.2 z.3

    because_early : Holds hasty → Because I ps 13
    because_early h =
        let w = any_one (λ e. any (λ u. any (early I e u) ps) ps) I.edges h in
        let x = any_one (λ u. any (early I w.0 u) ps) ps w.2 in
        let y = any_one (early I w.0 x.0) ps x.2 in
        let z = early_of_lem w.0 x.0 y.0 y.2 in
        too_early w.0 w.1 x.0 y.0 x.1 y.1 z.0 z.1 z.2

    -- where every test fails the rules hold
    all_rules : ((u : Placement) → u ∈ ps → Place u none) → Holds (not overlapping) → Holds (not hasty) → Keeps I ps
    all_rules z a b = record {
      on_processor = λ u h. (well_placed u (z u h)).0;
      not_late = λ u h. (well_placed u (z u h)).1;
      apart = λ u v h k ne p.
          overlap_not u v (any-not (overlap I u) ps (any-not (λ x. any (overlap I x) ps) ps a u h) v k) ne p;
      in_time = λ e l u v h k f t.
          let on_edge = any-not (λ d. any (λ x. any (early I d x) ps) ps) I.edges b e l in
          early_not e u v (any-not (early I e u) ps (any-not (λ x. any (early I e x) ps) ps on_edge u h) v k) f t;
    }

    -- the answer, read
    check_is : Answer (check I ps)
    unfolding check or_else
    check_is = go (first_answer (misplaced I) ps) (first_is Place (misplaced I) place_is ps) overlapping refl hasty refl
      where
        go : (o : Option ℕ) → First Place ps o → (a : Bool) → overlapping ≡ a → (b : Bool) → hasty ≡ b
            → Answer (or_else o (pick a (some 12) (pick b (some 13) none)))
        go o (says u k h w) a d b e = refused k (because_place u h k w)
        go o (silent z) true d b e = refused 12 (because_overlap (subst Holds (sym d) tt))
        go o (silent z) false d true e = refused 13 (because_early (subst Holds (sym e) tt))
        go o (silent z) false d false e =
            kept (all_rules z (subst (λ t. Holds (not t)) (sym d) tt) (subst (λ t. Holds (not t)) (sym e) tt))

    -- a reason to refuse breaks a rule
    broken : (k : ℕ) → Because I ps k → Keeps I ps → ⊥
    broken k (no_processor u h p) K = omega (arith, K.on_processor u h)
    broken k (too_late u h s) K = omega (arith, K.not_late u h)
    broken k (overlaps u v h l ne p a b) K = elim (K.apart u v h l ne p) [ inl q ↦ omega arith | inr q ↦ omega arith ]
    broken k (too_early e l u v h q f t a) K = omega (arith, K.in_time e l u v h q f t)

module _ (I : Instance) (ps : List Placement) where
  -- a yes means that the rules hold
  pub yes_keeps : check I ps ≡ none → Keeps I ps
  yes_keeps e = go (check I ps) (check_is I ps) e
    where
      go : (o : Option ℕ) → Answer I ps o → o ≡ none → Keeps I ps
      go o (kept K) d = K
      go o (refused k b) d = absurd (some-ne-none k d)

  -- where the rules hold the answer is a yes
  pub keeps_yes : Keeps I ps → check I ps ≡ none
  keeps_yes K = go (check I ps) (check_is I ps)
    where
      go : (o : Option ℕ) → Answer I ps o → o ≡ none
      go o (kept L) = refl
      go o (refused k b) = absurd (broken I ps k b K)

-- no number comes without its condition
pub refused_because : (I : Instance) (ps : List Placement) (k : ℕ) → check I ps ≡ some k → Because I ps k
refused_because I ps k e = go (check I ps) (check_is I ps) e
  where
    go : (o : Option ℕ) → Answer I ps o → o ≡ some k → Because I ps k
    go o (kept K) d = absurd (none-ne-some k d)
    go o (refused j b) d = subst (Because I ps) (some-injective j k d) b

-- ---- the planner's plan

module _ (I : Instance) where
  -- a sound schedule keeps the rules, if no start is too late
  sound_keeps : (cm : ℕ) (ps : List Placement) → Sound I cm ps → ((u : Placement) → u ∈ ps → u.start ≤ latest_start) → Keeps I ps
  unfolding message_time_to
  sound_keeps cm ps S b = record {
    on_processor = λ u h. (S.in_range_lem u h).1;
    not_late = b;
    apart = apart_pairs I ps S.apart;
    in_time = λ e l u v h k f t.
        let s : placement_of ps e.from ≡ u = ap (placement_of ps) (sym f) ∙ placement_once ps S.once u h in
        omega (
          arith,
          S.arrived v k,
          arrival_ge I ps v.task v.processor e (into_in I v.task e l (sym t)),
          ap (λ (x : Placement). finish I x + message_time I e x.processor v.processor) s,
        );
  }

  -- what keeps the rules keeps them in another order, and with fewer placements
  keeps_some : (ps qs : List Placement) → ((u : Placement) → u ∈ qs → u ∈ ps) → Keeps I ps → Keeps I qs
  keeps_some ps qs i K = record {
    on_processor = λ u h. K.on_processor u (i u h);
    not_late = λ u h. K.not_late u (i u h);
    apart = λ u v h k. K.apart u v (i u h) (i v k);
    in_time = λ e l u v h k. K.in_time e l u v (i u h) (i v k);
  }

-- the planner's plan keeps the rules, if no start is too late
pub planned_keeps : (I : Instance) → WellFormed I → ((u : Placement) → u ∈ planned I → u.start ≤ latest_start)
    → Keeps I (by_task I (planned I))
planned_keeps I W b =
    keeps_some I (planned I) (by_task I (planned I)) (by_task_of I W) (sound_keeps I (last_clock I W) (planned I) (sound_plan I W) b)
