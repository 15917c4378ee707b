-- The placement of a task in a schedule, the edges into a task and their arrivals, and busy processors.
use Rattle.std.specs.Prelude.{◌≡◌, refl, ◌⊎◌, not, ◌&&◌, List, [], ◌∷◌, ℕ, ◌≤◌, ◌<◌, T as Holds}
use Rattle.std.proofs.Common.{inl, inr}
use Rattle.std.proofs.Math.Dec.{eqb, eqb→eq}
use Rattle.base.specs.Lists.{◌∈◌, here, there, any}
use Rattle.base.specs.Laws.Tests.{either, fails, both, first, second, or_right, or_cases, pick_yes, pick_no, eq→eqb, neqb→ne}
use Rattle.base.specs.Laws.Lists.{any_of, any_one, filter_in, filter_of, greatest_ge, greatest_at, greatest_same}
use Rattle.job.specs.Job.{Edge}
use Rattle.etf.specs.Instance.{Instance, duration, into}
use Rattle.etf.specs.Schedule.{Placement, placed, placement_of, finish, message_time_to, reach, arrival}
use Rattle.etf.specs.Cover.{running, busy}
use Rattle.etf.proofs.Laws.Running.{running_in}

-- ---- the placement of a task

pub placement_head : (u : Placement) (ps : List Placement) (T : ℕ) → u.task ≡ T → placement_of (u ∷ ps) T ≡ u
unfolding placement_of
placement_head u ps T e = pick_yes (eqb u.task T) u (placement_of ps T) (eq→eqb u.task T e)

pub placement_tail : (u : Placement) (ps : List Placement) (T : ℕ) → ¬ (u.task ≡ T) → placement_of (u ∷ ps) T ≡ placement_of ps T
unfolding placement_of
placement_tail u ps T e =
    pick_no (eqb u.task T) u (placement_of ps T) (fails (eqb u.task T) (λ h. e (eqb→eq u.task T h)))

pub placed_in : (ps : List Placement) (u : Placement) → u ∈ ps → Holds (placed ps u.task)
unfolding placed
placed_in ps u h = any_of (λ v. eqb v.task u.task) ps u h (eq→eqb u.task u.task refl)

pub placed_head : (u : Placement) (ps : List Placement) → Holds (placed (u ∷ ps) u.task)
placed_head u ps = placed_in (u ∷ ps) u (here refl)

pub placed_more : (u : Placement) (ps : List Placement) (T : ℕ) → Holds (placed ps T) → Holds (placed (u ∷ ps) T)
unfolding placed any
placed_more u ps T h = or_right (eqb u.task T) (placed ps T) h

pub placed_less : (u : Placement) (ps : List Placement) (T : ℕ) → ¬ (u.task ≡ T) → Holds (placed (u ∷ ps) T) → Holds (placed ps T)
unfolding placed any
placed_less u ps T e h = go (or_cases (eqb u.task T) (placed ps T) h)
  where
    go : Holds (eqb u.task T) ⊎ Holds (placed ps T) → Holds (placed ps T)
    go (inl k) = absurd (e (eqb→eq u.task T k))
    go (inr k) = k

-- the placement of a placed task stands in the schedule
pub placement_of_lem : (ps : List Placement) (T : ℕ) → Holds (placed ps T) → (placement_of ps T ∈ ps) × ((placement_of ps T).task ≡ T)
unfolding placed any
placement_of_lem [] T h = absurd h
placement_of_lem (u ∷ ps) T h = go (either (eqb u.task T)) (λ k. placement_of_lem ps T k)
  where
    go : Holds (eqb u.task T) ⊎ Holds (not (eqb u.task T))
        → (Holds (placed ps T) → (placement_of ps T ∈ ps) × ((placement_of ps T).task ≡ T))
        → (placement_of (u ∷ ps) T ∈ (u ∷ ps)) × ((placement_of (u ∷ ps) T).task ≡ T)
    go (inl k) r = let e = eqb→eq u.task T k in rw (placement_head u ps T e) (here refl, e)
    go (inr k) r =
        let ne = neqb→ne u.task T k in
        let z = r (placed_less u ps T ne h) in
        rw (placement_tail u ps T ne) (there z.0, z.1)

-- ---- edges and arrivals

module _ (I : Instance) where
  pub into_of : (T : ℕ) (l : Edge) → l ∈ into I T → (l ∈ I.edges) × (l.to ≡ T)
  unfolding into
  into_of T l h = let r = filter_of (λ k. eqb k.to T) I.edges l h in (r.0, eqb→eq l.to T r.1)

  pub into_in : (T : ℕ) (l : Edge) → l ∈ I.edges → l.to ≡ T → l ∈ into I T
  unfolding into
  into_in T l h e = filter_in (λ k. eqb k.to T) I.edges l h (eq→eqb l.to T e)

  pub arrival_ge : (ps : List Placement) (T P : ℕ) (l : Edge) → l ∈ into I T → reach I ps P l ≤ arrival I ps T P
  unfolding arrival
  arrival_ge ps T P l h = greatest_ge (reach I ps P) (into I T) l h

  pub arrival_at : (ps : List Placement) (T P t : ℕ) → t < arrival I ps T P → (l : Edge) × (l ∈ into I T) × (t < reach I ps P l)
  unfolding arrival
  arrival_at ps T P t h = greatest_at (reach I ps P) (into I T) t h

  pub arrival_same : (ps qs : List Placement) (T P : ℕ) → ((l : Edge) → l ∈ into I T → placement_of ps l.from ≡ placement_of qs l.from)
      → arrival I ps T P ≡ arrival I qs T P
  unfolding arrival message_time_to
  arrival_same ps qs T P e = greatest_same (reach I ps P) (reach I qs P) (into I T) (λ l h. cc (e l h))

  -- ---- busy processors

  pub busy_in : (ps : List Placement) (P t : ℕ) (u : Placement) → u ∈ ps → u.processor ≡ P → u.start ≤ t → t < finish I u
      → Holds (busy I ps P t)
  unfolding busy
  busy_in ps P t u h e a b =
      any_of (λ v. eqb v.processor P && running v.start (duration I v.task) t) ps u h
      (both (eqb u.processor P) (running u.start (duration I u.task) t) (eq→eqb u.processor P e)
      (running_in u.start (duration I u.task) t a b))

  pub busy_of : (ps : List Placement) (P t : ℕ) → Holds (busy I ps P t)
      → (u : Placement) × (u ∈ ps) × (u.processor ≡ P) × Holds (running u.start (duration I u.task) t)
  unfolding busy
  busy_of ps P t h =
      let z = any_one (λ v. eqb v.processor P && running v.start (duration I v.task) t) ps h in
      let u = z.0 in (
        u,
        z.1,
        eqb→eq u.processor P (first (eqb u.processor P) (running u.start (duration I u.task) t) z.2),
        second (eqb u.processor P) (running u.start (duration I u.task) t) z.2,
      )

  pub busy_more : (u : Placement) (ps : List Placement) (P t : ℕ) → Holds (busy I ps P t) → Holds (busy I (u ∷ ps) P t)
  unfolding busy any
  busy_more u ps P t h = or_right (eqb u.processor P && running u.start (duration I u.task) t) (busy I ps P t) h
