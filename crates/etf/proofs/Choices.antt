-- What the planning rule chooses, in the words of the documents: over any priority order once, by place in it; then by number (01) and by
-- weight (02 §6).
use Rattle.std.specs.Prelude.{◌≡◌, List, ℕ, ◌<◌, length}
use Rattle.std.proofs.Common.{arith}
use Rattle.job.specs.Job.{Job}
use Rattle.etf.specs.Instance.{Instance, ordered}
use Rattle.etf.specs.Schedule.{Placement}
use Rattle.etf.specs.Rule.{choice}
use Rattle.etf.specs.OfJob.{instance, instance_by_weight}
use Rattle.etf.specs.Weight.{weight, tasks_by_weight}
use Rattle.etf.specs.Priority.{InOrder, position, HeavierFirst, FirstPair, ChoiceIs}
use Rattle.etf.proofs.Weights.{in_order}
use Rattle.etf.proofs.Laws.Order.{order_upto}
use Rattle.etf.proofs.Laws.Inserted.{heavier_trans, heavier_never}
use Rattle.etf.proofs.Laws.Choice

-- any priority order: the smallest start, then the first in the order, then the lowest processor
pub choice_by_place : (I : Instance) (cm : ℕ) (ps : List Placement)
    → ChoiceIs I (λ S T. position I.order S < position I.order T) cm ps (choice I cm ps)
choice_by_place = Choice.by_place

-- in other words: by any relation that the order stands in
pub choice_in_order : (I : Instance) (Before : ℕ → ℕ → Type 0) → InOrder Before I.order → (cm : ℕ) (ps : List Placement)
    → ChoiceIs I Before cm ps (choice I cm ps)
choice_in_order = Choice.by_relation

-- 01: "Take the smallest start; ties go to the lowest step number, then the lowest board"
pub choice_by_number : (j : Job) (cm : ℕ) (ps : List Placement) → ChoiceIs (instance j) (λ S T. S < T) cm ps (choice (instance j) cm ps)
unfolding instance
choice_by_number j = choice_in_order (instance j) (λ S T. S < T) (order_upto (length j.tasks))

-- 02 §6: "breaks ties in start by greater weight, then lower step number, then lower board"
pub choice_by_weight : (I : Instance) (cm : ℕ) (ps : List Placement)
    → ChoiceIs (ordered (tasks_by_weight I) I) (HeavierFirst (weight I)) cm ps (choice (ordered (tasks_by_weight I) I) cm ps)
unfolding ordered
choice_by_weight I = choice_in_order (ordered (tasks_by_weight I) I) (HeavierFirst (weight I)) (in_order I)

-- of a job
pub choice_of_job : (j : Job) (cm : ℕ) (ps : List Placement)
    → ChoiceIs (instance_by_weight j) (HeavierFirst (weight (instance j))) cm ps (choice (instance_by_weight j) cm ps)
unfolding instance_by_weight
choice_of_job j = choice_by_weight (instance j)

-- these sentences settle the choice: no two pairs are first
pub one_by_number : (I : Instance) (cm : ℕ) (ps : List Placement) (u v : Placement) → FirstPair I (λ S T. S < T) cm ps u
    → FirstPair I (λ S T. S < T) cm ps v → u ≡ v
one_by_number I cm ps = Choice.one_first I (λ S T. S < T) (λ S T a b. absurd (omega arith)) cm ps

pub one_by_weight : (I : Instance) (w : ℕ → ℕ) (cm : ℕ) (ps : List Placement) (u v : Placement)
    → FirstPair I (HeavierFirst w) cm ps u → FirstPair I (HeavierFirst w) cm ps v → u ≡ v
one_by_weight I w cm ps = Choice.one_first I (HeavierFirst w) (λ S T a b. heavier_never w S (heavier_trans w S T S a b)) cm ps
