-- The dearest chain of an instance, read off its arrays.
-- A chain to a task has no more edges than the task's number, as edges go from lower to higher tasks. The greatest over lists of
-- processors, of edges and of tasks is the greatest over their numbers.
use Rattle.std.specs.Prelude.{◌≡◌, ◌⊎◌, Bool, true, false, List, [], ◌∷◌, ◌++◌, T as Holds}
use Rattle.std.proofs.Math.Path.{refl, sym, ap}
use Rattle.std.proofs.Common.{◌∙◌, inl, inr, zero-add, arith}
use Prim.Native.Nat.{ℕ, zero, suc, ◌+◌, ◌*◌, ◌≤◌, ◌<◌}
use Rattle.std.proofs.Math.Dec.{eqb, eqb→eq}
use Rattle.std.proofs.Math.ListN.{get_or}
use Rattle.base.specs.Choice.{pick}
use Rattle.base.specs.Lists.{values, upto, filter, greatest}
use Rattle.base.specs.Rows.{most}
use Rattle.base.specs.Laws.Tests.{le_or_lt, eq→eqb, pick_yes}
use Rattle.base.specs.Laws.Lists.{filter-append, greatest-append}
use Rattle.base.specs.Laws.Values.{values_snoc}
use Rattle.base.specs.Laws.Most.{most_ge, most_below, most_same, greatest-upto}
use Rattle.job.specs.Write.{edge_held}
use Rattle.etf.specs.Instance.{Instance, tasks, into}
use Rattle.etf.specs.Topology.{entry}
use Rattle.etf.specs.Dearest.{greatest_cost, dearest_to, dearest}
use Rattle.etf.specs.Bounds.{most_message_time}
use Rattle.schedule.specs.InArrays.{InArrays, instance_in, Plannable}
use Rattle.schedule.specs.CoverPass.{greatest_in, chain_by, chain_to, dearest_in}
use Rattle.schedule.specs.Laws.Held.{held_few, within}

-- ---- the greatest over a list and over numbers

-- the greatest over those of a numbered row that pass a test
greatest-values : {A : Type 0} (f : A → ℕ) (p : A → Bool) (g : ℕ → A) (l : ℕ)
    → greatest f (filter p (values g 0 l)) ≡ most l (λ k. pick (p (g k)) (f (g k)) 0)
unfolding greatest filter values most
greatest-values f p g zero = refl
greatest-values {A} f p g (suc l) =
    let e : values g 0 (suc l) ≡ values g 0 l ++ (g l ∷ []) =
    values_snoc g 0 l ∙ ap (λ (i : ℕ). values g 0 l ++ (g i ∷ [])) (zero-add l) in
    ap (λ (v : List A). greatest f (filter p v)) e
    ∙ ap (greatest f) (filter-append p (values g 0 l) (g l ∷ []))
    ∙ greatest-append f (filter p (values g 0 l)) (filter p (g l ∷ []))
    ∙ omega (arith, greatest-values f p g l, one (p (g l)))
  where
    one : (b : Bool) → greatest f (pick b (g l ∷ []) []) ≡ pick b (f (g l)) 0
    one true = omega arith
    one false = refl

-- a bound on a multiple of each place is a bound on that of the greatest
times_most : (w b n : ℕ) (f : ℕ → ℕ) → ((i : ℕ) → i < n → w * f i ≤ b) → w * most n f ≤ b
unfolding most
times_most w b zero f h = omega arith
times_most w b (suc n) f h = go (le_or_lt (most n f) (f n)) (times_most w b n f (λ i c. h i (omega arith)))
  where
    go : (most n f ≤ f n) ⊎ (f n < most n f) → w * most n f ≤ b → w * most (suc n) f ≤ b
    go (inl k) r = let e : most (suc n) f ≡ f n = omega arith in rw e (h n (omega arith))
    go (inr k) r = let e : most (suc n) f ≡ most n f = omega arith in rw e r

-- choices that are the same where the test passes
pick_same : (b : Bool) (x y : ℕ) → (Holds b → x ≡ y) → pick b x 0 ≡ pick b y 0
pick_same true x y h = h tt
pick_same false x y h = refl

-- ---- the number of edges that are allowed

module _ (from to counts : List ℕ) (l cost : ℕ) (up : (k : ℕ) → k < l → get_or from k 0 < get_or to k 0) where
  -- any two numbers of edges greater than the task's number allow the same chains to it
  enough : (i j T : ℕ) → T < i → T < j → chain_to from to counts l cost i T ≡ chain_to from to counts l cost j T
  unfolding chain_to chain_by
  enough zero j T h b = absurd (omega arith)
  enough (suc i) zero T h b = absurd (omega arith)
  enough (suc i) (suc j) T h b =
      most_same l _ _ (λ k c. pick_same (eqb (get_or to k 0) T) _ _ (λ t.
      let d : get_or from k 0 < T = omega (arith, up k c, eqb→eq (get_or to k 0) T t) in
      ap (λ (x : ℕ). x + get_or counts k 0 * cost) (enough i j (get_or from k 0) (omega arith) (omega arith))))

  -- the dearest chain to a task is one edge more than the dearest to a predecessor
  pub one_more : (T : ℕ) → T < 256
      → chain_to from to counts l cost 256 T
      ≡ most l (λ k. pick (eqb (get_or to k 0) T) (chain_by from counts cost (chain_to from to counts l cost 256) k) 0)
  unfolding chain_to
  one_more T h = enough 256 257 T h (omega arith)

-- ---- an instance in arrays

module _ {A : InArrays} (F : Plannable A) where
  abbrev I : Instance
  I = instance_in A

  abbrev l : ℕ
  l = A.edges

  abbrev to : List ℕ
  to = A.to

  -- the greatest cost of the instance stands in the table
  greatest_is : greatest_in A.costs A.processors ≡ greatest_cost I
  unfolding greatest_in greatest_cost instance_in
  greatest_is =
      let n = A.processors in
      most_same n _ _ (λ p h. sym (greatest-upto (entry A.costs p) n))
      ∙ sym (greatest-upto (λ p. greatest (entry A.costs p) (upto n)) n)

  -- and with it messages of one edge take no longer than between some two processors
  pub messages_fit : {cost : ℕ} → cost ≡ greatest_in A.costs A.processors
      → (k : ℕ) → k < l → get_or A.counts k 0 * cost ≤ most_message_time
  unfolding greatest_in
  messages_fit e k h =
      let w = get_or A.counts k 0 in
      let n = A.processors in
      rw e (times_most w most_message_time n _ (λ p a. times_most w most_message_time n _ (λ q b. F.near k p q h)))

  -- what the dearest chain of at most j edges to a task takes
  abbrev chain : ℕ → ℕ → ℕ
  chain = chain_to A.from to A.counts l (greatest_cost I)

  -- is what the definition has: the edges into a task are those of the arrays that go to it
  chain_is : (j T : ℕ) → chain j T ≡ dearest_to I j T
  unfolding chain_to chain_by dearest_to into instance_in edge_held
  chain_is zero T = refl
  chain_is (suc j) T =
      most_same l _ _ (λ k h. pick_same (eqb (get_or to k 0) T) _ _ (λ t. omega (arith, chain_is j (get_or A.from k 0))))
      ∙ sym (greatest-values (λ e. e.count * greatest_cost I + dearest_to I j e.from) (λ e. eqb e.to T)
      (edge_held A.from to A.counts) l)

  -- what the dearest chain to a task takes, and what the dearest takes whose last edge is edge k
  abbrev sums : ℕ → ℕ
  sums = chain 256

  abbrev by : ℕ → ℕ
  by = chain_by A.from A.counts (greatest_cost I) sums

  -- by the edges to task T
  abbrev into_at : ℕ → ℕ → ℕ
  into_at T k = pick (eqb (get_or to k 0) T) (by k) 0

  chained : (T : ℕ) → T < tasks I → sums T ≡ most l (into_at T)
  chained T h = one_more A.from to A.counts l (greatest_cost I) F.forward T (omega (arith, held_few F))

  -- the dearest chain to a task has a last edge
  above : (T : ℕ) → T < tasks I → sums T ≤ most l by
  above T h = omega (arith, chained T h, most_below l (into_at T) (most l by) (λ k b. go (eqb (get_or to k 0) T) (by k) (most_ge l by k b)))
    where
      go : (t : Bool) (x : ℕ) → x ≤ most l by → pick t x 0 ≤ most l by
      go true x h = h
      go false x h = omega arith

  -- and a chain is at most the dearest to the task of its last edge
  below : (k : ℕ) → k < l → by k ≤ most (tasks I) sums
  below k h =
      let T = get_or to k 0 in
      let b = (within F k h).1 in
      omega (
        arith,
        pick_yes (eqb T T) (by k) 0 (eq→eqb T T refl),
        most_ge l (into_at T) k h,
        chained T b,
        most_ge (tasks I) sums T b,
      )

  dearest_is : dearest_in A.from to A.counts l (greatest_cost I) ≡ dearest I
  unfolding dearest_in dearest
  dearest_is =
      let n = tasks I in
      let last : most l by ≡ most n sums = omega (arith, most_below l by (most n sums) below, most_below n sums (most l by) above) in
      last
      ∙ most_same n sums (dearest_to I n)
      (λ T h. enough A.from to A.counts l (greatest_cost I) F.forward 256 n T (omega (arith, held_few F)) h ∙ chain_is n T)
      ∙ sym (greatest-upto (dearest_to I n) n)

  -- what the sum over the edges finds, where a message costs the greatest cost
  pub dearest_found : {cost r : ℕ} → cost ≡ greatest_in A.costs A.processors → r ≡ dearest_in A.from to A.counts l cost
      → r ≡ dearest I
  dearest_found e h = h ∙ ap (dearest_in A.from to A.counts l) (e ∙ greatest_is) ∙ dearest_is
