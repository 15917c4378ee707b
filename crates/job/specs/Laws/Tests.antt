-- The tests of a job's parts, as facts on their numbers: each test is taken apart by its Booleans.
use Rattle.std.specs.Prelude.{◌&&◌, ◌⊎◌, ◌≡◌, ℕ, ◌≤◌, ◌<◌, ltb, leb, eqb, T as Holds}
use Rattle.std.proofs.Common.{inl, inr, ⊎_elim, ltb→lt, leb→le, eqb→eq}
use Rattle.base.specs.Laws.Tests.{parts, or_cases}
use Rattle.job.specs.declared.Platform.{Platform}
use Rattle.job.specs.Job.{Edge}
use Rattle.job.specs.Limits.{most_processors, most_unit, most_duration, most_count}
use Rattle.job.specs.Record.{platform_in_range, duration_in_range, count_in_range, joins, rises}

pub platform_facts : (p : Platform) → Holds (platform_in_range p) →
    (1 ≤ p.processors) × (p.processors ≤ most_processors) × (p.topology ≤ 3) × (p.unit ≤ most_unit)
unfolding platform_in_range
platform_facts p h =
    let a = parts (leb 1 p.processors && leb p.processors most_processors && leb p.topology 3) (leb p.unit most_unit) h in
    let b = parts (leb 1 p.processors && leb p.processors most_processors) (leb p.topology 3) a.0 in
    let c = parts (leb 1 p.processors) (leb p.processors most_processors) b.0 in
    (leb→le _ _ c.0, leb→le _ _ c.1, leb→le _ _ b.1, leb→le _ _ a.1)

pub duration_facts : (d : ℕ) → Holds (duration_in_range d) → (1 ≤ d) × (d ≤ most_duration)
unfolding duration_in_range
duration_facts d h = let a = parts (leb 1 d) (leb d most_duration) h in (leb→le _ _ a.0, leb→le _ _ a.1)

pub count_facts : (c : ℕ) → Holds (count_in_range c) → (1 ≤ c) × (c ≤ most_count)
unfolding count_in_range
count_facts c h = let a = parts (leb 1 c) (leb c most_count) h in (leb→le _ _ a.0, leb→le _ _ a.1)

pub joins_facts : (m : ℕ) (e : Edge) → Holds (joins m e) → (e.from < e.to) × (e.to < m)
unfolding joins
joins_facts m e h = let a = parts (ltb e.from e.to) (ltb e.to m) h in (ltb→lt _ _ a.0, ltb→lt _ _ a.1)

pub rises_facts : (a b : Edge) → Holds (rises a b) → (a.from < b.from) ⊎ ((a.from ≡ b.from) × (a.to < b.to))
unfolding rises
rises_facts a b h = ⊎_elim
    (λ l. inl (ltb→lt _ _ l))
    (λ q. let s = parts (eqb a.from b.from) (ltb a.to b.to) q in inr (eqb→eq _ _ s.0, ltb→lt _ _ s.1))
    (or_cases (ltb a.from b.from) (eqb a.from b.from && ltb a.to b.to) h)
