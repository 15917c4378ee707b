-- Links by their keys: rising by from, then by to, is rising by key.
use Rattle.std.proofs.Common.{⊎_elim, ◌∙◌, sym, arith, lt-ltb, le-ltb, le-leb, eq-eqb, ne_eqb}
use Rattle.std.specs.Prelude.{◌≡◌, refl, List, [], ◌∷◌, ◌++◌, ◌+◌, ◌*◌, ◌<◌, ◌≤◌, leb}
use Rattle.std.proofs.lemmas.Bool.{lt-leb}
use Rattle.std.proofs.Math.Dec.{leb-zero}
use Rattle.base.specs.Laws.Tests.{lt_or_ge}
use Rattle.job.specs.Job.{Edge}
use Rattle.job.specs.Record.{rises, above_last}
use Rattle.job.specs.Pass.{key, Above}

pub above_none : Above [] 0
unfolding above_last
above_none e h = sym (leb-zero (key e))

above_last_lem : (es : List Edge) (a e : Edge) → above_last (es ++ (a ∷ [])) e ≡ rises a e
unfolding above_last
above_last_lem [] a e = refl
above_last_lem (x ∷ []) a e = refl
above_last_lem (x ∷ y ∷ es) a e = above_last_lem (y ∷ es) a e

rises_key : (a e : Edge) → a.to < 256 → e.to < 256 → rises a e ≡ leb (key a + 1) (key e)
unfolding rises key
rises_key a e h k = ⊎_elim
    (λ (l : a.from < e.from). simp (lt-ltb _ _ l) (sym (le-leb (256 * a.from + a.to + 1) (256 * e.from + e.to) (omega arith))))
    (λ (g : e.from ≤ a.from). ⊎_elim
    (λ (l : e.from < a.from). simp (le-ltb _ _ g, ne_eqb a.from e.from (λ q. omega arith))
    (sym (lt-leb (256 * a.from + a.to + 1) (256 * e.from + e.to) (omega arith))))
    (λ (g' : a.from ≤ e.from).
    let q : a.from ≡ e.from = omega arith in
    simp (le-ltb _ _ g, eq-eqb _ _ q) (⊎_elim
    (λ (l : a.to < e.to). lt-ltb _ _ l ∙ sym (le-leb (256 * a.from + a.to + 1) (256 * e.from + e.to) (omega arith)))
    (λ (l : e.to ≤ a.to). le-ltb _ _ l ∙ sym (lt-leb (256 * a.from + a.to + 1) (256 * e.from + e.to) (omega arith)))
    (lt_or_ge a.to e.to)))
    (lt_or_ge e.from a.from))
    (lt_or_ge a.from e.from)

pub above_more : (es : List Edge) (a : Edge) → a.to < 256 → Above (es ++ (a ∷ [])) (key a + 1)
above_more es a h e k = above_last_lem es a e ∙ rises_key a e h k
