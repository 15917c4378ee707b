-- One entry of an array after a store, or as it was: what it is, and that no other entry changes.
use Rattle.std.specs.Prelude.{◌≡◌, refl, List, ℕ, ◌<◌, length, get_or, set}
use Rattle.std.proofs.Common.{length-set, get_or-set_same, get_or-set_other}

-- entry t is r
pub record Entry (t r : ℕ) (before after : List ℕ) : Type 0 where
  pub size : length after ≡ length before
  pub here : get_or after t 0 ≡ r
  pub elsewhere : (T : ℕ) → (T ≡ t → ⊥) → get_or after T 0 ≡ get_or before T 0

-- it was stored
pub stored : {t r : ℕ} {before after : List ℕ} → t < length before → after ≡ set before t r → Entry t r before after
stored {t} {r} {before} h e = record {
  size = rw e (length-set before t r);
  here = rw e (get_or-set_same before t r 0 h);
  elsewhere = λ T d. rw e (get_or-set_other before t T r 0 d);
}

-- it was kept
pub kept : {t : ℕ} {before after : List ℕ} → after ≡ before → Entry t (get_or before t 0) before after
kept e = record { size = rw e refl; here = rw e refl; elsewhere = λ T d. rw e refl }
