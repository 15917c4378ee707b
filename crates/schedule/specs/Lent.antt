-- Room in the three slices that a call is lent, for m tasks (01: 9, "a lent slice too short").
use Rattle.std.specs.Prelude.{◌⊎◌, List, ℕ, ◌≤◌, ◌<◌, length}

module _ (places m : ℕ) (starts processors scratch : List ℕ) where
  -- one of them is too short, of the scratch for so many places
  abbrev pub ShortFor : Type 0
  ShortFor = (length starts < m) ⊎ ((length processors < m) ⊎ (length scratch < places))

  -- each has room
  pub record RoomFor : Type 0 where
    pub for_starts : m ≤ length starts
    pub for_processors : m ≤ length processors
    pub for_scratch : places ≤ length scratch

-- the same for the planner's 4,096 places
module _ (m : ℕ) (starts processors scratch : List ℕ) where
  abbrev pub Short : Type 0
  Short = ShortFor 4096 m starts processors scratch

  abbrev pub HasRoom : Type 0
  HasRoom = RoomFor 4096 m starts processors scratch
