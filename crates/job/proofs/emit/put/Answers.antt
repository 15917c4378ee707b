-- `emit::put`: the bytes stand in the place of as many.
use Rattle.std.proofs.Common.{◌≡◌, ◌+◌, ◌-◌, ◌≤◌, ℕ, List, refl, arith, length, append_assoc}
use Rattle.std.proofs.lemmas.List.Edits.{sets, sets-eq}
use borrow.Rule.Slice.PartMut.{put_mid, Post-is}
use Rattle.job.proofs.emit.put.Goals as goal

in_place : (l vs : List ℕ) (i : ℕ) → i + length vs ≤ length l → put_mid i (i + length vs - i) l vs ≡ sets l i vs
in_place l vs i h = rw (Post-is i (i + length vs) l (omega arith), sets-eq vs l i h, append_assoc) refl

pub returns : goal.returns
returns c = record { stored = rw c.copy_from_slice.ensures.after (in_place _ _ _ c.requires); past = refl }
