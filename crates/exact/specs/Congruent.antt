-- Whole numbers that differ by a whole number of turns F, and the one of them that lies above -h and up to h, with F = h + h. Assumes nothing.
use Rattle.std.specs.Prelude.{◌≡◌, ℕ, ◌+◌, ◌*◌, ℤ, pos, ◌+ℤ◌, neg_ℤ, ◌≤ℤ◌, ◌<ℤ◌}

pub record Congruent (F : ℕ) (z w : ℤ) : Type 0 where
  pub more : ℕ
  pub less : ℕ
  pub is : z +ℤ pos (more * F) ≡ w +ℤ pos (less * F)

pub record Reduced (h : ℕ) (z r : ℤ) : Type 0 where
  pub turns : Congruent (h + h) z r
  pub above : neg_ℤ (pos h) <ℤ r
  pub upto : r ≤ℤ pos h
