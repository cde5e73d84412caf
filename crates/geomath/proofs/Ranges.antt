-- Where the two parts of a difference of longitudes lie together: on whole numbers, with e the exact sum of two normalized longitudes, g that sum rounded, and r the
-- rounded sum reduced by whole turns.
use Rattle.std.proofs.Common.{◌≡◌, ℕ, suc, ◌+◌, ◌*◌, ◌<◌, ◌≤◌, ◌⊎◌, ℤ, pos, ◌+ℤ◌, ◌-ℤ◌, neg_ℤ, nat_abs, ◌≤ℤ◌, ◌<ℤ◌, sym, ap, ◌∙◌, inl, inr, le_of_lt, mul-le-mul_right, suc-mul, arith}
use Rattle.std.proofs.lemmas.Bool.{cases_lt}
use Rattle.std.proofs.lemmas.Int.{ints}
use Rattle.exact.specs.Rounded.{rounded_z, RepZ}
use Rattle.exact.specs.Congruent.{Congruent}
use Rattle.exact.proofs.Integers.{rounded_z-low, rounded_z-high, rounded_z_exact, ≤ℤ_or_<ℤ, <ℤ_≤ℤ}

-- ---- a rounded number lies on the side of a representable one that the number itself lies on
abbrev pub Sides : ℤ → ℤ → ℤ → Type 0
Sides c e g = ((e <ℤ c) × (g ≤ℤ c)) ⊎ (((e ≡ c) × (g ≡ c)) ⊎ ((c <ℤ e) × (c ≤ℤ g)))

level_or_more : (c e : ℤ) → c ≤ℤ e → (e ≡ c) ⊎ (c <ℤ e)
level_or_more c e h = elim (≤ℤ_or_<ℤ e c) [ inl l ↦ inl (omega (arith, ints)) | inr l ↦ inr l ]

pub sides : (p : ℕ) (c e : ℤ) → 0 < p → RepZ p c → Sides c e (rounded_z p e)
sides p c e P r =
    elim (≤ℤ_or_<ℤ c e) [
      | inl l ↦ elim (level_or_more c e l) [
        | inl q ↦ inr (inl (q, ap (rounded_z p) q ∙ rounded_z_exact p c P r))
        | inr m ↦ inr (inr (m, (rounded_z-low p c e P r l).0))
      ]
      | inr m ↦ inl (m, (rounded_z-high p c e P r (<ℤ_≤ℤ e c m)).0)
    ]

-- ---- what differs from a reduced number by turns, and is at most a turn in size, is it, or it and one turn more or less
abbrev pub Near : ℕ → ℤ → ℤ → Type 0
Near F g r = (g ≡ r) ⊎ ((g ≡ r +ℤ pos F) ⊎ (g +ℤ pos F ≡ r))

far : (h m l : ℕ) (g r : ℤ) → 0 < h → nat_abs g ≤ h + h → neg_ℤ (pos h) <ℤ r → r ≤ℤ pos h → g +ℤ pos m ≡ r +ℤ pos l → m + (h + h + (h + h)) ≤ l → ⊥
far h m l g r H s a u e k = omega (arith, ints)

far_back : (h m l : ℕ) (g r : ℤ) → 0 < h → nat_abs g ≤ h + h → neg_ℤ (pos h) <ℤ r → r ≤ℤ pos h → g +ℤ pos m ≡ r +ℤ pos l → l + (h + h + (h + h)) ≤ m → ⊥
far_back h m l g r H s a u e k = omega (arith, ints)

one_more : (m l f : ℕ) (g r : ℤ) → l ≡ m + f → g +ℤ pos m ≡ r +ℤ pos l → g ≡ r +ℤ pos f
one_more m l f g r k e = omega (arith, ints)

one_less : (m l f : ℕ) (g r : ℤ) → m ≡ l + f → g +ℤ pos m ≡ r +ℤ pos l → g +ℤ pos f ≡ r
one_less m l f g r k e = omega (arith, ints)

no_more : (m l : ℕ) (g r : ℤ) → l ≡ m → g +ℤ pos m ≡ r +ℤ pos l → g ≡ r
no_more m l g r k e = omega (arith, ints)

abbrev Steps : ℕ → ℕ → Type 0
Steps m l = (l ≡ m) ⊎ ((l ≡ suc m) ⊎ (suc (suc m) ≤ l))

steps : (m l : ℕ) → m ≤ l → Steps m l
steps m l h = elim (cases_lt m l) [
  | inr k ↦ inl (omega arith)
  | inl k ↦ inr (elim (cases_lt (suc m) l) [ inr q ↦ inl (omega arith) | inl q ↦ inr q ])
]

turn_more : (m l F : ℕ) → l ≡ suc m → l * F ≡ m * F + F
turn_more m l F e = ap (λ (k : ℕ). k * F) e ∙ suc-mul m F

turns_more : (m l F : ℕ) → suc (suc m) ≤ l → m * F + (F + F) ≤ l * F
turns_more m l F h = counted (mul-le-mul_right F h) (suc-mul (suc m) F) (suc-mul m F)
  where
    counted : {a b : ℕ} → a ≤ b → a ≡ suc m * F + F → suc m * F ≡ m * F + F → m * F + (F + F) ≤ b
    counted l e k = omega arith

pub near : (h : ℕ) (g r : ℤ) → 0 < h → nat_abs g ≤ h + h → neg_ℤ (pos h) <ℤ r → r ≤ℤ pos h → Congruent (h + h) g r → Near (h + h) g r
near h g r H s a u c = elim (cases_lt c.less c.more) [
  | inr k ↦ elim (steps c.more c.less k) [
    | inl e ↦ inl (no_more (c.more * F) (c.less * F) g r (ap (λ (n : ℕ). n * F) e) c.is)
    | inr q ↦ elim q [
      | inl e ↦ inr (inl (one_more (c.more * F) (c.less * F) F g r (turn_more c.more c.less F e) c.is))
      | inr l ↦ absurd (far h (c.more * F) (c.less * F) g r H s a u c.is (turns_more c.more c.less F l))
    ]
  ]
  | inl k ↦ elim (steps c.less c.more (le_of_lt k)) [
    | inl e ↦ inl (no_more (c.more * F) (c.less * F) g r (ap (λ (n : ℕ). n * F) (sym e)) c.is)
    | inr q ↦ elim q [
      | inl e ↦ inr (inr (one_less (c.more * F) (c.less * F) F g r (turn_more c.less c.more F e) c.is))
      | inr l ↦ absurd (far_back h (c.more * F) (c.less * F) g r H s a u c.is (turns_more c.less c.more F l))
    ]
  ]
]
  where
    F : ℕ
    F = h + h

-- ---- the range of the two parts together: e is the exact sum, g is e rounded, r is g reduced
module _ (h : ℕ) (e g r : ℤ) (H : 0 < h) (small : nat_abs g ≤ h + h) (above : neg_ℤ (pos (h + h)) <ℤ e) (upto : e ≤ℤ pos (h + h)) (low : neg_ℤ (pos h) <ℤ r) (high : r ≤ℤ pos h)
    (east : Sides (pos h) e g) (west : Sides (neg_ℤ (pos h)) e g) (turns : Near (h + h) g r) where
  -- the first part is kept where it is no half turn, or nothing is left over to the east
  pub kept_low : ((r ≡ pos h → ⊥) ⊎ ((e -ℤ g) ≤ℤ pos 0)) → neg_ℤ (pos h) <ℤ (r +ℤ (e -ℤ g))
  kept_low k = omega (arith, ints)

  pub kept_high : ((r ≡ pos h → ⊥) ⊎ ((e -ℤ g) ≤ℤ pos 0)) → (r +ℤ (e -ℤ g)) ≤ℤ pos h
  kept_high k = omega (arith, ints)

  -- a half turn with something left over is written as one to the west
  pub west_low : r ≡ pos h → pos 0 <ℤ (e -ℤ g) → neg_ℤ (pos h) <ℤ (neg_ℤ (pos h) +ℤ (e -ℤ g))
  west_low q l = omega (arith, ints)

  pub west_high : r ≡ pos h → pos 0 <ℤ (e -ℤ g) → (neg_ℤ (pos h) +ℤ (e -ℤ g)) ≤ℤ pos h
  west_high q l = omega (arith, ints)

-- ---- the sum of two normalized longitudes
module _ (h : ℕ) (a b : ℤ) (al : neg_ℤ (pos h) <ℤ a) (au : a ≤ℤ pos h) (bl : neg_ℤ (pos h) <ℤ b) (bu : b ≤ℤ pos h) where
  pub sum_above : neg_ℤ (pos (h + h)) <ℤ (a +ℤ b)
  sum_above = omega (arith, ints)

  pub sum_upto : (a +ℤ b) ≤ℤ pos (h + h)
  sum_upto = omega (arith, ints)

  pub sum-size : nat_abs (a +ℤ b) ≤ h + h
  sum-size = omega (arith, ints)

-- ---- sizes
pub size_in : (h : ℕ) (v : ℤ) → neg_ℤ (pos h) <ℤ v → v ≤ℤ pos h → nat_abs v ≤ h
size_in h v a u = omega (arith, ints)

pub size_below : (h : ℕ) → nat_abs (neg_ℤ (pos h)) ≤ h
size_below h = omega (arith, ints)
