-- The canonical latitudes do not change when the points are exchanged or both latitudes are mirrored.
use Rattle.std.proofs.Common.{◌≡◌, ◌<◌, Bool, true, false, cond, not, T, ltb, ◌⊎◌, ℤ, pos, negsuc, neg_ℤ, nat_abs, sym, refl, ap, ◌∙◌, subst, inl, inr, le_of_lt, le_antisymm, not-le_of_lt, arith, ltb-false, ltb-true}
use Rattle.std.proofs.lemmas.Int.{ints}
use lib.Ieee.{Float, binary64, neg, fits}
use Rattle.std.specs.Float.{float_with_sign}
use Rattle.exact.specs.Values.{Is}
use Rattle.exact.proofs.Values.{neg_is}
use Rattle.exact.proofs.Orders.{lt_is}
use Rattle.exact.proofs.Unique.{same_value}
use Rattle.exact.proofs.Products.{mul_opposites, mul-minus-moved}
use Rattle.floats.specs.Arithmetic.{◌⊗◌, ◌≺◌}
use Rattle.geomath.specs.Angles.{zero as none, one}
use Rattle.geomath.proofs.Turns.{is_none}
use Rattle.geomath.proofs.Mirror.{opposite_test, opposite_sign, size_of_opposite, opposite_float}
use Rattle.geomath.proofs.OffEquator.{size_is}

-- the sign that brings a latitude to the south
abbrev pub south_of : Float → Float
south_of p = cond (p ≺ none) one (neg one)

-- the two latitudes of which the second is farther from the equator or not, p the farther one
abbrev pub first_of : Float → Float → Float
first_of p q = p ⊗ south_of p

abbrev pub second_of : Float → Float → Float
second_of p q = q ⊗ south_of p

-- the same, sorted
abbrev pub sorted_first : Float → Float → Float
sorted_first p q = cond (float_with_sign false p ≺ float_with_sign false q) (first_of q p) (first_of p q)

abbrev pub sorted_second : Float → Float → Float
sorted_second p q = cond (float_with_sign false p ≺ float_with_sign false q) (second_of q p) (second_of p q)

-- ---- the opposite latitudes
opposite_south : (p : Float) (z : ℤ) → Is binary64 p z → 0 < nat_abs z → south_of (neg p) ≡ neg (south_of p)
opposite_south p z i h =
    ap (λ (b : Bool). cond b one (neg one)) (lt_is binary64 (neg p) none (neg_ℤ z) (pos 0) (neg_is binary64 p z i) is_none ∙ opposite_test z h ∙ ap not (sym (lt_is binary64 p none z (pos 0) i is_none)))
    ∙ opposite_sign (p ≺ none)

pub first_opposite : (p q : Float) (z : ℤ) → Is binary64 p z → 0 < nat_abs z → first_of (neg p) (neg q) ≡ first_of p q
first_opposite p q z i h = ap (λ (v : Float). neg p ⊗ v) (opposite_south p z i h) ∙ mul_opposites binary64 p (south_of p)

pub second_opposite : (p q : Float) (z : ℤ) → Is binary64 p z → 0 < nat_abs z → second_of (neg p) (neg q) ≡ second_of p q
second_opposite p q z i h = ap (λ (v : Float). neg q ⊗ v) (opposite_south p z i h) ∙ mul_opposites binary64 q (south_of p)

module _ (p q : Float) (y z : ℤ) (F : T (fits binary64 p)) (G : T (fits binary64 q)) (i : Is binary64 p y) (j : Is binary64 q z) (hy : 0 < nat_abs y) (hz : 0 < nat_abs z) where
  mirrored_test : (float_with_sign false (neg p) ≺ float_with_sign false (neg q)) ≡ (float_with_sign false p ≺ float_with_sign false q)
  mirrored_test = λ k. size_of_opposite p k ≺ size_of_opposite q k

  pub mirrored_first : sorted_first (neg p) (neg q) ≡ sorted_first p q
  mirrored_first = λ k. cond (mirrored_test k) (first_opposite q p z j hz k) (first_opposite p q y i hy k)

  pub mirrored_second : sorted_second (neg p) (neg q) ≡ sorted_second p q
  mirrored_second = λ k. cond (mirrored_test k) (second_opposite q p z j hz k) (second_opposite p q y i hy k)

  -- ---- exchanged
  test : (float_with_sign false p ≺ float_with_sign false q) ≡ ltb (nat_abs y) (nat_abs z)
  test = lt_is binary64 (float_with_sign false p) (float_with_sign false q) (pos (nat_abs y)) (pos (nat_abs z)) (size_is p y i) (size_is q z j)

  back : (float_with_sign false q ≺ float_with_sign false p) ≡ ltb (nat_abs z) (nat_abs y)
  back = lt_is binary64 (float_with_sign false q) (float_with_sign false p) (pos (nat_abs z)) (pos (nat_abs y)) (size_is q z j) (size_is p y i)

  same_or_opposite : (a b : ℤ) → nat_abs a ≡ nat_abs b → (b ≡ a) ⊎ (b ≡ neg_ℤ a)
  same_or_opposite (pos m) (pos n) e = inl (omega (arith, ints))
  same_or_opposite (pos m) (negsuc n) e = inr (omega (arith, ints))
  same_or_opposite (negsuc m) (pos n) e = inr (omega (arith, ints))
  same_or_opposite (negsuc m) (negsuc n) e = inl (omega (arith, ints))

  level : nat_abs y ≡ nat_abs z → (q ≡ p) ⊎ (q ≡ neg p)
  level e = elim (same_or_opposite y z e) [
    | inl h ↦ inl (same_value binary64 q p y G F hy (subst (Is binary64 q) h j) i)
    | inr h ↦ inr (opposite_float p q y F G hy i (subst (Is binary64 q) h j))
  ]

  -- at equal sizes either of the two may stand first
  turned_first : first_of (neg p) p ≡ first_of p (neg p)
  turned_first = ap (λ (v : Float). neg p ⊗ v) (opposite_south p y i hy) ∙ mul_opposites binary64 p (south_of p)

  turned_second : second_of (neg p) p ≡ second_of p (neg p)
  turned_second = ap (λ (v : Float). p ⊗ v) (opposite_south p y i hy) ∙ sym (mul-minus-moved binary64 p (south_of p))

  level_first : nat_abs y ≡ nat_abs z → first_of q p ≡ first_of p q
  level_first e = elim (level e) [ inl h ↦ (λ k. first_of (h k) p) ∙ sym (λ k. first_of p (h k)) | inr h ↦ (λ k. first_of (h k) p) ∙ turned_first ∙ sym (λ k. first_of p (h k)) ]

  level_second : nat_abs y ≡ nat_abs z → second_of q p ≡ second_of p q
  level_second e = elim (level e) [ inl h ↦ (λ k. second_of (h k) p) ∙ sym (λ k. second_of p (h k)) | inr h ↦ (λ k. second_of (h k) p) ∙ turned_second ∙ sym (λ k. second_of p (h k)) ]

  exchanged : (a b : Float) → (nat_abs y ≡ nat_abs z → a ≡ b) → cond (float_with_sign false q ≺ float_with_sign false p) b a ≡ cond (float_with_sign false p ≺ float_with_sign false q) a b
  exchanged a b e = (λ k. cond (back k) b a) ∙ go (ltb (nat_abs y) (nat_abs z)) (ltb (nat_abs z) (nat_abs y)) refl refl ∙ sym (λ k. cond (test k) a b)
    where
      go : (s t : Bool) → ltb (nat_abs y) (nat_abs z) ≡ s → ltb (nat_abs z) (nat_abs y) ≡ t → cond t b a ≡ cond s a b
      go true true h k = absurd (not-le_of_lt (ltb-true (nat_abs y) (nat_abs z) h) (le_of_lt (ltb-true (nat_abs z) (nat_abs y) k)))
      go true false h k = refl
      go false true h k = refl
      go false false h k = e (le_antisymm (ltb-false (nat_abs z) (nat_abs y) k) (ltb-false (nat_abs y) (nat_abs z) h))

  pub exchanged_first : sorted_first q p ≡ sorted_first p q
  exchanged_first = exchanged (first_of q p) (first_of p q) level_first

  pub exchanged_second : sorted_second q p ≡ sorted_second p q
  exchanged_second = exchanged (second_of q p) (second_of p q) level_second
