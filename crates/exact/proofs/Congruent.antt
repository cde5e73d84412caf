-- To differ by whole turns is an equivalence that respects sums and signs, and a number has one reduced form.
use Rattle.std.proofs.Common.{◌≡◌, ℕ, ◌+◌, ◌*◌, ◌<◌, ◌≤◌, ◌⊎◌, ℤ, pos, ◌+ℤ◌, neg_ℤ, ◌≤ℤ◌, ◌<ℤ◌, sym, ap, ◌∙◌, subst, inl, inr, mul-le-mul_right, suc-mul, add-mul, eq-or-lt_of_le, one-mul, zero-mul, arith}
use Rattle.std.proofs.lemmas.Bool.{cases_lt}
use Rattle.std.proofs.lemmas.Int.{ints}
use Rattle.exact.specs.Congruent.{Congruent, Reduced}
use Rattle.exact.proofs.Integers.{≤ℤ_or_<ℤ}

module _ (F : ℕ) where
  pub congruent_same : (z w : ℤ) → z ≡ w → Congruent F z w
  congruent_same z w e = record { more = 0; less = 0; is = ap (λ (v : ℤ). v +ℤ pos (0 * F)) e }

  pub congruent_turned : (z w : ℤ) → Congruent F z w → Congruent F w z
  congruent_turned z w c = record { more = c.less; less = c.more; is = sym c.is }

  -- ---- sums
  joined : (a b c d : ℕ) (x y z w : ℤ) (ab cd : ℕ) → ab ≡ a + b → cd ≡ c + d → x +ℤ pos a ≡ z +ℤ pos c → y +ℤ pos b ≡ w +ℤ pos d → (x +ℤ y) +ℤ pos ab ≡ (z +ℤ w) +ℤ pos cd
  joined a b c d x y z w ab cd e g h k = omega (arith, ints)

  pub congruent_plus : (x y z w : ℤ) → Congruent F x z → Congruent F y w → Congruent F (x +ℤ y) (z +ℤ w)
  congruent_plus x y z w c d = record {
    more = c.more + d.more;
    less = c.less + d.less;
    is = joined (c.more * F) (d.more * F) (c.less * F) (d.less * F) x y z w ((c.more + d.more) * F) ((c.less + d.less) * F) (add-mul c.more d.more F) (add-mul c.less d.less F) c.is d.is;
  }

  chained : (a b c d : ℕ) (x y z : ℤ) (ac bd : ℕ) → ac ≡ a + c → bd ≡ b + d → x +ℤ pos a ≡ y +ℤ pos b → y +ℤ pos c ≡ z +ℤ pos d → x +ℤ pos ac ≡ z +ℤ pos bd
  chained a b c d x y z ac bd e g h k = omega (arith, ints)

  pub congruent_trans : (x y z : ℤ) → Congruent F x y → Congruent F y z → Congruent F x z
  congruent_trans x y z c d = record {
    more = c.more + d.more;
    less = c.less + d.less;
    is = chained (c.more * F) (c.less * F) (d.more * F) (d.less * F) x y z ((c.more + d.more) * F) ((c.less + d.less) * F) (add-mul c.more d.more F) (add-mul c.less d.less F) c.is d.is;
  }

  -- ---- signs
  mirrored : (a b : ℕ) (x y : ℤ) → x +ℤ pos a ≡ y +ℤ pos b → neg_ℤ x +ℤ pos b ≡ neg_ℤ y +ℤ pos a
  mirrored a b x y h = omega (arith, ints)

  pub congruent_neg : (x y : ℤ) → Congruent F x y → Congruent F (neg_ℤ x) (neg_ℤ y)
  congruent_neg x y c = record { more = c.less; less = c.more; is = mirrored (c.more * F) (c.less * F) x y c.is }

  -- ---- one turn
  turned_on : (x y : ℤ) (f : ℕ) → f ≡ F → x +ℤ pos F ≡ y → x +ℤ pos f ≡ y +ℤ pos 0
  turned_on x y f e h = omega (arith, ints)

  pub congruent_turn_on : (x y : ℤ) → x +ℤ pos F ≡ y → Congruent F x y
  congruent_turn_on x y h = record { more = 1; less = 0; is = turned_on x y (1 * F) (one-mul F) h ∙ ap (λ (k : ℕ). y +ℤ pos k) (sym (zero-mul F)) }

-- ---- the reduced form
apart : (h a b : ℕ) (x y : ℤ) → neg_ℤ (pos h) <ℤ x → y ≤ℤ pos h → x +ℤ pos a ≡ y +ℤ pos b → b + (h + h) ≤ a → ⊥
apart h a b x y p q e l = omega (arith, ints)

level : (a : ℕ) (x y : ℤ) → x +ℤ pos a ≡ y +ℤ pos a → x ≡ y
level a x y e = omega (arith, ints)

more_turns : (m n F : ℕ) → m < n → m * F + F ≤ n * F
more_turns m n F l = subst (λ (k : ℕ). k ≤ n * F) (suc-mul m F) (mul-le-mul_right F l)

pub reduced_once : (h : ℕ) (x y : ℤ) → Congruent (h + h) x y → neg_ℤ (pos h) <ℤ x → x ≤ℤ pos h → neg_ℤ (pos h) <ℤ y → y ≤ℤ pos h → x ≡ y
reduced_once h x y c xl xu yl yu =
    elim (cases_lt c.less c.more) [
      | inr le ↦ elim (eq-or-lt_of_le le) [
        | inl e ↦ level (c.less * (h + h)) x y (ap (λ (k : ℕ). x +ℤ pos (k * (h + h))) (sym e) ∙ c.is)
        | inr lt ↦ absurd (apart h (c.less * (h + h)) (c.more * (h + h)) y x yl xu (sym c.is) (more_turns c.more c.less (h + h) lt))
      ]
      | inl lt ↦ absurd (apart h (c.more * (h + h)) (c.less * (h + h)) x y xl yu c.is (more_turns c.less c.more (h + h) lt))
    ]

pub reduced_unique : (h : ℕ) (z r s : ℤ) → Reduced h z r → Reduced h z s → r ≡ s
reduced_unique h z r s c d =
    reduced_once h r s (congruent_trans (h + h) r z s (congruent_turned (h + h) z r c.turns) d.turns) c.above c.upto d.above d.upto

-- ---- the opposite: reduced it is the opposite, or both are h
below_half : (h : ℕ) (r : ℤ) → (r ≡ pos h → ⊥) → neg_ℤ (pos h) <ℤ r → r ≤ℤ pos h → (neg_ℤ (pos h) <ℤ neg_ℤ r) × (neg_ℤ r ≤ℤ pos h)
below_half h r n l u = omega (arith, ints)

half_or_not : (h : ℕ) (r : ℤ) → r ≤ℤ pos h → (r ≡ pos h) ⊎ (r ≡ pos h → ⊥)
half_or_not h r u = elim (≤ℤ_or_<ℤ (pos h) r) [ inl l ↦ inl (omega (arith, ints)) | inr l ↦ inr (λ e. below r h l e) ]
  where
    below : (r : ℤ) (h : ℕ) → r <ℤ pos h → r ≡ pos h → ⊥
    below r h l e = omega (arith, ints)

opposite_half : (h : ℕ) (r : ℤ) → r ≡ pos h → neg_ℤ r +ℤ pos (h + h) ≡ pos h
opposite_half h r e = omega (arith, ints)

at_half : (h : ℕ) (s : ℤ) → neg_ℤ (pos h) <ℤ s → s ≤ℤ pos h → (neg_ℤ (pos h) <ℤ pos h) × (pos h ≤ℤ pos h)
at_half h s l u = omega (arith, ints)

pub opposite_reduced : (h : ℕ) (z r s : ℤ) → Reduced h z r → Reduced h (neg_ℤ z) s → (s ≡ neg_ℤ r) ⊎ ((r ≡ pos h) × (s ≡ pos h))
opposite_reduced h z r s c d =
    let F = h + h in
    let turned : Congruent F s (neg_ℤ r) = congruent_trans F s (neg_ℤ z) (neg_ℤ r) (congruent_turned F (neg_ℤ z) s d.turns) (congruent_neg F z r c.turns) in
    elim (half_or_not h r c.upto) [
      | inl e ↦
          let own = at_half h s d.above d.upto in
          inr (e, reduced_once h s (pos h) (congruent_trans F s (neg_ℤ r) (pos h) turned (congruent_turn_on F (neg_ℤ r) (pos h) (opposite_half h r e))) d.above d.upto own.0 own.1)
      | inr n ↦
          let range = below_half h r n c.above c.upto in
          inl (reduced_once h s (neg_ℤ r) turned d.above d.upto range.0 range.1)
    ]
