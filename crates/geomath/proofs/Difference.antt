-- The two parts of a difference of longitudes are together the reduced difference exactly: the sum of the normalized longitudes is error free, its first part is
-- normalized exactly, and where that is a half turn with something left over to the east, the half turn is written as one to the west.
use Rattle.std.proofs.Common.{◌≡◌, ℕ, ◌+◌, ◌*◌, ◌<◌, ◌≤◌, Bool, true, false, cond, not, ◌&&◌, T, ◌⊎◌, ℤ, pos, ◌+ℤ◌, ◌-ℤ◌, neg_ℤ, nat_abs, ◌≤ℤ◌, ◌<ℤ◌, sym, refl, ap, ◌∙◌, subst, inl, inr, le_trans, arith, lit<}
use lib.Signed.{lt_z, lt_z_yes, lt_z_no}
use Rattle.std.proofs.lemmas.Int.{ints}
use lib.Ieee.{Float, binary64, prec, neg, fits, of_bits}
use lib.Ieee.Fits.{add-fits, neg-fits}
use lib.Ieee.Scale.{overflow}
use Rattle.std.specs.Float.{float_is_finite}
use Rattle.exact.specs.Rounded.{rounded_z, RepZ}
use Rattle.exact.specs.Values.{value, Is}
use Rattle.exact.specs.Congruent.{Congruent, Reduced}
use Rattle.exact.proofs.Values.{finite_value, is_value, is_tested, is_rep, neg_is}
use Rattle.exact.proofs.Orders.{lt_is, eq_is, eq_z, eq_z_true, eq_z_false}
use Rattle.exact.proofs.Integers.{rep_neg, rounded_z_at_most}
use Rattle.exact.proofs.Roundings.{prec_pos}
use Rattle.exact.proofs.ErrorFree.{plus_error_left}
use Rattle.exact.proofs.TwoSum.{two-sum, Transformed}
use Rattle.exact.proofs.Rests.{whole_sum, roomy}
use Rattle.exact.proofs.Congruent.{congruent_same, congruent_trans, congruent_turned, congruent_turn_on, congruent_plus, congruent_neg}
use Rattle.floats.specs.Arithmetic.{◌≗◌, ◌≻◌}
use Rattle.floats.specs.Sums.{high, low}
use Rattle.geomath.specs.Angles.{zero as none, half_turn, turn, ang_normalize, start, ang_diff, ang_diff_error}
use Rattle.geomath.specs.Exact.{half, exactly, Difference}
use Rattle.geomath.proofs.Turns.{half_pos, half-fits, turn-fits, is_half, is_turn, is_none, is_minus_half}
use Rattle.geomath.proofs.Normalized.{Normal, normal}
use Rattle.geomath.proofs.Ranges.{Sides, sides, Near, near, kept_low, kept_high, west_low, west_high, sum_above, sum_upto, sum-size, size_in, size_below}

-- ---- the parts as floats
-- Two floats with exact values a and b, neither larger than a half turn, have an error-free sum.
half_room : 4 * (half + half) < overflow binary64
unfolding half value of_bits
half_room = lit< tt

pub parts : (u v : Float) (a b : ℤ) → T (fits binary64 u) → T (fits binary64 v) → Is binary64 u a → Is binary64 v b → nat_abs a ≤ half → nat_abs b ≤ half → Transformed binary64 u v a b
parts u v a b F G i j p q = two-sum binary64 u v a b F G i j (roomy (nat_abs a) (nat_abs b) half (overflow binary64) p q half_room)

-- the exact value E of the difference, in its range, congruent to the sum of the exact values, and the float that starts the last sum
pub record Started (e : ℤ) (d t : Float) : Type 0 where
  pub first : ℤ
  pub second : ℤ
  pub is_first : Is binary64 d first
  pub is_second : Is binary64 t second
  pub fit_first : T (fits binary64 d)
  pub fit_second : T (fits binary64 t)
  pub first_size : nat_abs first ≤ half
  pub second_size : nat_abs second ≤ half
  pub reduced : Reduced half e (first +ℤ second)

round_about : (h : ℕ) → neg_ℤ (pos h) +ℤ pos (h + h) ≡ pos h
round_about h = omega (arith, ints)

module _ (u v : Float) (a b : ℤ) (F : T (fits binary64 u)) (G : T (fits binary64 v)) (i : Is binary64 u a) (j : Is binary64 v b)
    (al : neg_ℤ (pos half) <ℤ a) (au : a ≤ℤ pos half) (bl : neg_ℤ (pos half) <ℤ b) (bu : b ≤ℤ pos half) where
  abbrev e : ℤ
  e = a +ℤ b

  abbrev g : ℤ
  g = rounded_z (prec binary64) e

  both : Transformed binary64 u v a b
  both = parts u v a b F G i j (size_in half a al au) (size_in half b bl bu)

  low_fits : T (fits binary64 (low u v))
  low_fits = neg-fits binary64 _ (add-fits binary64 _ _)

  again : Normal (exactly (high u v)) (ang_normalize (high u v))
  again = normal (high u v) (add-fits binary64 u v) (is_tested binary64 (high u v) g both.high)

  abbrev r : ℤ
  r = again.exact

  from_rounded : Reduced half g r
  from_rounded = subst (λ (z : ℤ). Reduced half z r) (is_value binary64 (high u v) g both.high) again.reduced

  rest_size : nat_abs (e -ℤ g) ≤ half
  rest_size = le_trans (plus_error_left (prec binary64) a b (prec_pos binary64) (is_rep binary64 v b G j)) (size_in half a al au)

  rounded-size : nat_abs g ≤ half + half
  rounded-size = rounded_z_at_most (prec binary64) (half + half) e (prec_pos binary64) (is_rep binary64 turn (pos (half + half)) turn-fits is_turn) (sum-size half a b al au bl bu)

  half_rep : RepZ (prec binary64) (pos half)
  half_rep = is_rep binary64 half_turn (pos half) half-fits is_half

  east_sides : Sides (pos half) e g
  east_sides = sides (prec binary64) (pos half) e (prec_pos binary64) half_rep

  west_sides : Sides (neg_ℤ (pos half)) e g
  west_sides = sides (prec binary64) (neg_ℤ (pos half)) e (prec_pos binary64) (rep_neg (prec binary64) (pos half) half_rep)

  near_by : Near (half + half) g r
  near_by = near half g r half_pos rounded-size from_rounded.above from_rounded.upto from_rounded.turns

  -- ---- the first part, kept or turned to the west
  abbrev d : Float
  d = ang_normalize (high u v)

  abbrev t : Float
  t = low u v

  at_half : (d ≗ half_turn) ≡ eq_z r (pos half)
  at_half = eq_is binary64 d half_turn r (pos half) again.is is_half

  to_east : (t ≻ none) ≡ lt_z (pos 0) (e -ℤ g)
  to_east = lt_is binary64 none t (pos 0) (e -ℤ g) is_none both.low

  kept_turns : Congruent (half + half) e (r +ℤ (e -ℤ g))
  kept_turns = subst (λ (z : ℤ). Congruent (half + half) z (r +ℤ (e -ℤ g))) (whole_sum e g) (congruent_plus (half + half) g (e -ℤ g) r (e -ℤ g) from_rounded.turns (congruent_same (half + half) (e -ℤ g) (e -ℤ g) refl))

  west_turns : r ≡ pos half → Congruent (half + half) e (neg_ℤ (pos half) +ℤ (e -ℤ g))
  west_turns q =
      congruent_trans (half + half) e (r +ℤ (e -ℤ g)) (neg_ℤ (pos half) +ℤ (e -ℤ g)) kept_turns
      (congruent_plus (half + half) r (e -ℤ g) (neg_ℤ (pos half)) (e -ℤ g)
      (congruent_turned (half + half) (neg_ℤ (pos half)) r (congruent_turn_on (half + half) (neg_ℤ (pos half)) r (round_about half ∙ sym q)))
      (congruent_same (half + half) (e -ℤ g) (e -ℤ g) refl))

  kept : ((r ≡ pos half → ⊥) ⊎ ((e -ℤ g) ≤ℤ pos 0)) → Started e d t
  kept k = record {
    first = r;
    second = e -ℤ g;
    is_first = again.is;
    is_second = both.low;
    fit_first = again.fit;
    fit_second = low_fits;
    first_size = size_in half r from_rounded.above from_rounded.upto;
    second_size = rest_size;
    reduced = record {
      turns = kept_turns;
      above = kept_low half e g r half_pos rounded-size (sum_above half a b al au bl bu) (sum_upto half a b al au bl bu) from_rounded.above from_rounded.upto east_sides west_sides near_by k;
      upto = kept_high half e g r half_pos rounded-size (sum_above half a b al au bl bu) (sum_upto half a b al au bl bu) from_rounded.above from_rounded.upto east_sides west_sides near_by k;
    };
  }

  to_west : r ≡ pos half → pos 0 <ℤ (e -ℤ g) → Started e (neg half_turn) t
  to_west q l = record {
    first = neg_ℤ (pos half);
    second = e -ℤ g;
    is_first = is_minus_half;
    is_second = both.low;
    fit_first = neg-fits binary64 half_turn half-fits;
    fit_second = low_fits;
    first_size = size_below half;
    second_size = rest_size;
    reduced = record {
      turns = west_turns q;
      above = west_low half e g r half_pos rounded-size (sum_above half a b al au bl bu) (sum_upto half a b al au bl bu) from_rounded.above from_rounded.upto east_sides west_sides near_by q l;
      upto = west_high half e g r half_pos rounded-size (sum_above half a b al au bl bu) (sum_upto half a b al au bl bu) from_rounded.above from_rounded.upto east_sides west_sides near_by q l;
    };
  }

  started : Started e (start d t) t
  started = go (d ≗ half_turn) (t ≻ none) refl refl
    where
      go : (p q : Bool) → (d ≗ half_turn) ≡ p → (t ≻ none) ≡ q → Started e (cond (p && q) (neg half_turn) d) t
      go true true h k = to_west (eq_z_true r (pos half) (sym at_half ∙ h)) (lt_z_yes (subst T (sym (sym to_east ∙ k)) tt))
      go true false h k = kept (inr (lt_z_no (subst (λ (b : Bool). T (not b)) (sym (sym to_east ∙ k)) tt)))
      go false q h k = kept (inl (eq_z_false r (pos half) (sym at_half ∙ h)))

-- ---- any two finite longitudes
module _ (x y : Float) (F : T (fits binary64 x)) (G : T (fits binary64 y)) (hx : float_is_finite x ≡ true) (hy : float_is_finite y ≡ true) where
  minus-x : Is binary64 (neg x) (neg_ℤ (exactly x))
  minus-x = neg_is binary64 x (exactly x) (finite_value binary64 x F hx)

  left : Normal (exactly (neg x)) (ang_normalize (neg x))
  left = normal (neg x) (neg-fits binary64 x F) (is_tested binary64 (neg x) (neg_ℤ (exactly x)) minus-x)

  right : Normal (exactly y) (ang_normalize y)
  right = normal y G hy

  from : Started (left.exact +ℤ right.exact) (start (ang_normalize (high (ang_normalize (neg x)) (ang_normalize y))) (low (ang_normalize (neg x)) (ang_normalize y))) (low (ang_normalize (neg x)) (ang_normalize y))
  from =
      started (ang_normalize (neg x)) (ang_normalize y) left.exact right.exact left.fit right.fit left.is right.is
      left.reduced.above left.reduced.upto right.reduced.above right.reduced.upto

  pub E : ℤ
  E = from.first +ℤ from.second

  last : Transformed binary64 (start (ang_normalize (high (ang_normalize (neg x)) (ang_normalize y))) (low (ang_normalize (neg x)) (ang_normalize y))) (low (ang_normalize (neg x)) (ang_normalize y)) from.first from.second
  last = parts _ _ from.first from.second from.fit_first from.fit_second from.is_first from.is_second from.first_size from.second_size

  pub first_is : Is binary64 (ang_diff x y) (rounded_z (prec binary64) E)
  unfolding ang_diff E
  first_is = last.high

  pub second_is : Is binary64 (ang_diff_error x y) (E -ℤ rounded_z (prec binary64) E)
  unfolding ang_diff_error E
  second_is = last.low

  total_is : exactly (ang_diff x y) +ℤ exactly (ang_diff_error x y) ≡ E
  total_is =
      (λ i. is_value binary64 (ang_diff x y) (rounded_z (prec binary64) E) first_is i +ℤ is_value binary64 (ang_diff_error x y) (E -ℤ rounded_z (prec binary64) E) second_is i)
      ∙ whole_sum E (rounded_z (prec binary64) E)

  minus_then : (v w : ℤ) → neg_ℤ v +ℤ w ≡ w -ℤ v
  minus_then v w = omega (arith, ints)

  -- the sum of the normalized longitudes is the difference, less whole turns
  sum-turns : Congruent (half + half) (exactly y -ℤ exactly x) (left.exact +ℤ right.exact)
  sum-turns =
      subst (λ (z : ℤ). Congruent (half + half) z (left.exact +ℤ right.exact)) (ap (λ (v : ℤ). v +ℤ exactly y) (is_value binary64 (neg x) (neg_ℤ (exactly x)) minus-x) ∙ minus_then (exactly x) (exactly y))
      (congruent_plus (half + half) (exactly (neg x)) (exactly y) left.exact right.exact left.reduced.turns right.reduced.turns)

  pub E_reduced : Reduced half (exactly y -ℤ exactly x) E
  unfolding E
  E_reduced = record {
    turns = congruent_trans (half + half) (exactly y -ℤ exactly x) (left.exact +ℤ right.exact) (from.first +ℤ from.second) sum-turns from.reduced.turns;
    above = from.reduced.above;
    upto = from.reduced.upto;
  }

  normal_x : Normal (exactly x) (ang_normalize x)
  normal_x = normal x F hx

  -- the difference of the normalized longitudes is the difference, less whole turns
  normal_turns : Congruent (half + half) (exactly (ang_normalize y) -ℤ exactly (ang_normalize x)) (exactly y -ℤ exactly x)
  normal_turns =
      congruent_plus (half + half) (exactly (ang_normalize y)) (neg_ℤ (exactly (ang_normalize x))) (exactly y) (neg_ℤ (exactly x))
      (congruent_turned (half + half) (exactly y) (exactly (ang_normalize y)) (subst (Congruent (half + half) (exactly y)) (sym (is_value binary64 (ang_normalize y) right.exact right.is)) right.reduced.turns))
      (congruent_neg (half + half) (exactly (ang_normalize x)) (exactly x)
      (congruent_turned (half + half) (exactly x) (exactly (ang_normalize x)) (subst (Congruent (half + half) (exactly x)) (sym (is_value binary64 (ang_normalize x) normal_x.exact normal_x.is)) normal_x.reduced.turns)))

  pub difference : Difference x y
  difference = record {
    first_finite = is_tested binary64 (ang_diff x y) (rounded_z (prec binary64) E) first_is;
    second_finite = is_tested binary64 (ang_diff_error x y) (E -ℤ rounded_z (prec binary64) E) second_is;
    total = subst (Reduced half (exactly y -ℤ exactly x)) (sym total_is) E_reduced;
    normalized = subst (Reduced half (exactly (ang_normalize y) -ℤ exactly (ang_normalize x))) (sym total_is) (record {
      turns = congruent_trans (half + half) (exactly (ang_normalize y) -ℤ exactly (ang_normalize x)) (exactly y -ℤ exactly x) E normal_turns E_reduced.turns;
      above = E_reduced.above;
      upto = E_reduced.upto;
    });
    nearest = is_value binary64 (ang_diff x y) (rounded_z (prec binary64) E) first_is ∙ ap (rounded_z (prec binary64)) (sym total_is);
  }
