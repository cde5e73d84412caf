-- The steps of the reduction on floats: each is its step on whole numbers, rounded once at most.
use Rattle.std.proofs.Common.{◌≡◌, ◌<◌, ◌≤◌, Bool, true, false, cond, T, ℤ, pos, ◌+ℤ◌, ◌-ℤ◌, neg_ℤ, nat_abs, ◌≤ℤ◌, ◌<ℤ◌, sym, refl, subst, lt_trans, arith}
use lib.Signed.{lt_z, le_z}
use lib.Ieee.{Float, Format, prec, neg, add, sub, lt, le, fits}
use lib.Ieee.Fits.{add-fits, sub-fits, neg-fits}
use Rattle.std.proofs.lemmas.Int.{ints}
use Rattle.exact.specs.Rounded.{rounded_z, RepZ}
use Rattle.exact.specs.Values.{Is, Rounds}
use Rattle.exact.proofs.Signs.{unsigned_abs_neg}
use Rattle.exact.proofs.Values.{neg_is, is_rep, is_below}
use Rattle.exact.proofs.Sums.{add_rounds, sub-rounds}
use Rattle.exact.proofs.Naturals.{rep_zero}
use Rattle.exact.proofs.Orders.{lt_is, le_is}
use Rattle.exact.proofs.Roundings.{rounds_bounded, rounds_exact, prec_pos}
use Rattle.exact.proofs.Integers.{rounded_z-low, rounded_z-high}
use Rattle.exact.proofs.Sterbenz.{sterbenz}
use Rattle.area.specs.AreaLaw.{InRange}
use Rattle.area.proofs.Congruence.{Congruent, congruent_add, congruent_less}
use Rattle.area.proofs.Reducing.{Stands, Reaches, stands_rounded, stands_neg, reaches_same, reaches_less, reaches_more, reaches_rounded}

-- the float x stands for the target
pub record Held (f : Format) (A target : ℤ) (x : Float) : Type 0 where
  pub number : ℤ
  pub is : Is f x number
  pub fitting : T (fits f x)
  pub stands : Stands (prec f) A target number

-- the float x is the target but for whole multiples of A, and in range
pub record Placed (f : Format) (signed : Bool) (A target : ℤ) (x : Float) : Type 0 where
  pub number : ℤ
  pub is : Is f x number
  pub reaches : Reaches (prec f) A target number
  pub range : InRange signed A number

-- ---- orders and sizes of whole numbers
half_below : (h A : ℤ) → h +ℤ h ≡ A → pos 0 <ℤ A → nat_abs h < nat_abs A
half_below h A e P = omega (arith, ints)

half_less : (h A r : ℤ) → h +ℤ h ≡ A → (r +ℤ h) -ℤ A ≡ r -ℤ h
half_less h A r e = omega (arith, ints)

plus_opposite : (A r : ℤ) → A -ℤ neg_ℤ r ≡ r +ℤ A
plus_opposite A r = omega (arith, ints)

below_zero_lem : (r : ℤ) → lt_z r (pos 0) ≡ true → r <ℤ pos 0
below_zero_lem r t = omega (arith, ints)

module _ (h A r : ℤ) (halves : h +ℤ h ≡ A) (positive : pos 0 <ℤ A) (below : nat_abs r < nat_abs A) where
  -- half of A towards zero
  up-within : lt_z r (pos 0) ≡ true → nat_abs (r +ℤ h) ≤ nat_abs h
  up-within t = omega (arith, ints)

  down-within : lt_z r (pos 0) ≡ false → nat_abs (r -ℤ h) ≤ nat_abs h
  down-within t = omega (arith, ints)

  -- a signed area above A / 2
  above_near : lt_z h r ≡ true → (A ≤ℤ (r +ℤ r)) × (r ≤ℤ (A +ℤ A))
  above_near t = (omega (arith, ints), omega (arith, ints))

  above_range : lt_z h r ≡ true → InRange true A (r -ℤ A)
  above_range t = (omega (arith, ints), omega (arith, ints))

  above_size : lt_z h r ≡ true → nat_abs (r -ℤ A) < nat_abs A
  above_size t = omega (arith, ints)

  -- up to -A / 2
  under_near : le_z r (neg_ℤ h) ≡ true → (neg_ℤ r ≤ℤ (A +ℤ A)) × (A ≤ℤ (neg_ℤ r +ℤ neg_ℤ r))
  under_near t = (omega (arith, ints), omega (arith, ints))

  under_range : le_z r (neg_ℤ h) ≡ true → InRange true A (r +ℤ A)
  under_range t = (omega (arith, ints), omega (arith, ints))

  under_size : le_z r (neg_ℤ h) ≡ true → nat_abs (r +ℤ A) < nat_abs A
  under_size t = omega (arith, ints)

  -- and between
  middle_range : lt_z h r ≡ false → le_z r (neg_ℤ h) ≡ false → InRange true A r
  middle_range t u = (omega (arith, ints), omega (arith, ints))

  -- an unsigned area
  negative_size : lt_z r (pos 0) ≡ true → nat_abs (r +ℤ A) ≤ nat_abs A
  negative_size t = omega (arith, ints)

  negative_range : lt_z r (pos 0) ≡ true → InRange false A (r +ℤ A)
  negative_range t = (omega (arith, ints), omega (arith, ints))

  same_range : lt_z r (pos 0) ≡ false → InRange false A r
  same_range t = (omega (arith, ints), omega (arith, ints))

-- ---- the sense of the winding
pub turn-held : (f : Format) (A target : ℤ) (x : Float) → Held f A target x → Held f A (neg_ℤ target) (neg x)
turn-held f A target x k = record {
  number = neg_ℤ k.number;
  is = neg_is f x k.number k.is;
  fitting = neg-fits f x k.fitting;
  stands = stands_neg (prec f) A target k.number k.stands;
}

-- ---- the half for an odd number of crossings, and the range
module _ (f : Format) (A h : ℤ) (whole half zero : Float) (W : Is f whole A) (H : Is f half h) (Z : Is f zero (pos 0))
    (fits_whole : T (fits f whole)) (fits-half : T (fits f half)) (halves : h +ℤ h ≡ A) (positive : pos 0 <ℤ A) where
  pub cross_held : (target r : ℤ) (x : Float) → Is f x r → Congruent A r target → nat_abs r < nat_abs A → Held f A (target +ℤ h) (cond (lt x zero) (add f x half) (sub f x half))
  cross_held target r x i c b = subst (λ (t : Bool). Held f A (target +ℤ h) (cond t (add f x half) (sub f x half))) (sym (lt_is f x zero r (pos 0) i Z)) (by_sign (lt_z r (pos 0)) refl)
    where
      rep_half : RepZ (prec f) h
      rep_half = is_rep f half h fits-half H

      sum : Congruent A (r +ℤ h) (target +ℤ h)
      sum = congruent_add A r target h c

      difference : Congruent A (r -ℤ h) (target +ℤ h)
      difference = subst (λ (z : ℤ). Congruent A z (target +ℤ h)) (half_less h A r halves) (congruent_less A (r +ℤ h) (target +ℤ h) sum)

      rounded : (z : ℤ) (y : Float) → Rounds f y z → T (fits f y) → Congruent A z (target +ℤ h) → nat_abs z ≤ nat_abs h → Held f A (target +ℤ h) y
      rounded z y o g k l = record {
        number = rounded_z (prec f) z;
        is = rounds_bounded f y z (nat_abs h) o rep_half (is_below f half h fits-half H) l;
        fitting = g;
        stands = stands_rounded (prec f) A (target +ℤ h) h z (prec_pos f) rep_half (half_below h A halves positive) k l;
      }

      by_sign : (t : Bool) → lt_z r (pos 0) ≡ t → Held f A (target +ℤ h) (cond t (add f x half) (sub f x half))
      by_sign true e = rounded (r +ℤ h) (add f x half) (add_rounds f x half r h i H) (add-fits f x half) sum (up-within h A r halves positive b e)
      by_sign false e = rounded (r -ℤ h) (sub f x half) (sub-rounds f x half r h i H) (sub-fits f x half) difference (down-within h A r halves positive b e)

  rep_whole : RepZ (prec f) A
  rep_whole = is_rep f whole A fits_whole W

  pub place-signed : (minus : Float) → Is f minus (neg_ℤ h) → (target : ℤ) (x : Float) → Held f A target x → Placed f true A target (cond (lt half x) (sub f x whole) (cond (le x minus) (add f x whole) x))
  place-signed minus M target x k =
      subst (λ (t : Bool). Placed f true A target (cond t (sub f x whole) (cond (le x minus) (add f x whole) x))) (sym (lt_is f half x h r H i))
      (subst (λ (u : Bool). Placed f true A target (cond (lt_z h r) (sub f x whole) (cond u (add f x whole) x))) (sym (le_is f x minus r (neg_ℤ h) i M))
      (by_size (lt_z h r) (le_z r (neg_ℤ h)) refl refl))
    where
      r : ℤ
      r = k.number

      i : Is f x r
      i = k.is

      b : nat_abs r < nat_abs A
      b = k.stands.below

      rep : RepZ (prec f) r
      rep = is_rep f x r k.fitting i

      by_size : (t u : Bool) → lt_z h r ≡ t → le_z r (neg_ℤ h) ≡ u → Placed f true A target (cond t (sub f x whole) (cond u (add f x whole) x))
      by_size true u e d = record {
        number = r -ℤ A;
        is = rounds_exact f (sub f x whole) (r -ℤ A) (sub-rounds f x whole r A i W)
            (sterbenz (prec f) r A rep rep_whole (above_near h A r halves positive b e).0 (above_near h A r halves positive b e).1)
            (lt_trans (above_size h A r halves positive b e) (is_below f whole A fits_whole W));
        reaches = reaches_less (prec f) A target r k.stands;
        range = above_range h A r halves positive b e;
      }
      by_size false true e d = record {
        number = r +ℤ A;
        is = rounds_exact f (add f x whole) (r +ℤ A) (add_rounds f x whole r A i W)
            (subst (RepZ (prec f)) (plus_opposite A r)
            (sterbenz (prec f) A (neg_ℤ r) rep_whole (rw unsigned_abs_neg rep) (under_near h A r halves positive b d).0 (under_near h A r halves positive b d).1))
            (lt_trans (under_size h A r halves positive b d) (is_below f whole A fits_whole W));
        reaches = reaches_more (prec f) A target r k.stands;
        range = under_range h A r halves positive b d;
      }
      by_size false false e d = record { number = r; is = i; reaches = reaches_same (prec f) A target r k.stands; range = middle_range h A r halves positive b e d }

  pub place_unsigned : (target : ℤ) (x : Float) → Held f A target x → Placed f false A target (cond (lt x zero) (add f x whole) x)
  place_unsigned target x k =
      subst (λ (t : Bool). Placed f false A target (cond t (add f x whole) x)) (sym (lt_is f x zero r (pos 0) i Z)) (by_sign (lt_z r (pos 0)) refl)
    where
      r : ℤ
      r = k.number

      i : Is f x r
      i = k.is

      b : nat_abs r < nat_abs A
      b = k.stands.below

      by_sign : (t : Bool) → lt_z r (pos 0) ≡ t → Placed f false A target (cond t (add f x whole) x)
      by_sign true e = record {
        number = rounded_z (prec f) (r +ℤ A);
        is = rounds_bounded f (add f x whole) (r +ℤ A) (nat_abs A) (add_rounds f x whole r A i W) rep_whole (is_below f whole A fits_whole W) (negative_size h A r halves positive b e);
        reaches = reaches_rounded (prec f) A target r (prec_pos f) positive (below_zero_lem r e) k.stands;
        range = (
          (rounded_z-low (prec f) (pos 0) (r +ℤ A) (prec_pos f) (rep_zero (prec f)) (negative_range h A r halves positive b e).0).0,
          (rounded_z-high (prec f) A (r +ℤ A) (prec_pos f) rep_whole (negative_range h A r halves positive b e).1).0,
        );
      }
      by_sign false e = record { number = r; is = i; reaches = reaches_same (prec f) A target r k.stands; range = same_range h A r halves positive b e }
