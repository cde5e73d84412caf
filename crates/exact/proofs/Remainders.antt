-- A remainder of floats is exact: it is a whole number of the units that both share, and no larger than the divisor.
use Rattle.std.proofs.Common.{◌≡◌, ℕ, zero, suc, ◌-◌, ◌*◌, ◌%◌, ◌^◌, ◌<◌, ◌≤◌, Bool, true, false, cond, T, eqb, ℤ, pos, neg_ℤ, nat_abs, sym, refl, ap, ◌∙◌, subst, inl, inr, lt_of_lt_of_le, lt_of_le_of_lt, le_of_lt, lt_irrefl, mod-lt, mul-pos, pow_pos, ne_eqb}
use Rattle.std.proofs.lemmas.Bool.{cases_lt}
use native.Mathlib.Nat.{mod-le, zero-mod}
use lib.Signed.{rem_z}
use lib.Ieee.{Float, Format, nan, inf, fin, prec, low, up, down, round, rem, fits}
use lib.Ieee.Fits.{down_pos}
use lib.Ieee.Exact.{HasValue}
use lib.Ieee.Scale.{round_same, overflow}
use lib.Ieee.Positive.{first_pos}
use Rattle.exact.specs.Rounded.{Rep}
use Rattle.exact.specs.Values.{signed, Is, Rounds}
use Rattle.exact.proofs.Signs.{unsigned_abs_signed}
use Rattle.exact.proofs.Scaled.{mod_times, scaled_rest}
use Rattle.exact.proofs.Sums.{over_first, over_second, rounds_of}
use Rattle.exact.proofs.Values.{is_rep, is_below}
use Rattle.exact.proofs.Naturals.{multiple_of_power}
use Rattle.exact.proofs.Roundings.{rounds_exact, round_kept}

-- ---- on natural numbers
-- with a = c * 2 ^ i and b = d * 2 ^ j, the remainder is a number of digits in the smaller of the two units
pub rep_rest : (p a b : ℕ) → 0 < b → Rep p a → Rep p b → Rep p (a % b)
rep_rest p a b B r t = elim (cases_lt t.places r.places) [ inr h ↦ divided h | inl h ↦ divisor (le_of_lt h) ]
  where
    c : ℕ
    c = r.digits

    i : ℕ
    i = r.places

    d : ℕ
    d = t.digits

    j : ℕ
    j = t.places

    divided : i ≤ j → Rep p (a % b)
    divided h = record {
      digits = c % (d * 2 ^ (j - i));
      places = i;
      few = lt_of_le_of_lt (mod-le c (d * 2 ^ (j - i))) r.few;
      is = (λ k. r.is k % (t.is ∙ multiple_of_power d j i h) k) ∙ mod_times c (d * 2 ^ (j - i)) (2 ^ i) (pow_pos i);
    }

    divisor : j ≤ i → Rep p (a % b)
    divisor h = record {
      digits = c * 2 ^ (i - j) % d;
      places = j;
      few = lt_of_lt_of_le (mod-lt (c * 2 ^ (i - j)) (first_pos d (2 ^ j) (subst (λ (k : ℕ). 0 < k) t.is B))) (le_of_lt t.few);
      is = (λ k. (r.is ∙ multiple_of_power c i j h) k % t.is k) ∙ mod_times (c * 2 ^ (i - j)) d (2 ^ j) (pow_pos j);
    }

-- ---- on floats
rem_z_signed : (s : Bool) (a : ℕ) (w : ℤ) → rem_z (signed s a) w ≡ signed s (a % nat_abs w)
rem_z_signed false a w = refl
rem_z_signed true zero w = ap pos (zero-mod (nat_abs w)) ∙ ap (λ (k : ℕ). neg_ℤ (pos k)) (sym (zero-mod (nat_abs w)))
rem_z_signed true (suc a) w = refl

-- of a finite x by a finite y that is not zero, by their signs and sizes
pub rem_rounded : (f : Format) (x y : Float) (s t : Bool) (a b : ℕ) → HasValue x s a (2 ^ low f) → HasValue y t b (2 ^ low f) → 0 < b → rem f x y ≡ round f s (a % b) (2 ^ low f)
unfolding rem
rem_rounded f nan y s t a b v w B = absurd v
rem_rounded f (inf q) y s t a b v w B = absurd v
rem_rounded f (fin q m e) nan s t a b v w B = absurd w
rem_rounded f (fin q m e) (inf p) s t a b v w B = absurd w
rem_rounded f (fin q m e) (fin p n d) s t a b v w B =
    let L = 2 ^ low f in
    let C = down e * down d in
    let A = m * up e * down d in
    let D = n * up d * down e in
    let some : 0 < n = first_pos n (up d) (first_pos (n * up d) L (subst (λ (k : ℕ). 0 < k) (sym w.1) (mul-pos B (down_pos d)))) in
    let nonzero : eqb n 0 ≡ false = ne_eqb n 0 (λ (z : n ≡ 0). lt_irrefl 0 (subst (λ (k : ℕ). 0 < k) z some)) in
    let rest : A % D * L ≡ a % b * C =
    scaled_rest A D C a b L (mul-pos (down_pos e) (down_pos d)) (pow_pos (low f))
    (over_first (m * up e) (down e) (down d) L a v.1) (over_second (n * up d) (down e) (down d) L b w.1) in
    ap (λ (k : Bool). cond k nan (round f q (A % D) C)) nonzero
    ∙ ap (λ (k : Bool). round f k (A % D) C) v.0
    ∙ round_same f s (A % D) C (a % b) L (mul-pos (down_pos e) (down_pos d)) (pow_pos (low f)) rest

rem-rounds : (f : Format) (x y : Float) (z w : ℤ) → Is f x z → Is f y w → 0 < nat_abs w → Rounds f (rem f x y) (rem_z z w)
rem-rounds f x y z w i j W =
    rounds_of f i.sign (nat_abs z % nat_abs w) _ (rem_z z w)
    (rem_rounded f x y i.sign j.sign (nat_abs z) (nat_abs w) i.has j.has W)
    (sym (rem_z_signed i.sign (nat_abs z) w) ∙ ap (λ (v : ℤ). rem_z v w) i.signs)

-- the remainder has the sign of x, and of its size what the size of y leaves over
pub rem_has : (f : Format) (x y : Float) (s t : Bool) (a b : ℕ) → Rep (prec f) a → Rep (prec f) b → a < overflow f → HasValue x s a (2 ^ low f) → HasValue y t b (2 ^ low f) → 0 < b → HasValue (rem f x y) s (a % b) (2 ^ low f)
rem_has f x y s t a b g h l v w B =
    subst (λ (r : Float). HasValue r s (a % b) (2 ^ low f)) (sym (rem_rounded f x y s t a b v w B))
    (round_kept f s (a % b) (rep_rest (prec f) a b B g h) (lt_of_le_of_lt (mod-le a b) l))

pub rem_is : (f : Format) (x y : Float) (z w : ℤ) → T (fits f x) → T (fits f y) → Is f x z → Is f y w → 0 < nat_abs w → Is f (rem f x y) (rem_z z w)
rem_is f x y z w F G i j W =
    let size_is : nat_abs (rem_z z w) ≡ nat_abs z % nat_abs w = ap (λ (v : ℤ). nat_abs (rem_z v w)) (sym i.signs) ∙ ap nat_abs (rem_z_signed i.sign (nat_abs z) w) ∙ unsigned_abs_signed i.sign (nat_abs z % nat_abs w) in
    rounds_exact f (rem f x y) (rem_z z w) (rem-rounds f x y z w i j W)
    (subst (Rep (prec f)) (sym size_is) (rep_rest (prec f) (nat_abs z) (nat_abs w) W (is_rep f x z F i) (is_rep f y w G j)))
    (subst (λ (k : ℕ). k < overflow f) (sym size_is) (lt_of_le_of_lt (mod-le (nat_abs z) (nat_abs w)) (is_below f x z F i)))
