-- What an exact value rounds to: within the format's range it is the float whose exact value is the rounded whole number.
use Rattle.std.proofs.Common.{◌≡◌, ℕ, zero, suc, ◌-◌, ◌*◌, ◌/◌, ◌^◌, ◌<◌, ◌≤◌, Bool, true, false, ℤ, pos, neg_ℤ, nat_abs, sym, refl, ap, ◌∙◌, subst, lt_of_le_of_lt, mul_assoc, mul-pos, mul-div_cancel, pow_pos}
use lib.Ieee.{Float, Format, prec, low, size, units, round}
use lib.Ieee.Fits.{round_is, two, two-le_pos}
use lib.Ieee.Exact.{HasValue, units_val}
use lib.Ieee.Scale.{overflow}
use lib.Ieee.Nearest.{closest, closest_same}
use Rattle.exact.specs.Rounded.{rounded, rounded_z, Rep, RepZ}
use Rattle.exact.specs.Values.{signed, Is, Rounds}
use Rattle.exact.proofs.Signs.{unsigned_abs_signed}
use Rattle.exact.proofs.Integers.{rounded-zero}
use Rattle.exact.proofs.Naturals.{rounded-high, rounded_exact}

-- ---- `round` in units
module _ (f : Format) (s : Bool) (n : ℕ) where
  whole-units : n * 2 ^ low f / 2 ^ low f ≡ n
  whole-units = mul-div_cancel n (pow_pos (low f))

  round-units : round f s n (2 ^ low f) ≡ units f s (closest n (2 ^ (size n - prec f))) (size n - prec f)
  round-units =
      let L = 2 ^ low f in
      let k = size n - prec f in
      round_is f s n L
      ∙ ap (λ (w : ℕ). units f s (closest (n * L) (L * 2 ^ (size w - prec f))) (size w - prec f)) whole-units
      ∙ ap (λ (q : ℕ). units f s q k) (closest_same (n * L) (L * 2 ^ k) n (2 ^ k) (mul-pos (pow_pos (low f)) (pow_pos k)) (pow_pos k) (mul_assoc n L (2 ^ k)))

  round-has : rounded (prec f) n < overflow f → HasValue (round f s n (2 ^ low f)) s (rounded (prec f) n) (2 ^ low f)
  unfolding rounded
  round-has h = subst (λ (v : Float). HasValue v s (rounded (prec f) n) (2 ^ low f)) (sym round-units) (units_val f s (closest n (2 ^ (size n - prec f))) (size n - prec f) h)

-- ---- from a rounding to an exact value
pub rounded_z-signed : (p : ℕ) (s : Bool) (n : ℕ) → 0 < p → rounded_z p (signed s n) ≡ signed s (rounded p n)
unfolding rounded_z
rounded_z-signed p false n P = refl
rounded_z-signed p true zero P = ap pos (rounded-zero p) ∙ ap (λ (k : ℕ). neg_ℤ (pos k)) (sym (rounded-zero p))
rounded_z-signed p true (suc n) P = refl

-- every format has digits
pub prec_pos : (f : Format) → 0 < prec f
prec_pos f = two-le_pos (prec f) (two f)

pub rounds_is : (f : Format) (x : Float) (z : ℤ) → Rounds f x z → rounded (prec f) (nat_abs z) < overflow f → Is f x (rounded_z (prec f) z)
rounds_is f x z r h =
    let n = nat_abs z in
    let p = prec f in
    let away : rounded_z p z ≡ signed r.sign (rounded p n) = ap (rounded_z p) (sym r.signs) ∙ rounded_z-signed p r.sign n (prec_pos f) in
    let size_is : nat_abs (rounded_z p z) ≡ rounded p n = ap nat_abs away ∙ unsigned_abs_signed r.sign (rounded p n) in
    record {
      sign = r.sign;
      has = subst (λ (k : ℕ). HasValue x r.sign k (2 ^ low f)) (sym size_is) (subst (λ (v : Float). HasValue v r.sign (rounded p n) (2 ^ low f)) (sym r.rounds) (round-has f r.sign n h));
      signs = ap (signed r.sign) size_is ∙ sym away;
    }

-- a representable size in range is kept, and so is its sign
pub round_kept : (f : Format) (s : Bool) (n : ℕ) → Rep (prec f) n → n < overflow f → HasValue (round f s n (2 ^ low f)) s n (2 ^ low f)
round_kept f s n r l =
    let kept : rounded (prec f) n ≡ n = rounded_exact (prec f) n (prec_pos f) r in
    subst (λ (k : ℕ). HasValue (round f s n (2 ^ low f)) s k (2 ^ low f)) kept (round-has f s n (subst (λ (k : ℕ). k < overflow f) (sym kept) l))

-- a representable bound on the exact value bounds the rounded one
pub rounds_bounded : (f : Format) (x : Float) (z : ℤ) (b : ℕ) → Rounds f x z → Rep (prec f) b → b < overflow f → nat_abs z ≤ b → Is f x (rounded_z (prec f) z)
rounds_bounded f x z b r g l h = rounds_is f x z r (lt_of_le_of_lt (rounded-high (prec f) b (nat_abs z) (prec_pos f) g h).0 l)

-- a representable value in range is kept
pub rounds_exact : (f : Format) (x : Float) (z : ℤ) → Rounds f x z → RepZ (prec f) z → nat_abs z < overflow f → Is f x z
rounds_exact f x z r g l =
    let kept : rounded (prec f) (nat_abs z) ≡ nat_abs z = rounded_exact (prec f) (nat_abs z) (prec_pos f) g in
    let same : rounded_z (prec f) z ≡ z = ap (rounded_z (prec f)) (sym r.signs) ∙ rounded_z-signed (prec f) r.sign (nat_abs z) (prec_pos f) ∙ ap (signed r.sign) kept ∙ r.signs in
    subst (Is f x) same (rounds_is f x z r (subst (λ (k : ℕ). k < overflow f) (sym kept) l))
