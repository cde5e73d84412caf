-- Half of a float is exact where its exact value is even, and a representable number of more than p digits is even.
use Rattle.std.proofs.Common.{◌≡◌, ℕ, zero, suc, ◌+◌, ◌*◌, ◌^◌, ◌<◌, ◌≤◌, Bool, true, false, T, ℤ, pos, negsuc, ◌+ℤ◌, nat_abs, sym, refl, ap, ◌∙◌, le_trans, le_of_eq, mul_assoc, mul-pos, mul-one, mul-add, not-le_of_lt, arith, pow_pos}
use native.Mathlib.Nat.{two-pow-succ}
use Rattle.std.proofs.lemmas.Int.{ints}
use lib.Ieee.{Float, Format, nan, inf, fin, prec, low, up, down, unlike, round, div, fits}
use lib.Ieee.Fits.{down_pos}
use lib.Ieee.Scale.{round_same, overflow}
use Rattle.exact.specs.Rounded.{Rep}
use Rattle.exact.specs.Values.{signed, Is, Rounds}
use Rattle.exact.proofs.Sums.{rounds_of}
use Rattle.exact.proofs.Values.{is_rep, is_below}
use Rattle.exact.proofs.Roundings.{rounds_exact}

-- ---- on natural numbers
pub record Halved (p n : ℕ) : Type 0 where
  pub half : ℕ
  pub twice : n ≡ half + half
  pub rep : Rep p half

halved_at : (p n d k : ℕ) → d < 2 ^ p → n ≡ d * 2 ^ suc k → Halved p n
halved_at p n d k h e = record {
  half = d * 2 ^ k;
  twice = e ∙ ap (λ (j : ℕ). d * j) (two-pow-succ k) ∙ mul-add d (2 ^ k) (2 ^ k);
  rep = record { digits = d; places = k; few = h; is = refl };
}

-- a number of p digits and zeros that has more than p digits ends in a zero
pub even_above : (p n : ℕ) → Rep p n → 2 ^ p ≤ n → Halved p n
even_above p n r h = go r.places r.is
  where
    go : (k : ℕ) → n ≡ r.digits * 2 ^ k → Halved p n
    go zero e = absurd (not-le_of_lt r.few (le_trans h (le_of_eq (e ∙ mul-one r.digits))))
    go (suc k) e = halved_at p n r.digits k r.few e

-- half of a representable even number is representable
pub rep_half : (p n h : ℕ) → Rep p n → n ≡ h + h → Rep p h
unfolding halved_at
rep_half p n h r e = go r.places r.is
  where
    smaller : (d : ℕ) → d < 2 ^ p → h + h ≡ d → h < 2 ^ p
    smaller d l q = omega arith

    same : (a b : ℕ) → a + a ≡ b + b → a ≡ b
    same a b q = omega arith

    go : (k : ℕ) → n ≡ r.digits * 2 ^ k → Rep p h
    go zero q = record { digits = h; places = 0; few = smaller r.digits r.few (sym e ∙ q ∙ mul-one r.digits); is = sym (mul-one h) }
    go (suc k) q = record { digits = r.digits; places = k; few = r.few; is = same h (r.digits * 2 ^ k) (sym e ∙ (halved_at p n r.digits k r.few q).twice) }

-- ---- on floats
unsigned_abs_twice : (h : ℤ) → nat_abs (h +ℤ h) ≡ nat_abs h + nat_abs h
unsigned_abs_twice (pos n) = refl
unsigned_abs_twice (negsuc n) = omega arith

half_sign : (s : Bool) (n : ℕ) (h : ℤ) → n ≡ nat_abs h → signed s (n + n) ≡ h +ℤ h → signed s n ≡ h
half_sign false n h e q = omega (arith, ints)
half_sign true n h e q = omega (arith, ints)

unlike_plus : (s : Bool) → unlike s false ≡ s
unlike_plus true = refl
unlike_plus false = refl

doubled : (n : ℕ) → n + n ≡ n * 2
doubled n = omega arith

half-rounds : (f : Format) (x : Float) (h : ℤ) → Is f x (h +ℤ h) → Rounds f (div f x (fin false 1 (pos 1))) h
unfolding div
half-rounds f nan h i = absurd i.has
half-rounds f (inf s) h i = absurd i.has
half-rounds f (fin s m e) h i =
    let L = 2 ^ low f in
    let n = nat_abs h in
    let twice : signed i.sign (n + n) ≡ h +ℤ h = ap (signed i.sign) (sym (unsigned_abs_twice h)) ∙ i.signs in
    rounds_of f i.sign n _ h
    (ap (λ (b : Bool). round f b (m * up e * 1) (2 * down e)) (unlike_plus s ∙ i.has.0)
    ∙ round_same f i.sign (m * up e * 1) (2 * down e) n L (mul-pos (pow_pos 1) (down_pos e)) (pow_pos (low f))
    (ap (λ (k : ℕ). k * L) (mul-one (m * up e)) ∙ i.has.1 ∙ ap (λ (k : ℕ). k * down e) (unsigned_abs_twice h ∙ doubled n) ∙ mul_assoc n 2 (down e)))
    (half_sign i.sign n h refl twice)

pub half_is : (f : Format) (x : Float) (h : ℤ) → T (fits f x) → Is f x (h +ℤ h) → Is f (div f x (fin false 1 (pos 1))) h
half_is f x h F i =
    let n = nat_abs h in
    rounds_exact f (div f x (fin false 1 (pos 1))) h (half-rounds f x h i)
    (rep_half (prec f) (nat_abs (h +ℤ h)) n (is_rep f x (h +ℤ h) F i) (unsigned_abs_twice h))
    (below n (nat_abs (h +ℤ h)) (overflow f) (unsigned_abs_twice h) (is_below f x (h +ℤ h) F i))
  where
    below : (a b c : ℕ) → b ≡ a + a → b < c → a < c
    below a b c e l = omega arith
