-- On natural numbers: no number of p digits on either side of n is nearer to n than the rounded number is (rounded-low, rounded-high).
-- These two are all that 'nearest' means, and the other laws follow from them by linear steps; only the law on scaling looks at the definition again.
use Rattle.std.proofs.Common.{◌≡◌, ℕ, suc, ◌+◌, ◌-◌, ◌*◌, ◌/◌, ◌%◌, ◌^◌, ◌<◌, ◌≤◌, not, T, eqb, ◌⊎◌, sym, refl, ap, ◌∙◌, subst, inl, inr, le_trans, le_of_eq, le_refl, lt_of_lt_of_le, lt_of_le_of_lt, le_of_lt, mul-le-mul_right, mod-lt, mul_assoc, mul_comm, add-mul, le_antisymm, eq-or-lt_of_le, mul-le-mul_left, one-mul, div-add-mod', le-div_iff_mul-le, mul-one, sub-add_cancel, arith, eqb→eq, leb→le, pow_pos, pow_mono, pow-add, shl_lt, suc-mul}
use Rattle.std.proofs.lemmas.Bool.{cases_lt}
use Prim.Native.Nat.{compare, Ordering}
use borrow.Author.Count.{falls_down}
use native.Mathlib.Nat.{mul-mod_right, two-pow-succ}
use lib.Dec.{is_le, compare_is_eq, nleb→lt, eqb_refl}
use lib.Arith.{lt_of_le-ne}
use lib.Pow.{pow-lt}
use lib.Ieee.{size, climb, span, nearest}
use lib.Ieee.Digits.{size-lt, size_reaches, size-le}
use lib.Ieee.Fits.{nearest-le, kept-lt}
use lib.Ieee.Nearest.{closest, nearest-ge, closest_same}
use Rattle.exact.specs.Rounded.{rounded, Rep}

-- ---- numbers of p digits

pub rep_zero : (p : ℕ) → Rep p 0
rep_zero p = record { digits = 0; places = 0; few = pow_pos p; is = refl }

pub rep_power : (p j : ℕ) → 0 < p → Rep p (2 ^ j)
rep_power p j P = record { digits = 1; places = j; few = pow-lt P; is = sym (one-mul (2 ^ j)) }

pub rep_small : (p n : ℕ) → 0 < p → n ≤ 2 ^ p → Rep p n
rep_small p n P h =
    elim (eq-or-lt_of_le h) [
      | inl e ↦ subst (λ (x : ℕ). Rep p x) (sym e) (rep_power p p P)
      | inr l ↦ record { digits = n; places = 0; few = l; is = sym (mul-one n) }
    ]

pub rep_scaled : (p n j : ℕ) → Rep p n → Rep p (n * 2 ^ j)
rep_scaled p n j r = record {
  digits = r.digits;
  places = r.places + j;
  few = r.few;
  is = ap (λ (x : ℕ). x * 2 ^ j) r.is ∙ mul_assoc r.digits (2 ^ r.places) (2 ^ j) ∙ ap (λ (x : ℕ). r.digits * x) (sym (pow-add 2 r.places j));
}

pub rep_double : (p n : ℕ) → Rep p n → Rep p (2 * n)
rep_double p n r = subst (λ (x : ℕ). Rep p x) (mul_comm n 2) (rep_scaled p n 1 r)

-- ---- the whole number nearest to n / u: what it is times u, against n

-- what `compare` says
abbrev Cmp : Ordering → ℕ → ℕ → Type 0
Cmp Ordering.lt a b = a < b
Cmp Ordering.eq a b = a ≡ b
Cmp Ordering.gt a b = b < a

cmp : (a b : ℕ) → Cmp (compare a b) a b
cmp a b = go (compare a b) (leb→le a b) (nleb→lt a b) (eqb→eq a b) (λ (e : a ≡ b). subst (λ (x : ℕ). T (eqb a x)) e (eqb_refl a))
  where
    go : (o : Ordering) → (T (is_le o) → a ≤ b) → (T (not (is_le o)) → b < a) → (T (compare_is_eq o) → a ≡ b) → (a ≡ b → T (compare_is_eq o)) → Cmp o a b
    go Ordering.lt h k e n = lt_of_le-ne (h tt) n
    go Ordering.eq h k e n = e tt
    go Ordering.gt h k e n = k tt

-- the whole part w and the remainder r of a number in units of u
nearest_at_most : (w u r : ℕ) (o : Ordering) → Cmp o (r * 2) u → nearest w o * u ≤ w * u + 2 * r
nearest_at_most w u r Ordering.lt c = omega arith
nearest_at_most w u r Ordering.eq c = go (w * u) (mul-le-mul_right u (nearest-le w Ordering.eq)) (suc-mul w u)
  where
    go : (x : ℕ) → (w + w % 2) * u ≤ suc w * u → suc w * u ≡ x + u → (w + w % 2) * u ≤ x + 2 * r
    go x h e = omega arith
nearest_at_most w u r Ordering.gt c = go (w * u) (suc w * u) (suc-mul w u)
  where
    go : (x y : ℕ) → y ≡ x + u → y ≤ x + 2 * r
    go x y e = omega arith

nearest_at_least : (w u r : ℕ) (o : Ordering) → r < u → Cmp o (r * 2) u → w * u + 2 * r ≤ nearest w o * u + u
nearest_at_least w u r Ordering.lt h c = go (w * u)
  where
    go : (x : ℕ) → x + 2 * r ≤ x + u
    go x = omega arith
nearest_at_least w u r Ordering.eq h c = go (w * u) ((w + w % 2) * u) (mul-le-mul_right u (nearest-ge w Ordering.eq))
  where
    go : (x y : ℕ) → x ≤ y → x + 2 * r ≤ y + u
    go x y l = omega arith
nearest_at_least w u r Ordering.gt h c = go (w * u) (suc w * u) (suc-mul w u)
  where
    go : (x y : ℕ) → y ≡ x + u → x + 2 * r ≤ y + u
    go x y e = omega arith

below_then_sum : (n x r y z : ℕ) → x + r ≡ n → y ≤ x + 2 * r → z ≤ x → y + z ≤ 2 * n
below_then_sum n x r y z e h l = omega arith

pub closest-low : (n u m : ℕ) → 0 < u → m * u ≤ n → (m * u ≤ closest n u * u) × (closest n u * u + m * u ≤ 2 * n)
closest-low n u m U h =
    let w = n / u in
    let k : m ≤ w = (le-div_iff_mul-le U).1 h in
    let o = compare (n % u * 2) u in (
      mul-le-mul_right u (le_trans k (nearest-ge w o)),
      below_then_sum n (w * u) (n % u) (nearest w o * u) (m * u) (div-add-mod' n u) (nearest_at_most w u (n % u) o (cmp (n % u * 2) u)) (mul-le-mul_right u k),
    )

above_at_whole : (n x r y z : ℕ) → x + r ≡ n → y ≤ x + 2 * r → x ≤ y → n ≤ z → z ≤ x → (y ≤ z) × (2 * n ≤ y + z)
above_at_whole n x r y z e h g k l = omega arith

above_then_sum : (n x r u y z : ℕ) → x + r ≡ n → x + 2 * r ≤ y + u → x + u ≤ z → 2 * n ≤ y + z
above_then_sum n x r u y z e h l = omega arith

pub closest-high : (n u m : ℕ) → 0 < u → n ≤ m * u → (closest n u * u ≤ m * u) × (2 * n ≤ closest n u * u + m * u)
closest-high n u m U h =
    let w = n / u in
    let o = compare (n % u * 2) u in
    let c = cmp (n % u * 2) u in
    elim (cases_lt w m) [
      | inr k ↦
          above_at_whole n (w * u) (n % u) (nearest w o * u) (m * u) (div-add-mod' n u) (nearest_at_most w u (n % u) o c) (mul-le-mul_right u (nearest-ge w o)) h (mul-le-mul_right u k)
      | inl k ↦ (
        mul-le-mul_right u (le_trans (nearest-le w o) k),
        above_then_sum n (w * u) (n % u) u (nearest w o * u) (m * u) (div-add-mod' n u) (nearest_at_least w u (n % u) o (mod-lt n U) c) (le_trans (le_of_eq (sym (suc-mul w u))) (mul-le-mul_right u k)),
      )
    ]

-- ---- a number of p digits stands on the grid that n is rounded to, or below the first number with as many digits as n

-- the unit that n is rounded to
abbrev pub unit : ℕ → ℕ → ℕ
unit p n = 2 ^ (size n - p)

-- a is a whole number of units u
pub record Multiple (u a : ℕ) : Type 0 where
  pub times : ℕ
  pub is : a ≡ times * u

-- what has the unit 2 ^ i has every smaller one
pub multiple_of_power : (d i j : ℕ) → j ≤ i → d * 2 ^ i ≡ d * 2 ^ (i - j) * 2 ^ j
multiple_of_power d i j h =
    ap (λ (x : ℕ). d * 2 ^ x) (sym (sub-add_cancel h)) ∙ ap (λ (x : ℕ). d * x) (pow-add 2 (i - j) j) ∙ sym (mul_assoc d (2 ^ (i - j)) (2 ^ j))

all_in_use : (z p j : ℕ) → 0 < p → j < z - p → p - 1 + (z - p) < z
all_in_use z p j P h = omega arith

room : (p j k : ℕ) → 0 < p → j < k → p + j ≤ p - 1 + k
room p j k P h = omega arith

first_reached : (p n j : ℕ) → 0 < p → j < size n - p → 2 ^ (p - 1) * unit p n ≤ n
first_reached p n j P h = le_trans (le_of_eq (sym (pow-add 2 (p - 1) (size n - p)))) (size_reaches n (p - 1 + (size n - p)) (all_in_use (size n) p j P h))

on_grid_or_below : (p a n : ℕ) → 0 < p → Rep p a → Multiple (unit p n) a ⊎ ((a < 2 ^ (p - 1) * unit p n) × (2 ^ (p - 1) * unit p n ≤ n))
on_grid_or_below p a n P r =
    let k = size n - p in
    let i = r.places in
    elim (cases_lt i k) [
      | inr h ↦ inl (record { times = r.digits * 2 ^ (i - k); is = r.is ∙ multiple_of_power r.digits i k h })
      | inl h ↦
          inr (
            lt_of_le_of_lt (le_of_eq r.is)
                (lt_of_lt_of_le (shl_lt p i r.few) (le_trans (pow_mono (room p i k P h)) (le_of_eq (pow-add 2 (p - 1) k)))),
            first_reached p n i P h,
          )
    ]

-- ---- nearest

below_first : (a b y n : ℕ) → a < b → (b ≤ y) × (y + b ≤ 2 * n) → (a ≤ y) × (y + a ≤ 2 * n)
below_first a b y n h l = omega arith

pub rounded-low : (p a n : ℕ) → 0 < p → Rep p a → a ≤ n → (a ≤ rounded p n) × (rounded p n + a ≤ 2 * n)
unfolding rounded
rounded-low p a n P r h =
    let u = unit p n in
    elim (on_grid_or_below p a n P r) [
      | inl g ↦
          subst (λ (x : ℕ). (x ≤ closest n u * u) × (closest n u * u + x ≤ 2 * n)) (sym g.is)
          (closest-low n u g.times (pow_pos (size n - p)) (subst (λ (x : ℕ). x ≤ n) g.is h))
      | inr g ↦ below_first a (2 ^ (p - 1) * u) (closest n u * u) n g.0 (closest-low n u (2 ^ (p - 1)) (pow_pos (size n - p)) g.1)
    ]

never_below : {X : Type 0} (a b n : ℕ) → a < b → b ≤ n → n ≤ a → X
never_below a b n h k l = absurd (go a b n h k l)
  where
    go : (a b n : ℕ) → a < b → b ≤ n → n ≤ a → ⊥
    go a b n h k l = omega arith

pub rounded-high : (p a n : ℕ) → 0 < p → Rep p a → n ≤ a → (rounded p n ≤ a) × (2 * n ≤ rounded p n + a)
unfolding rounded
rounded-high p a n P r h =
    let u = unit p n in
    elim (on_grid_or_below p a n P r) [
      | inl g ↦
          subst (λ (x : ℕ). (closest n u * u ≤ x) × (2 * n ≤ closest n u * u + x)) (sym g.is)
          (closest-high n u g.times (pow_pos (size n - p)) (subst (λ (x : ℕ). n ≤ x) g.is h))
      | inr g ↦ never_below a (2 ^ (p - 1) * u) n g.0 g.1 h
    ]

-- ---- the rounded number has p digits, and a number of p digits is not changed

pub rounded_rep : (p n : ℕ) → 0 < p → Rep p (rounded p n)
unfolding rounded
rounded_rep p n P =
    let u = unit p n in
    rep_scaled p (closest n u) (size n - p) (rep_small p (closest n u) P (le_trans (nearest-le (n / u) (compare (n % u * 2) u)) (kept-lt p n)))

pub rounded_exact : (p n : ℕ) → 0 < p → Rep p n → rounded p n ≡ n
rounded_exact p n P r = le_antisymm (rounded-high p n n P r (le_refl n)).0 (rounded-low p n n P r (le_refl n)).0

-- ---- order

same_sum : (a b m n : ℕ) → a + b ≤ 2 * m → 2 * n ≤ b + a → m ≤ n → m ≡ n
same_sum a b m n h k l = omega arith

pub rounded_mono : (p m n : ℕ) → 0 < p → m ≤ n → rounded p m ≤ rounded p n
rounded_mono p m n P h =
    let a = rounded p m in
    let b = rounded p n in
    elim (cases_lt n a) [
      | inr l ↦ (rounded-low p a n P (rounded_rep p m P) l).0
      | inl l ↦ elim (cases_lt b m) [
        | inr g ↦ (rounded-high p b m P (rounded_rep p n P) g).0
        | inl g ↦
            le_of_eq (ap (rounded p)
            (same_sum a b m n (rounded-low p b m P (rounded_rep p n P) (le_of_lt g)).1 (rounded-high p a n P (rounded_rep p m P) (le_of_lt l)).1 h))
      ]
    ]

-- ---- a power of two more or less

has_digits : (n z : ℕ) → z ≡ 0 → n < 2 ^ z → ¬ (0 < n)
has_digits n z e h l = go n (subst (λ (x : ℕ). n < 2 ^ x) e h) l
  where
    go : (n : ℕ) → n < 1 → ¬ (0 < n)
    go n h l = omega arith

pub size_pos : (n : ℕ) → 0 < n → 0 < size n
size_pos n h =
    elim (cases_lt 0 (size n)) [
      | inr z ↦ absurd (has_digits n (size n) (le_antisymm z (omega arith)) (size-lt n) h)
      | inl l ↦ l
    ]

one_less : (s z j : ℕ) → 0 < z → s < z + j → s ≤ z - 1 + j
one_less s z j h l = omega arith

pub size_scaled : (n j : ℕ) → 0 < n → size (n * 2 ^ j) ≡ size n + j
size_scaled n j N =
    let z = size n in
    let s = size (n * 2 ^ j) in
    let Z = size_pos n N in
    le_antisymm (size-le (n * 2 ^ j) (z + j) (shl_lt z j (size-lt n)))
    (elim (cases_lt s (z + j)) [
      | inr h ↦ h
      | inl h ↦
          never_below (n * 2 ^ j) (2 ^ s) (2 ^ s) (size-lt (n * 2 ^ j)) (le_refl (2 ^ s))
          (le_trans (pow_mono (one_less s z j Z h)) (le_trans (le_of_eq (pow-add 2 (z - 1) j)) (mul-le-mul_right (2 ^ j) (size_reaches n (z - 1) (falls_down z Z)))))
    ])

pub rep_few_digits : (p n : ℕ) → size n ≤ p → Rep p n
rep_few_digits p n h = record { digits = n; places = 0; few = lt_of_lt_of_le (size-lt n) (pow_mono h); is = sym (mul-one n) }

drop_more : (z p j : ℕ) → p < z → z + j - p ≡ z - p + j
drop_more z p j h = omega arith

cross : (n j k : ℕ) → n * 2 ^ j * 2 ^ k ≡ n * (2 ^ k * 2 ^ j)
cross n j k = mul_assoc n (2 ^ j) (2 ^ k) ∙ ap (λ (x : ℕ). n * x) (mul_comm (2 ^ j) (2 ^ k))

positive_product : (a b : ℕ) → 0 < 2 ^ a * 2 ^ b
positive_product a b = subst (λ (x : ℕ). 0 < x) (pow-add 2 a b) (pow_pos (a + b))

scaled_grid : (p n j : ℕ) → p < size n → rounded p (n * 2 ^ j) ≡ rounded p n * 2 ^ j
unfolding rounded
scaled_grid p n j h =
    let k = size n - p in
    let m = n * 2 ^ j in
    ap (λ (x : ℕ). closest m (2 ^ x) * 2 ^ x) (ap (λ (x : ℕ). x - p) (size_scaled n j (size_reaches n 0 (lt_of_le_of_lt (omega arith) h))) ∙ drop_more (size n) p j h)
    ∙ ap (λ (x : ℕ). closest m x * x) (pow-add 2 k j)
    ∙ ap (λ (x : ℕ). x * (2 ^ k * 2 ^ j)) (closest_same m (2 ^ k * 2 ^ j) n (2 ^ k) (positive_product k j) (pow_pos k) (cross n j k))
    ∙ sym (mul_assoc (closest n (2 ^ k)) (2 ^ k) (2 ^ j))

pub rounded_scaled : (p n j : ℕ) → 0 < p → rounded p (n * 2 ^ j) ≡ rounded p n * 2 ^ j
rounded_scaled p n j P =
    elim (cases_lt p (size n)) [
      | inr h ↦
          let r = rep_few_digits p n h in
          rounded_exact p (n * 2 ^ j) P (rep_scaled p n j r) ∙ ap (λ (x : ℕ). x * 2 ^ j) (sym (rounded_exact p n P r))
      | inl h ↦ scaled_grid p n j h
    ]

-- ---- how far the rounded number is

half_place : (n x r u y : ℕ) → x + r ≡ n → y ≤ x + 2 * r → x + 2 * r ≤ y + u → x ≤ y → y ≤ x + u → (2 * y ≤ 2 * n + u) × (2 * n ≤ 2 * y + u)
half_place n x r u y e h k l g = omega arith

-- at most half a unit
pub rounded-half-place : (p n : ℕ) → (2 * rounded p n ≤ 2 * n + unit p n) × (2 * n ≤ 2 * rounded p n + unit p n)
unfolding rounded
rounded-half-place p n =
    let u = unit p n in
    let U = pow_pos (size n - p) in
    let w = n / u in
    let o = compare (n % u * 2) u in
    let c = cmp (n % u * 2) u in
    half_place n (w * u) (n % u) u (nearest w o * u) (div-add-mod' n u) (nearest_at_most w u (n % u) o c) (nearest_at_least w u (n % u) o (mod-lt n U) c)
    (mul-le-mul_right u (nearest-ge w o)) (le_trans (mul-le-mul_right u (nearest-le w o)) (le_of_eq (suc-mul w u)))

-- one part in 2 ^ p of any m that is at least the first number with as many digits as n
scaled_up : (x y u q : ℕ) → 2 * x ≤ 2 * y + u → 2 * (x * q) ≤ 2 * (y * q) + u * q
scaled_up x y u q h =
    le_trans (le_of_eq (sym (mul_assoc 2 x q))) (le_trans (mul-le-mul_right q h) (le_of_eq (add-mul (2 * y) u q ∙ ap (λ (z : ℕ). z + u * q) (mul_assoc 2 y q))))

halve : (x y w m : ℕ) → 2 * x ≤ 2 * y + w → w ≤ 2 * m → x ≤ y + m
halve x y w m h l = omega arith

part : (p n m : ℕ) → unit p n * 2 ^ p ≤ 2 * m → (rounded p n * 2 ^ p ≤ n * 2 ^ p + m) × (n * 2 ^ p ≤ rounded p n * 2 ^ p + m)
part p n m h =
    let q = 2 ^ p in
    let u = unit p n in
    let y = rounded p n in
    let d = rounded-half-place p n in
    (halve (y * q) (n * q) (u * q) m (scaled_up y n u q d.0) h, halve (n * q) (y * q) (u * q) m (scaled_up n y u q d.1) h)

above_zero : (z p : ℕ) → p < z → 0 < z - p
above_zero z p h = omega arith

back_one : (p : ℕ) → 0 < p → suc (p - 1) ≡ p
back_one p h = omega arith

twice : (b : ℕ) → b + b ≡ 2 * b
twice b = omega arith

twice_first : (p n : ℕ) → 0 < p → unit p n * 2 ^ p ≡ 2 * (2 ^ (p - 1) * unit p n)
twice_first p n P =
    let u = unit p n in
    ap (λ (x : ℕ). u * 2 ^ x) (sym (back_one p P)) ∙ ap (λ (x : ℕ). u * x) (two-pow-succ (p - 1) ∙ twice (2 ^ (p - 1)))
    ∙ mul_comm u (2 * 2 ^ (p - 1)) ∙ mul_assoc 2 (2 ^ (p - 1)) u

unmoved : (x y m : ℕ) → y ≡ x → (y ≤ x + m) × (x ≤ y + m)
unmoved x y m e = omega arith

pub rounded_relative : (p n : ℕ) → 0 < p → (rounded p n * 2 ^ p ≤ n * 2 ^ p + n) × (n * 2 ^ p ≤ rounded p n * 2 ^ p + n)
rounded_relative p n P =
    elim (cases_lt p (size n)) [
      | inr h ↦ unmoved (n * 2 ^ p) (rounded p n * 2 ^ p) n (ap (λ (x : ℕ). x * 2 ^ p) (rounded_exact p n P (rep_few_digits p n h)))
      | inl h ↦
          part p n n (le_trans (le_of_eq (twice_first p n P)) (mul-le-mul_left 2 (first_reached p n 0 P (above_zero (size n) p h))))
    ]

pub rounded_relative_result : (p n : ℕ) → 0 < p → (rounded p n * 2 ^ p ≤ n * 2 ^ p + rounded p n) × (n * 2 ^ p ≤ rounded p n * 2 ^ p + rounded p n)
rounded_relative_result p n P =
    let y = rounded p n in
    elim (cases_lt p (size n)) [
      | inr h ↦ unmoved (n * 2 ^ p) (y * 2 ^ p) y (ap (λ (x : ℕ). x * 2 ^ p) (rounded_exact p n P (rep_few_digits p n h)))
      | inl h ↦
          let b = 2 ^ (p - 1) * unit p n in
          let l : b ≤ n = first_reached p n 0 P (above_zero (size n) p h) in
          let r = rep_scaled p (2 ^ (p - 1)) (size n - p) (rep_power p (p - 1) P) in
          part p n y (le_trans (le_of_eq (twice_first p n P)) (mul-le-mul_left 2 (rounded-low p b n P r l).0))
    ]

-- ---- an odd n of p + 2 digits or more is no midpoint of two numbers of p digits: each other one is strictly farther away

two-dropped : (z p : ℕ) → p + 1 < z → 2 ≤ z - p
two-dropped z p h = omega arith

whole_fours : (k c t : ℕ) → 2 ≤ k → c * 2 ^ k + t * 2 ^ k ≡ 4 * ((c + t) * 2 ^ (k - 2))
whole_fours k c t h =
    sym (add-mul c t (2 ^ k)) ∙ ap (λ (x : ℕ). (c + t) * 2 ^ x) (sym (sub-add_cancel h)) ∙ ap (λ (x : ℕ). (c + t) * x) (pow-add 2 (k - 2) 2)
    ∙ sym (mul_assoc (c + t) (2 ^ (k - 2)) 4) ∙ mul_comm ((c + t) * 2 ^ (k - 2)) 4

-- an odd number is no double
odd_no_double : (n x : ℕ) → n % 2 ≡ 1 → n ≡ 2 * x → ⊥
odd_no_double n x o e = go (sym o ∙ ap (λ (y : ℕ). y % 2) e ∙ mul-mod_right 2 x)
  where
    go : ◌≡◌ {A = ℕ} 1 0 → ⊥
    go h = omega arith

half_of_fours : (s n x : ℕ) → s ≡ 4 * x → s ≡ 2 * n → n ≡ 2 * x
half_of_fours s n x e f = omega arith

odd_below : (s n x : ℕ) → n % 2 ≡ 1 → s ≡ 4 * x → s ≤ 2 * n → s < 2 * n
odd_below s n x o e h =
    elim (eq-or-lt_of_le h) [
      | inl f ↦ absurd (odd_no_double n x o (half_of_fours s n x e f))
      | inr l ↦ l
    ]

odd_above : (s n x : ℕ) → n % 2 ≡ 1 → s ≡ 4 * x → 2 * n ≤ s → 2 * n < s
odd_above s n x o e h =
    elim (eq-or-lt_of_le h) [
      | inl f ↦ absurd (odd_no_double n x o (half_of_fours s n x e (sym f)))
      | inr l ↦ l
    ]

sum_in_fours : (p n a : ℕ) → p + 1 < size n → (g : Multiple (unit p n) a) → rounded p n + a ≡ 4 * ((closest n (unit p n) + g.times) * 2 ^ (size n - p - 2))
unfolding rounded
sum_in_fours p n a h g =
    ap (λ (x : ℕ). closest n (unit p n) * unit p n + x) g.is ∙ whole_fours (size n - p) (closest n (unit p n)) g.times (two-dropped (size n) p h)

strictly_less : (a b y n : ℕ) → a < b → y + b ≤ 2 * n → y + a < 2 * n
strictly_less a b y n h l = omega arith

pub rounded_strict_low : (p a n : ℕ) → 0 < p → Rep p a → n % 2 ≡ 1 → p + 1 < size n → a ≤ n → rounded p n + a < 2 * n
rounded_strict_low p a n P r o z h =
    let y = rounded p n in
    elim (on_grid_or_below p a n P r) [
      | inl g ↦ odd_below (y + a) n _ o (sum_in_fours p n a z g) (rounded-low p a n P r h).1
      | inr g ↦
          let b = 2 ^ (p - 1) * unit p n in
          strictly_less a b y n g.0 (rounded-low p b n P (rep_scaled p (2 ^ (p - 1)) (size n - p) (rep_power p (p - 1) P)) g.1).1
    ]

pub rounded_strict_high : (p a n : ℕ) → 0 < p → Rep p a → n % 2 ≡ 1 → p + 1 < size n → n ≤ a → 2 * n < rounded p n + a
rounded_strict_high p a n P r o z h =
    elim (on_grid_or_below p a n P r) [
      | inl g ↦ odd_above (rounded p n + a) n _ o (sum_in_fours p n a z g) (rounded-high p a n P r h).1
      | inr g ↦ never_below a (2 ^ (p - 1) * unit p n) n g.0 g.1 h
    ]

-- the distance of x from n
abbrev pub distance : ℕ → ℕ → ℕ
distance x n = (x - n) + (n - x)

farther_below : (a y n : ℕ) → a ≤ n → y + a < 2 * n → ¬ (a ≡ y) → a ≤ y → distance y n < distance a n
farther_below a y n h l e g = omega arith

farther_above : (a y n : ℕ) → n ≤ a → 2 * n < y + a → ¬ (a ≡ y) → y ≤ a → distance y n < distance a n
farther_above a y n h l e g = omega arith

pub rounded_strict : (p a n : ℕ) → 0 < p → Rep p a → n % 2 ≡ 1 → p + 1 < size n → ¬ (a ≡ rounded p n) → distance (rounded p n) n < distance a n
rounded_strict p a n P r o z e =
    elim (cases_lt n a) [
      | inr h ↦ farther_below a (rounded p n) n h (rounded_strict_low p a n P r o z h) e (rounded-low p a n P r h).0
      | inl h ↦
          let h : n ≤ a = le_of_lt h in
          farther_above a (rounded p n) n h (rounded_strict_high p a n P r o z h) e (rounded-high p a n P r h).0
    ]

-- ---- by computation, to three digits: the ties 1001, 1011 and 1111 go to the even 100, 110 and 1000, and 10011 goes up to 101

to_even_below : rounded 3 9 ≡ 8
unfolding rounded size climb span
to_even_below = refl

to_even_above : rounded 3 11 ≡ 12
unfolding rounded size climb span
to_even_above = refl

to_more_digits : rounded 3 15 ≡ 16
unfolding rounded size climb span
to_more_digits = refl

to_nearer : rounded 3 19 ≡ 20
unfolding rounded size climb span
to_nearer = refl
