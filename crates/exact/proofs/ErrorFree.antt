-- A sum is its rounded value and an error of p digits, and six operations find that error exactly. Where |v| ≤ |u|, R (u + v) - u has p digits (Dekker),
-- so that each step of the six is exact in each of three cases: |u| ≤ |v|; |v| < |u| and |v| ≤ |s|; and |s| < |v| < |u|, where u + v itself is exact. R is `rounded_z p` and s is R (u + v).
use Rattle.std.proofs.Common.{◌≡◌, ℕ, suc, ◌+◌, ◌-◌, ◌*◌, ◌^◌, ◌<◌, ◌≤◌, ℤ, pos, ◌+ℤ◌, ◌-ℤ◌, neg_ℤ, nat_abs, sym, ap, ◌∙◌, subst, inl, inr, le_trans, le_of_eq, le_refl, lt_of_lt_of_le, lt_of_le_of_lt, le_of_lt, mul-le-mul_right, mul-le-mul_left, le_of_mul-le-mul_right, arith, pow_pos, pow_mono, pow-add, shl_lt, suc-mul}
use Rattle.std.proofs.lemmas.Bool.{cases_lt}
use native.Mathlib.Nat.{two-pow-succ}
use lib.IntN.{+ℤ_comm}
use lib.Ieee.{size}
use lib.Ieee.Digits.{size-lt, size-le}
use lib.Ieee.Fits.{two-le_pos}
use lib.Ieee.Nearest.{closest}
use Rattle.std.proofs.lemmas.Int.{ints}
use Rattle.exact.specs.Rounded.{rounded, rounded_z, Rep, RepZ}
use Rattle.exact.proofs.Naturals.{rep_zero, rounded-low, unit, Multiple, multiple_of_power}
use Rattle.exact.proofs.Integers.{rep_neg, unsigned_abs_rounded, rounded_z_rep, rounded_z_exact, rounded_z_nearest, rounded_z-half-place, multiple_plus, multiple_minus, multiple_rounded, rep_multiple, rep_of_multiple, fine}
use Rattle.exact.proofs.Signs.{unsigned_abs_neg}

rep_at : (p : ℕ) (y z : ℤ) → y ≡ z → RepZ p y → RepZ p z
rep_at p y z e r = subst (λ (x : ℤ). RepZ p x) e r

turned : (a s : ℤ) → neg_ℤ (a -ℤ s) ≡ s -ℤ a
turned a s = omega (arith, ints)

-- ---- the error of a sum

to_left : (u v s : ℤ) → nat_abs (s -ℤ (u +ℤ v)) ≤ nat_abs (v -ℤ (u +ℤ v)) → nat_abs (u +ℤ v -ℤ s) ≤ nat_abs u
to_left u v s h = omega (arith, ints)

to_right : (u v s : ℤ) → nat_abs (s -ℤ (u +ℤ v)) ≤ nat_abs (u -ℤ (u +ℤ v)) → nat_abs (u +ℤ v -ℤ s) ≤ nat_abs v
to_right u v s h = omega (arith, ints)

pub plus_error_left : (p : ℕ) (u v : ℤ) → 0 < p → RepZ p v → nat_abs (u +ℤ v -ℤ rounded_z p (u +ℤ v)) ≤ nat_abs u
plus_error_left p u v P r = to_left u v (rounded_z p (u +ℤ v)) (rounded_z_nearest p v (u +ℤ v) P r)

pub plus_error_right : (p : ℕ) (u v : ℤ) → 0 < p → RepZ p u → nat_abs (u +ℤ v -ℤ rounded_z p (u +ℤ v)) ≤ nat_abs v
plus_error_right p u v P r = to_right u v (rounded_z p (u +ℤ v)) (rounded_z_nearest p u (u +ℤ v) P r)

pub plus-error : (p : ℕ) (u v : ℤ) → 0 < p → RepZ p u → RepZ p v → RepZ p (u +ℤ v -ℤ rounded_z p (u +ℤ v))
plus-error p u v P r s =
    fine p u v (u +ℤ v -ℤ rounded_z p (u +ℤ v)) r s
    (λ (j : ℕ) (x : Multiple (2 ^ j) (nat_abs u)) (y : Multiple (2 ^ j) (nat_abs v)).
    let z = multiple_plus (2 ^ j) u v x y in
    multiple_minus (2 ^ j) (u +ℤ v) (rounded_z p (u +ℤ v)) z (multiple_rounded p j (u +ℤ v) P z))
    (plus_error_left p u v P s) (plus_error_right p u v P r)

-- ---- Dekker

-- n is written with its last digit at the place i or below
record Aligned (p i n : ℕ) : Type 0 where
  rep : Rep p n
  low : rep.places ≤ i

aligned : (p u v : ℕ) (r : Rep p u) → Rep p v → v ≤ u → Aligned p r.places v
aligned p u v r s h =
    let i = r.places in
    let j = s.places in
    elim (cases_lt i j) [
      | inr l ↦ record { rep = s; low = l }
      | inl l ↦
          let e = s.is ∙ multiple_of_power s.digits j i (le_of_lt l) in
          record {
            rep = record {
              digits = s.digits * 2 ^ (j - i);
              places = i;
              few = lt_of_le_of_lt (le_of_mul-le-mul_right (le_trans (le_of_eq (sym e)) (le_trans h (le_of_eq r.is))) (pow_pos i)) r.few;
              is = e;
            };
            low = le_refl i;
          }
    ]

-- at any place from its last on, a number of p digits and one unit more are at most 2 ^ p units
one_more : (p t n : ℕ) (r : Rep p n) → r.places ≤ t → n + 2 ^ t ≤ 2 ^ p * 2 ^ t
one_more p t n r h =
    let d = r.digits in
    go n (d * 2 ^ t) (2 ^ t) (2 ^ p * 2 ^ t) (le_trans (le_of_eq r.is) (mul-le-mul_left d (pow_mono h)))
    (le_trans (le_of_eq (sym (suc-mul d (2 ^ t)))) (mul-le-mul_right (2 ^ t) r.few))
  where
    go : (n x u y : ℕ) → n ≤ x → x + u ≤ y → n + u ≤ y
    go n x u y h k = omega arith

by_parts : (u v s : ℤ) → nat_abs (s -ℤ u) ≤ nat_abs v + nat_abs (s -ℤ (u +ℤ v))
by_parts u v s = omega (arith, ints)

half_of : (e u t : ℕ) → 2 * e ≤ u → u ≤ t + t → e ≤ t
half_of e u t h k = omega arith

chain : (x v e t y : ℕ) → x ≤ v + e → e ≤ t → v + t ≤ y → x ≤ y
chain x v e t y h k l = omega arith

-- the rounded number is a whole number of its unit
rounded_multiple : (p t : ℕ) (z : ℤ) → t ≤ size (nat_abs z) - p → Multiple (2 ^ t) (nat_abs (rounded_z p z))
unfolding rounded
rounded_multiple p t z h =
    let k = size (nat_abs z) - p in
    let c = closest (nat_abs z) (2 ^ k) in
    record { times = c * 2 ^ (k - t); is = unsigned_abs_rounded p z ∙ multiple_of_power c k t h }

-- t is a place that u, v and the rounded sum reach, and the error is at most a unit there
dekker_at : (p t : ℕ) (u v : ℤ) → 0 < p → (r : RepZ p u) (s : RepZ p v) → t ≤ r.places → s.places ≤ t → t ≤ size (nat_abs (u +ℤ v)) - p → size (nat_abs (u +ℤ v)) - p ≤ suc t
    → RepZ p (rounded_z p (u +ℤ v) -ℤ u)
dekker_at p t u v P r s h k l g =
    let y = rounded_z p (u +ℤ v) in
    rep_of_multiple p t (nat_abs (y -ℤ u)) P
    (multiple_minus (2 ^ t) y u (rounded_multiple p t (u +ℤ v) l) (rep_multiple p t (nat_abs u) r h))
    (chain (nat_abs (y -ℤ u)) (nat_abs v) (nat_abs (y -ℤ (u +ℤ v))) (2 ^ t) (2 ^ p * 2 ^ t) (by_parts u v y)
    (half_of (nat_abs (y -ℤ (u +ℤ v))) (unit p (nat_abs (u +ℤ v))) (2 ^ t) (rounded_z-half-place p (u +ℤ v)) (le_trans (pow_mono g) (le_of_eq (two-pow-succ t))))
    (one_more p t (nat_abs v) s k))

-- no digit of the sum is dropped
kept_whole : (p : ℕ) (u v : ℤ) → 0 < p → (r : RepZ p u) (s : RepZ p v) → size (nat_abs (u +ℤ v)) - p ≤ r.places → size (nat_abs (u +ℤ v)) - p ≤ s.places → RepZ p (u +ℤ v)
kept_whole p u v P r s h k =
    let n = nat_abs (u +ℤ v) in
    let j = size n - p in
    rep_of_multiple p j n P (multiple_plus (2 ^ j) u v (rep_multiple p j (nat_abs u) r h) (rep_multiple p j (nat_abs v) s k))
    (le_trans (le_of_lt (size-lt n)) (le_trans (pow_mono (cover (size n) p)) (le_of_eq (pow-add 2 p j))))
  where
    cover : (z p : ℕ) → z ≤ p + (z - p)
    cover z p = omega arith

sum_at_most : (u v : ℤ) → nat_abs v ≤ nat_abs u → nat_abs (u +ℤ v) ≤ nat_abs u + nat_abs u
sum_at_most u v h = omega (arith, ints)

-- a sum with |v| ≤ |u| has at most one digit more than u has room for
sum_digits : (p : ℕ) (u v : ℤ) (r : RepZ p u) → nat_abs v ≤ nat_abs u → size (nat_abs (u +ℤ v)) - p ≤ suc r.places
sum_digits p u v r h =
    let i = r.places in
    let b = 2 ^ (p + i) in
    let l : nat_abs u < b = lt_of_le_of_lt (le_of_eq r.is) (shl_lt p i r.few) in
    fewer (size (nat_abs (u +ℤ v))) p i
    (size-le (nat_abs (u +ℤ v)) (suc (p + i)) (lt_of_le_of_lt (sum_at_most u v h) (lt_of_lt_of_le (doubled (nat_abs u) b l) (le_of_eq (sym (two-pow-succ (p + i)))))))
  where
    doubled : (a b : ℕ) → a < b → a + a < b + b
    doubled a b h = omega arith

    fewer : (z p i : ℕ) → z ≤ suc (p + i) → z - p ≤ suc i
    fewer z p i h = omega arith

back_to_right : (u v s : ℤ) → s ≡ u +ℤ v → v ≡ s -ℤ u
back_to_right u v s e = omega (arith, ints)

dekker_aligned : (p : ℕ) (u v : ℤ) → 0 < p → (r : RepZ p u) (s : RepZ p v) → s.places ≤ r.places → nat_abs v ≤ nat_abs u → RepZ p (rounded_z p (u +ℤ v) -ℤ u)
dekker_aligned p u v P r s l h =
    let k = size (nat_abs (u +ℤ v)) - p in
    let i = r.places in
    let j = s.places in
    elim (cases_lt j k) [
      | inr g ↦
          rep_at p v (rounded_z p (u +ℤ v) -ℤ u)
          (back_to_right u v (rounded_z p (u +ℤ v)) (rounded_z_exact p (u +ℤ v) P (kept_whole p u v P r s (le_trans g l) g))) s
      | inl g ↦ elim (cases_lt i k) [
        | inr m ↦ dekker_at p k u v P r s m (le_of_lt g) (le_refl k) (next k)
        | inl m ↦ dekker_at p i u v P r s (le_refl i) l (le_of_lt m) (sum_digits p u v r h)
      ]
    ]
  where
    next : (k : ℕ) → k ≤ suc k
    next k = omega arith

pub dekker : (p : ℕ) (u v : ℤ) → 0 < p → RepZ p u → RepZ p v → nat_abs v ≤ nat_abs u → RepZ p (rounded_z p (u +ℤ v) -ℤ u)
dekker p u v P r s h =
    let a = aligned p (nat_abs u) (nat_abs v) r s h in
    dekker_aligned p u v P r a.rep a.low h

-- ---- the six operations: s = R (u + v), a = R (s - v), b = R (s - a), c = R (a - u), d = R (b - v), e = R (c + d)

-- from s and a on, what the operations round has p digits already
record Whole (p : ℕ) (u v s a : ℤ) : Type 0 where
  rest : RepZ p (s -ℤ a)
  left : RepZ p (a -ℤ u)
  right : RepZ p (s -ℤ a -ℤ v)

-- a is exactly s - v
whole_by_right : (p : ℕ) (u v s a : ℤ) → RepZ p v → RepZ p (u +ℤ v -ℤ s) → a ≡ s -ℤ v → Whole p u v s a
whole_by_right p u v s a r f e = record {
  rest = rep_at p v (s -ℤ a) (is_rest v s a e) r;
  left = rep_at p (neg_ℤ (u +ℤ v -ℤ s)) (a -ℤ u) (is_left u v s a e) (rep_neg p (u +ℤ v -ℤ s) f);
  right = rep_at p (pos 0) (s -ℤ a -ℤ v) (is_right v s a e) (rep_zero p);
}
  where
    is_rest : (v s a : ℤ) → a ≡ s -ℤ v → v ≡ s -ℤ a
    is_rest v s a e = omega (arith, ints)

    is_left : (u v s a : ℤ) → a ≡ s -ℤ v → neg_ℤ (u +ℤ v -ℤ s) ≡ a -ℤ u
    is_left u v s a e = omega (arith, ints)

    is_right : (v s a : ℤ) → a ≡ s -ℤ v → pos 0 ≡ s -ℤ a -ℤ v
    is_right v s a e = omega (arith, ints)

-- |u| ≤ |v|
whole_left_smaller : (p : ℕ) (u v : ℤ) → 0 < p → RepZ p u → RepZ p v → nat_abs u ≤ nat_abs v → Whole p u v (rounded_z p (u +ℤ v)) (rounded_z p (rounded_z p (u +ℤ v) -ℤ v))
whole_left_smaller p u v P r t h =
    let s = rounded_z p (u +ℤ v) in
    let d = subst (λ (x : ℤ). RepZ p (rounded_z p x -ℤ v)) (+ℤ_comm v u) (dekker p v u P t r h) in
    whole_by_right p u v s (rounded_z p (s -ℤ v)) t (plus-error p u v P r t) (rounded_z_exact p (s -ℤ v) P d)

-- |v| ≤ |u| and |v| ≤ |s|
whole_right_smaller : (p : ℕ) (u v : ℤ) → 0 < p → RepZ p u → RepZ p v → nat_abs v ≤ nat_abs u → nat_abs v ≤ nat_abs (rounded_z p (u +ℤ v))
    → Whole p u v (rounded_z p (u +ℤ v)) (rounded_z p (rounded_z p (u +ℤ v) -ℤ v))
whole_right_smaller p u v P r t h k =
    let s = rounded_z p (u +ℤ v) in
    let a = rounded_z p (s -ℤ v) in
    let f = u +ℤ v -ℤ s in
    let S = rounded_z_rep p (u +ℤ v) P in
    let T = rep_neg p v t in
    record {
      rest = rep_at p (neg_ℤ (a -ℤ s)) (s -ℤ a) (turned a s) (rep_neg p (a -ℤ s) (dekker p s (neg_ℤ v) P S T (le_trans (le_of_eq (unsigned_abs_neg v)) k)));
      left =
          subst (λ (x : ℤ). RepZ p (rounded_z p x -ℤ u)) (sym (less_error u v s))
          (dekker p u (neg_ℤ f) P r (rep_neg p f (plus-error p u v P r t)) (le_trans (le_of_eq (unsigned_abs_neg f)) (le_trans (plus_error_right p u v P r) h)));
      right = rep_at p (s -ℤ v -ℤ a) (s -ℤ a -ℤ v) (swapped s v a) (plus-error p s (neg_ℤ v) P S T);
    }
  where
    less_error : (u v s : ℤ) → s -ℤ v ≡ u -ℤ (u +ℤ v -ℤ s)
    less_error u v s = omega (arith, ints)

    swapped : (s v a : ℤ) → s -ℤ v -ℤ a ≡ s -ℤ a -ℤ v
    swapped s v a = omega (arith, ints)

-- |s| < |v| ≤ |u|: the sum is no larger than either, so it is exact
small_sum : (p : ℕ) (u v : ℤ) → 0 < p → RepZ p u → RepZ p v → nat_abs v ≤ nat_abs u → nat_abs (rounded_z p (u +ℤ v)) < nat_abs v → RepZ p (u +ℤ v)
small_sum p u v P r t h k =
    let n = nat_abs (u +ℤ v) in
    let l : n ≤ nat_abs v = elim (cases_lt (nat_abs v) n) [
      | inr l ↦ l
      | inl l ↦ clash (nat_abs v) (rounded p n) (rounded-low p (nat_abs v) n P t (le_of_lt l)).0 (subst (λ (x : ℕ). x < nat_abs v) (unsigned_abs_rounded p (u +ℤ v)) k)
    ] in
    fine p u v (u +ℤ v) r t (λ (j : ℕ) (x : Multiple (2 ^ j) (nat_abs u)) (y : Multiple (2 ^ j) (nat_abs v)). multiple_plus (2 ^ j) u v x y) (le_trans l h) l
  where
    clash : {X : Type 0} (a b : ℕ) → a ≤ b → b < a → X
    clash a b h k = absurd (no a b h k)
      where
        no : (a b : ℕ) → a ≤ b → b < a → ⊥
        no a b h k = omega arith

whole_small_sum : (p : ℕ) (u v : ℤ) → 0 < p → RepZ p u → RepZ p v → nat_abs v ≤ nat_abs u → nat_abs (rounded_z p (u +ℤ v)) < nat_abs v
    → Whole p u v (rounded_z p (u +ℤ v)) (rounded_z p (rounded_z p (u +ℤ v) -ℤ v))
whole_small_sum p u v P r t h k =
    let s = rounded_z p (u +ℤ v) in
    let e = is_left u v s (rounded_z_exact p (u +ℤ v) P (small_sum p u v P r t h k)) in
    whole_by_right p u v s (rounded_z p (s -ℤ v)) t (plus-error p u v P r t) (rounded_z_exact p (s -ℤ v) P (rep_at p u (s -ℤ v) e r))
  where
    is_left : (u v s : ℤ) → s ≡ u +ℤ v → u ≡ s -ℤ v
    is_left u v s e = omega (arith, ints)

whole_always : (p : ℕ) (u v : ℤ) → 0 < p → RepZ p u → RepZ p v → Whole p u v (rounded_z p (u +ℤ v)) (rounded_z p (rounded_z p (u +ℤ v) -ℤ v))
whole_always p u v P r t =
    elim (cases_lt (nat_abs v) (nat_abs u)) [
      | inr h ↦ whole_left_smaller p u v P r t h
      | inl h ↦ elim (cases_lt (nat_abs (rounded_z p (u +ℤ v))) (nat_abs v)) [
        | inr k ↦ whole_right_smaller p u v P r t (le_of_lt h) k
        | inl k ↦ whole_small_sum p u v P r t (le_of_lt h) k
      ]
    ]

-- the third to the sixth operation are exact
pub record Exact (u v s a b c d e : ℤ) : Type 0 where
  pub rest : b ≡ s -ℤ a
  pub left : c ≡ a -ℤ u
  pub right : d ≡ s -ℤ a -ℤ v
  pub error : e ≡ s -ℤ (u +ℤ v)

pub error-free-steps : (p : ℕ) → 2 ≤ p → (u v : ℤ) → RepZ p u → RepZ p v → (s a b c d e : ℤ)
    → s ≡ rounded_z p (u +ℤ v) → a ≡ rounded_z p (s -ℤ v) → b ≡ rounded_z p (s -ℤ a) → c ≡ rounded_z p (a -ℤ u) → d ≡ rounded_z p (b -ℤ v) → e ≡ rounded_z p (c +ℤ d)
    → Exact u v s a b c d e
error-free-steps p Q u v r t s a b c d e es ea eb ec ed ee =
    let P = two-le_pos p Q in
    let w = subst (λ (x : ℤ). Whole p u v x a) (sym es) (subst (λ (x : ℤ). Whole p u v (rounded_z p (u +ℤ v)) x) (sym (ea ∙ ap (λ (x : ℤ). rounded_z p (x -ℤ v)) es)) (whole_always p u v P r t)) in
    let fb = eb ∙ rounded_z_exact p (s -ℤ a) P w.rest in
    let fc = ec ∙ rounded_z_exact p (a -ℤ u) P w.left in
    let fd = ed ∙ ap (λ (x : ℤ). rounded_z p (x -ℤ v)) fb ∙ rounded_z_exact p (s -ℤ a -ℤ v) P w.right in
    let m = is_error u v s a c d fc fd in
    let f = subst (λ (x : ℤ). RepZ p (u +ℤ v -ℤ x)) (sym es) (plus-error p u v P r t) in
    let g = rep_at p (neg_ℤ (u +ℤ v -ℤ s)) (s -ℤ (u +ℤ v)) (turned (u +ℤ v) s) (rep_neg p (u +ℤ v -ℤ s) f) in
    record { rest = fb; left = fc; right = fd; error = ee ∙ ap (rounded_z p) m ∙ rounded_z_exact p (s -ℤ (u +ℤ v)) P g }
  where
    is_error : (u v s a c d : ℤ) → c ≡ a -ℤ u → d ≡ s -ℤ a -ℤ v → c +ℤ d ≡ s -ℤ (u +ℤ v)
    is_error u v s a c d e f = omega (arith, ints)

-- the rounded sum, less what the six operations find, is the sum
pub error-free : (p : ℕ) → 2 ≤ p → (u v : ℤ) → RepZ p u → RepZ p v → (s a b c d e : ℤ)
    → s ≡ rounded_z p (u +ℤ v) → a ≡ rounded_z p (s -ℤ v) → b ≡ rounded_z p (s -ℤ a) → c ≡ rounded_z p (a -ℤ u) → d ≡ rounded_z p (b -ℤ v) → e ≡ rounded_z p (c +ℤ d)
    → s +ℤ neg_ℤ e ≡ u +ℤ v
error-free p Q u v r t s a b c d e es ea eb ec ed ee = closes (u +ℤ v) s e (error-free-steps p Q u v r t s a b c d e es ea eb ec ed ee).error
  where
    closes : (z s e : ℤ) → e ≡ s -ℤ z → s +ℤ neg_ℤ e ≡ z
    closes z s e h = omega (arith, ints)

-- ---- how large the results are

pub record Bounded (m : ℕ) (s a b c d e : ℤ) : Type 0 where
  pub sum : nat_abs s ≤ m
  pub left : nat_abs a ≤ m
  pub right : nat_abs b ≤ m
  pub left_error : nat_abs c ≤ m
  pub right_error : nat_abs d ≤ m
  pub error : nat_abs e ≤ m

size_of_sum : (u v s : ℤ) → nat_abs (u +ℤ v -ℤ s) ≤ nat_abs u → nat_abs s ≤ 2 * (nat_abs u + nat_abs v)
size_of_sum u v s h = omega (arith, ints)

size_of_left_error : (u v s a : ℤ) → nat_abs (a -ℤ (s -ℤ v)) ≤ nat_abs (u -ℤ (s -ℤ v)) → nat_abs (a -ℤ u) ≤ 2 * nat_abs (u +ℤ v -ℤ s)
size_of_left_error u v s a h = omega (arith, ints)

size_of_right_error : (u v s a : ℤ) → nat_abs (a -ℤ (s -ℤ v)) ≤ nat_abs (u -ℤ (s -ℤ v)) → nat_abs (s -ℤ a -ℤ v) ≤ nat_abs (u +ℤ v -ℤ s)
size_of_right_error u v s a h = omega (arith, ints)

size_of_left : (u a : ℤ) → nat_abs a ≤ nat_abs u + nat_abs (a -ℤ u)
size_of_left u a = omega (arith, ints)

size_of_right : (v s a : ℤ) → nat_abs (s -ℤ a) ≤ nat_abs v + nat_abs (s -ℤ a -ℤ v)
size_of_right v s a = omega (arith, ints)

size-turned : (x y : ℤ) → nat_abs (x -ℤ y) ≡ nat_abs (y -ℤ x)
size-turned x y = omega (arith, ints)

pub error_free_bounds : (p : ℕ) → 2 ≤ p → (u v : ℤ) → RepZ p u → RepZ p v → (s a b c d e : ℤ)
    → s ≡ rounded_z p (u +ℤ v) → a ≡ rounded_z p (s -ℤ v) → b ≡ rounded_z p (s -ℤ a) → c ≡ rounded_z p (a -ℤ u) → d ≡ rounded_z p (b -ℤ v) → e ≡ rounded_z p (c +ℤ d)
    → Bounded (4 * (nat_abs u + nat_abs v)) s a b c d e
error_free_bounds p Q u v r t s a b c d e es ea eb ec ed ee =
    let P = two-le_pos p Q in
    let x = error-free-steps p Q u v r t s a b c d e es ea eb ec ed ee in
    let l : nat_abs (u +ℤ v -ℤ s) ≤ nat_abs u = subst (λ (y : ℤ). nat_abs (u +ℤ v -ℤ y) ≤ nat_abs u) (sym es) (plus_error_left p u v P t) in
    let n : nat_abs (a -ℤ (s -ℤ v)) ≤ nat_abs (u -ℤ (s -ℤ v)) = subst (λ (y : ℤ). nat_abs (y -ℤ (s -ℤ v)) ≤ nat_abs (u -ℤ (s -ℤ v))) (sym ea) (rounded_z_nearest p u (s -ℤ v) P r) in
    let M = nat_abs u in
    let N = nat_abs v in
    let f = nat_abs (u +ℤ v -ℤ s) in
    let hc = size_of_left_error u v s a n in
    let hd = size_of_right_error u v s a n in
    record {
      sum = twice_enough M N (nat_abs s) (size_of_sum u v s l);
      left = left_enough M N f (nat_abs (a -ℤ u)) (nat_abs a) l hc (size_of_left u a);
      right = le_trans (le_of_eq (ap nat_abs x.rest)) (right_enough M N f (nat_abs (s -ℤ a -ℤ v)) (nat_abs (s -ℤ a)) l hd (size_of_right v s a));
      left_error = le_trans (le_of_eq (ap nat_abs x.left)) (error_enough M N f (nat_abs (a -ℤ u)) l hc);
      right_error = le_trans (le_of_eq (ap nat_abs x.right)) (error_enough M N f (nat_abs (s -ℤ a -ℤ v)) l (le_trans hd (once_twice f)));
      error = le_trans (le_of_eq (ap nat_abs x.error ∙ size-turned s (u +ℤ v))) (error_enough M N f f l (once_twice f));
    }
  where
    twice_enough : (M N x : ℕ) → x ≤ 2 * (M + N) → x ≤ 4 * (M + N)
    twice_enough M N x h = omega arith

    once_twice : (f : ℕ) → f ≤ 2 * f
    once_twice f = omega arith

    error_enough : (M N f x : ℕ) → f ≤ M → x ≤ 2 * f → x ≤ 4 * (M + N)
    error_enough M N f x h k = omega arith

    left_enough : (M N f c x : ℕ) → f ≤ M → c ≤ 2 * f → x ≤ M + c → x ≤ 4 * (M + N)
    left_enough M N f c x h k l = omega arith

    right_enough : (M N f d x : ℕ) → f ≤ M → d ≤ f → x ≤ N + d → x ≤ 4 * (M + N)
    right_enough M N f d x h k l = omega arith
