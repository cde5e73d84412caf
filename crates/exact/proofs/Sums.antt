-- A sum or a difference of floats is the rounding of the sum or difference of their exact values, whatever its size.
use Rattle.std.proofs.Common.{◌≡◌, ℕ, ◌+◌, ◌-◌, ◌*◌, ◌^◌, ◌<◌, ◌≤◌, Bool, true, false, cond, not, ◌&&◌, ltb, ℤ, ◌+ℤ◌, ◌-ℤ◌, neg_ℤ, nat_abs, sym, refl, ap, ◌∙◌, subst, le_of_lt, mul_assoc, mul_comm, mul-pos, mul_right_comm, arith, pow_pos, ltb-false, ltb-true}
use mathlib.Core.Bool.{beq}
use Rattle.std.proofs.lemmas.Int.{ints}
use lib.Ieee.{Float, Format, nan, inf, fin, low, up, down, neg, sum, add, sub, round}
use lib.Ieee.Fits.{down_pos}
use lib.Ieee.Scale.{round_same}
use Rattle.exact.specs.Values.{signed, Is, Rounds}
use Rattle.exact.proofs.Signs.{unsigned_abs_signed, signed-plus}
use Rattle.exact.proofs.Scaled.{scaled_ltb, scaled_plus, scaled_minus}
use Rattle.exact.proofs.Values.{neg_is}

pub rounds_of : (f : Format) (s : Bool) (n : ℕ) (x : Float) (z : ℤ) → x ≡ round f s n (2 ^ low f) → signed s n ≡ z → Rounds f x z
rounds_of f s n x z e g =
    let a : n ≡ nat_abs z = sym (unsigned_abs_signed s n) ∙ ap nat_abs g in
    record { sign = s; rounds = e ∙ ap (λ (k : ℕ). round f s k (2 ^ low f)) a; signs = ap (signed s) (sym a) ∙ g }

-- ---- the sum of two fractions with signs, over the smallest value
-- where the signs differ, the larger size has its way
other_way : (s : Bool) (a b : ℕ) → a ≤ b → signed (not s) (b - a) ≡ signed s a +ℤ signed (not s) b
other_way true a b h = omega (arith, ints)
other_way false a b h = omega (arith, ints)

own_way : (s : Bool) (a b : ℕ) → b ≤ a → signed (s && true) (a - b) ≡ signed s a +ℤ signed (not s) b
own_way true a b h = omega (arith, ints)
own_way false a b h = omega (arith, ints)

no_way : (s : Bool) (a b : ℕ) → a ≤ b → b ≤ a → signed (s && false) (a - b) ≡ signed s a +ℤ signed (not s) b
no_way true a b h k = omega (arith, ints)
no_way false a b h k = omega (arith, ints)

less_rounds : (f : Format) (s : Bool) (a b : ℕ)
    → Rounds f (cond (ltb a b) (round f (not s) (b - a) (2 ^ low f)) (round f (s && ltb b a) (a - b) (2 ^ low f))) (signed s a +ℤ signed (not s) b)
less_rounds f s a b = go (ltb a b) (ltb b a) refl refl
  where
    go : (p q : Bool) → ltb a b ≡ p → ltb b a ≡ q
        → Rounds f (cond p (round f (not s) (b - a) (2 ^ low f)) (round f (s && q) (a - b) (2 ^ low f))) (signed s a +ℤ signed (not s) b)
    go true q h k = rounds_of f (not s) (b - a) _ _ refl (other_way s a b (le_of_lt (ltb-true a b h)))
    go false true h k = rounds_of f (s && true) (a - b) _ _ refl (own_way s a b (ltb-false a b h))
    go false false h k = rounds_of f (s && false) (a - b) _ _ refl (no_way s a b (ltb-false b a k) (ltb-false a b h))

sum-rounds : (f : Format) (s t : Bool) (a b : ℕ) → Rounds f (sum f s a t b (2 ^ low f)) (signed s a +ℤ signed t b)
unfolding sum
sum-rounds f true true a b = rounds_of f true (a + b) _ _ refl (sym (signed-plus true a b))
sum-rounds f false false a b = rounds_of f false (a + b) _ _ refl (sym (signed-plus false a b))
sum-rounds f true false a b = less_rounds f true a b
sum-rounds f false true a b = less_rounds f false a b

-- ---- any two floats
sum_scaled : (f : Format) (s t : Bool) (A B C a b L : ℕ) → 0 < C → 0 < L → A * L ≡ a * C → B * L ≡ b * C → sum f s A t B C ≡ sum f s a t b L
unfolding sum
sum_scaled f s t A B C a b L C-pos L-pos first second =
    let like : round f s (A + B) C ≡ round f s (a + b) L = round_same f s (A + B) C (a + b) L C-pos L-pos (scaled_plus A B C a b L C-pos L-pos first second) in
    let less : round f t (B - A) C ≡ round f t (b - a) L = round_same f t (B - A) C (b - a) L C-pos L-pos (scaled_minus B A C b a L C-pos L-pos second first) in
    let more : round f (s && ltb B A) (A - B) C ≡ round f (s && ltb b a) (a - b) L =
    ap (λ (q : Bool). round f (s && q) (A - B) C) (scaled_ltb B A C b a L C-pos L-pos second first)
    ∙ round_same f (s && ltb b a) (A - B) C (a - b) L C-pos L-pos (scaled_minus A B C a b L C-pos L-pos first second) in
    let test : ltb A B ≡ ltb a b = scaled_ltb A B C a b L C-pos L-pos first second in
    λ i. cond (beq s t) (like i) (cond (test i) (less i) (more i))

-- x and y over the denominator down e * down d
pub over_first : (m e d l a : ℕ) → m * l ≡ a * e → m * d * l ≡ a * (e * d)
over_first m e d l a h = mul_right_comm m d l ∙ ap (λ (k : ℕ). k * d) h ∙ mul_assoc a e d

pub over_second : (n e d l b : ℕ) → n * l ≡ b * d → n * e * l ≡ b * (e * d)
over_second n e d l b h = over_first n d e l b h ∙ ap (λ (k : ℕ). b * k) (mul_comm d e)

pub add_rounds : (f : Format) (x y : Float) (z w : ℤ) → Is f x z → Is f y w → Rounds f (add f x y) (z +ℤ w)
unfolding add
add_rounds f nan y z w i j = absurd i.has
add_rounds f (inf s) y z w i j = absurd i.has
add_rounds f (fin s m e) nan z w i j = absurd j.has
add_rounds f (fin s m e) (inf t) z w i j = absurd j.has
add_rounds f (fin s m e) (fin t n d) z w i j =
    let L = 2 ^ low f in
    let scaled = sum_scaled f s t (m * up e * down d) (n * up d * down e) (down e * down d) (nat_abs z) (nat_abs w) L (mul-pos (down_pos e) (down_pos d)) (pow_pos (low f))
    (over_first (m * up e) (down e) (down d) L (nat_abs z) i.has.1) (over_second (n * up d) (down e) (down d) L (nat_abs w) j.has.1) in
    let whole : signed s (nat_abs z) +ℤ signed t (nat_abs w) ≡ z +ℤ w =
    (λ k. signed (i.has.0 k) (nat_abs z) +ℤ signed (j.has.0 k) (nat_abs w)) ∙ (λ k. i.signs k +ℤ j.signs k) in
    subst (Rounds f (sum f s (m * up e * down d) t (n * up d * down e) (down e * down d))) whole
    (subst (λ (v : Float). Rounds f v (signed s (nat_abs z) +ℤ signed t (nat_abs w))) (sym scaled) (sum-rounds f s t (nat_abs z) (nat_abs w)))

pub sub-rounds : (f : Format) (x y : Float) (z w : ℤ) → Is f x z → Is f y w → Rounds f (sub f x y) (z -ℤ w)
unfolding sub
sub-rounds f x y z w i j = add_rounds f x (neg y) z (neg_ℤ w) i (neg_is f y w j)
