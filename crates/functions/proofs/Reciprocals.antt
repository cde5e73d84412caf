-- The arc tangent of a number below zero mirrors that of its size; above one, it is what the arc of the reciprocal leaves of a quarter turn, since that lies from 0 to 1.
use Rattle.std.proofs.Common.{◌≡◌, ℕ, ◌+◌, ◌*◌, ◌<◌, ◌≤◌, Bool, true, false, cond, ◌&&◌, ◌||◌, T, eqb, ltb, ◌⊎◌, ℤ, sym, refl, ap, ◌∙◌, subst, inl, inr, le_of_eq, le_of_lt, one-mul, zero-mul, mul-one, arith, lit<, ltb→lt, le-ltb, ne_eqb, eqb-true}
use borrow.Author.Tests.{clash}
use lib.Ieee.{Float, nan, inf, fin, binary64, up, down, lt, le, eq, neg, div, round, of_bits, below, level}
use lib.Ieee.Bits.{is_true}
use lib.Ieee.Fits.{and_l, and_r}
use lib.Ieee.Order.{round_mono}
use Rattle.floats.specs.Arithmetic.{◌⊖◌, ◌⊘◌, bits}
use Rattle.functions.specs.Arcs.{arc_to_one, arc_from_zero, arc_tangent_of, quarter_turn}

-- 1 as definitions write it
abbrev one : Float
one = bits 0x3ff0000000000000

-- ---- the order of floats

above_zero : (a d : ℕ) → ltb a (0 * d) ≡ false
above_zero a d = le-ltb a (0 * d) (go a (0 * d) (zero-mul d))
  where
    go : (a z : ℕ) → z ≡ 0 → z ≤ a
    go a z e = omega arith

either_test : (p q : Bool) → T (p || q) → T p ⊎ T q
either_test true q h = inl tt
either_test false q h = inr h

at_most : (a b : ℕ) (r : Bool) → T (ltb a b || (eqb a b && r)) → a ≤ b
at_most a b r h =
    elim (either_test (ltb a b) (eqb a b && r) h) [
      | inl l ↦ le_of_lt (ltb→lt a b l)
      | inr l ↦ le_of_eq (eqb-true a b (is_true (eqb a b) (and_l (eqb a b) r l)))
    ]

no_size : (a b : ℕ) → T (eqb a b && (false || eqb a 0)) → b + a ≡ 0
no_size a b h = go a b (eqb-true a b (is_true (eqb a b) (and_l (eqb a b) (eqb a 0) h))) (eqb-true a 0 (is_true (eqb a 0) (and_r (eqb a b) (eqb a 0) h)))
  where
    go : (a b : ℕ) → a ≡ b → a ≡ 0 → b + a ≡ 0
    go a b h z = omega arith

swapped : (a b : ℕ) (r : Bool) → T (ltb b a || (eqb a b && r)) → b ≤ a
swapped a b r h =
    elim (either_test (ltb b a) (eqb a b && r) h) [
      | inl l ↦ le_of_lt (ltb→lt b a l)
      | inr l ↦ le_of_eq (sym (eqb-true a b (is_true (eqb a b) (and_l (eqb a b) r l))))
    ]

le_not_below : (s t : Bool) (a b : ℕ) → T (below s a t b || level s a t b) → below t b s a ≡ false
le_not_below false false a b h = le-ltb b a (at_most a b (true || eqb a 0) h)
le_not_below false true a b h = le-ltb 0 (b + a) (le_of_eq (no_size a b h))
le_not_below true false a b h = refl
le_not_below true true a b h = le-ltb a b (swapped a b (true || eqb a 0) h)

le_not_lt : (x y : Float) → T (le x y) → lt y x ≡ false
unfolding le lt eq
le_not_lt nan y h = absurd h
le_not_lt (inf s) nan h = absurd h
le_not_lt (inf true) (inf true) h = refl
le_not_lt (inf true) (inf false) h = refl
le_not_lt (inf false) (inf true) h = absurd h
le_not_lt (inf false) (inf false) h = refl
le_not_lt (inf true) (fin t n d) h = refl
le_not_lt (inf false) (fin t n d) h = absurd h
le_not_lt (fin s m e) nan h = absurd h
le_not_lt (fin s m e) (inf true) h = absurd h
le_not_lt (fin s m e) (inf false) h = refl
le_not_lt (fin s m e) (fin t n d) h = le_not_below s t (m * up e * down d) (n * up d * down e) h

-- ---- a number below zero

size_not_below : (x : Float) → T (lt x (bits 0)) → lt (neg x) (bits 0) ≡ false
unfolding lt neg of_bits
size_not_below nan h = absurd h
size_not_below (inf true) h = refl
size_not_below (inf false) h = absurd h
size_not_below (fin true m e) h = above_zero (m * up e * 1) (down e)
size_not_below (fin false m e) h = absurd (clash (sym (above_zero (m * up e * 1) (down e)) ∙ is_true (ltb (m * up e * 1) (0 * down e)) h))

pub arc_mirrored : (x : Float) → T (lt x (bits 0)) → arc_tangent_of x ≡ neg (arc_tangent_of (neg x))
unfolding arc_tangent_of
arc_mirrored x h =
    ap (λ (t : Bool). cond t (neg (arc_from_zero (neg x))) (arc_from_zero x)) (is_true (lt x (bits 0)) h)
    ∙ ap neg (sym (ap (λ (t : Bool). cond t (neg (arc_from_zero (neg (neg x)))) (arc_from_zero (neg x))) (size_not_below x h)))

-- ---- a number above one

-- d below n: the fraction d / n lies between 0 and 1, in the products that the order of fractions asks for
record Proper (d n : ℕ) : Type 0 where
  pub some : 0 < n
  pub low : 0 * n ≤ d * 1
  pub high : d * 1 ≤ 1 * n

proper : (d n : ℕ) → d < n → Proper d n
proper d n h = record {
  some = omega arith;
  low = go (0 * n) (d * 1) (zero-mul n);
  high = joined d n (d * 1) (1 * n) (mul-one d) (one-mul n) h;
}
  where
    go : (z k : ℕ) → z ≡ 0 → z ≤ k
    go z k e = omega arith

    joined : (d n k l : ℕ) → k ≡ d → l ≡ n → d < n → k ≤ l
    joined d n k l e f h = omega arith

not_none : (m u k : ℕ) → k < m * u * 1 → m ≡ 0 → ⊥
not_none m u k h z = go k (m * u * 1) h (mul-one (m * u) ∙ ap (λ (n : ℕ). n * u) z ∙ zero-mul u)
  where
    go : (k n : ℕ) → k < n → n ≡ 0 → ⊥
    go k n h z = omega arith

-- the reciprocal of a finite number above one is a fraction below one, rounded
reciprocal_is : (m : ℕ) (e : ℤ) → (m ≡ 0 → ⊥) → one ⊘ fin false m e ≡ round binary64 false (1 * down e) (m * up e * 1)
unfolding div of_bits
reciprocal_is m e h = ap (λ (t : Bool). cond t (inf false) (round binary64 false (1 * down e) (m * up e * 1))) (ne_eqb m 0 h)

zero-rounded : round binary64 false 0 1 ≡ bits 0
unfolding round of_bits
zero-rounded = refl

one-rounded : round binary64 false 1 1 ≡ one
unfolding round of_bits
one-rounded = refl

reciprocal_within : (x : Float) → T (lt one x) → T (le (bits 0) (one ⊘ x)) × T (le (one ⊘ x) one)
unfolding lt le eq div of_bits
reciprocal_within nan h = absurd h
reciprocal_within (inf true) h = absurd h
reciprocal_within (inf false) h = (tt, tt)
reciprocal_within (fin true m e) h = absurd h
reciprocal_within (fin false m e) h =
    let d : ℕ = 1 * down e in
    let n : ℕ = m * up e * 1 in
    let less : d < n = ltb→lt d n h in
    let p : Proper d n = proper d n less in
    let is = reciprocal_is m e (not_none m (up e) d less) in (
      subst (λ (r : Float). T (le (bits 0) r)) (sym is) (subst (λ (z : Float). T (le z (round binary64 false d n))) zero-rounded (round_mono binary64 0 1 d n (lit< tt) p.some p.low)),
      subst (λ (r : Float). T (le r one)) (sym is) (subst (λ (z : Float). T (le (round binary64 false d n) z)) one-rounded (round_mono binary64 d n 1 1 p.some (lit< tt) p.high)),
    )

above_one_not_below : (x : Float) → T (lt one x) → lt x (bits 0) ≡ false
unfolding lt of_bits
above_one_not_below nan h = absurd h
above_one_not_below (inf true) h = absurd h
above_one_not_below (inf false) h = refl
above_one_not_below (fin true m e) h = absurd h
above_one_not_below (fin false m e) h = above_zero (m * up e * 1) (down e)

-- from 0 to 1 the arc tangent is the last case of its definition
arc_within : (r : Float) → T (le (bits 0) r) → T (le r one) → arc_tangent_of r ≡ arc_to_one r
unfolding arc_tangent_of
arc_within r h i =
    ap (λ (t : Bool). cond t (neg (arc_from_zero (neg r))) (arc_from_zero r)) (le_not_lt (bits 0) r h)
    ∙ ap (λ (t : Bool). cond t (quarter_turn ⊖ arc_to_one (one ⊘ r)) (arc_to_one r)) (le_not_lt r one i)

pub arc_above_one : (x : Float) → T (lt one x) → arc_tangent_of x ≡ quarter_turn ⊖ arc_tangent_of (one ⊘ x)
unfolding arc_tangent_of
arc_above_one x h =
    let within = reciprocal_within x h in
    ap (λ (t : Bool). cond t (neg (arc_from_zero (neg x))) (arc_from_zero x)) (above_one_not_below x h)
    ∙ ap (λ (t : Bool). cond t (quarter_turn ⊖ arc_to_one (one ⊘ x)) (arc_to_one x)) (is_true (lt one x) h)
    ∙ ap (λ (v : Float). quarter_turn ⊖ v) (sym (arc_within (one ⊘ x) within.0 within.1))
