-- A sum of floats does not depend on the order of its terms, bit for bit, infinities and signs of zero included.
use Rattle.std.proofs.Common.{◌≡◌, ℕ, ◌-◌, ◌*◌, Bool, true, false, cond, ◌&&◌, ltb, sym, refl, ap, ◌∙◌, le_of_lt, mul_comm, add_comm, le_antisymm, not-le_of_lt, ltb-false, ltb-true}
use mathlib.Core.Bool.{beq}
use lib.Ieee.{Float, Format, nan, inf, fin, up, down, round, sum, add}

-- where the signs differ
other_signs : (f : Format) (s t : Bool) (a b c : ℕ) → (s && false) ≡ (t && false) → (t && true) ≡ t → (s && true) ≡ s
    → cond (ltb a b) (round f t (b - a) c) (round f (s && ltb b a) (a - b) c) ≡ cond (ltb b a) (round f s (a - b) c) (round f (t && ltb a b) (b - a) c)
other_signs f s t a b c none own-t own-s = go (ltb a b) (ltb b a) refl refl
  where
    go : (p q : Bool) → ltb a b ≡ p → ltb b a ≡ q → cond p (round f t (b - a) c) (round f (s && q) (a - b) c) ≡ cond q (round f s (a - b) c) (round f (t && p) (b - a) c)
    go true true h k = absurd (not-le_of_lt (ltb-true a b h) (le_of_lt (ltb-true b a k)))
    go true false h k = ap (λ (u : Bool). round f u (b - a) c) (sym own-t)
    go false true h k = ap (λ (u : Bool). round f u (a - b) c) own-s
    go false false h k = (λ i. round f (none i) (level i - b) c) ∙ (λ i. round f (t && false) (b - sym level i) c)
      where
        level : a ≡ b
        level = le_antisymm (ltb-false b a k) (ltb-false a b h)

sum_comm : (f : Format) (s t : Bool) (a b c : ℕ) → sum f s a t b c ≡ sum f t b s a c
unfolding sum
sum_comm f true true a b c = ap (λ (n : ℕ). round f true n c) (add_comm a b)
sum_comm f false false a b c = ap (λ (n : ℕ). round f false n c) (add_comm a b)
sum_comm f true false a b c = other_signs f true false a b c refl refl refl
sum_comm f false true a b c = other_signs f false true a b c refl refl refl

infinite_comm : (s t : Bool) → cond (beq s t) (inf s) nan ≡ cond (beq t s) (inf t) nan
infinite_comm true true = refl
infinite_comm true false = refl
infinite_comm false true = refl
infinite_comm false false = refl

pub add_commutes : (f : Format) (x y : Float) → add f x y ≡ add f y x
unfolding add
add_commutes f nan nan = refl
add_commutes f nan (inf t) = refl
add_commutes f nan (fin t n d) = refl
add_commutes f (inf s) nan = refl
add_commutes f (inf s) (inf t) = infinite_comm s t
add_commutes f (inf s) (fin t n d) = refl
add_commutes f (fin s m e) nan = refl
add_commutes f (fin s m e) (inf t) = refl
add_commutes f (fin s m e) (fin t n d) =
    sum_comm f s t (m * up e * down d) (n * up d * down e) (down e * down d) ∙ ap (sum f t (n * up d * down e) s (m * up e * down d)) (mul_comm (down e) (down d))
