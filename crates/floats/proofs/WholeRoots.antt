-- `root_twice n` stands for twice the root of n: with an even number 2c it compares as n does with c * c, and it is odd unless the root is whole.
use Rattle.std.proofs.Common.{◌≡◌, ℕ, zero, suc, ◌+◌, ◌*◌, ◌/◌, ◌%◌, ◌^◌, ◌<◌, ◌≤◌, Bool, true, false, cond, eqb, leb, ◌⊎◌, refl, subst, inl, inr, mul-le-mul, lt_of_not-le, arith, eqb-true, leb-false, leb-true}
use borrow.Author.Tests.{eqb-false}
use lib.Ieee.{size, root_twice, root_below}
use lib.Ieee.Digits.{size-lt}

pub lt_of_squares : (a b : ℕ) → a * a < b * b → a < b
lt_of_squares a b h = lt_of_not-le (λ (g : b ≤ a). omega (arith, mul-le-mul g g))

-- s is the whole part of the root of n
abbrev Root : ℕ → ℕ → Type 0
Root s n = (s * s ≤ n) × (n < (s + 1) * (s + 1))

next_digit : (r n : ℕ) (b : Bool) → Root r (n / 4) → leb ((2 * r + 1) * (2 * r + 1)) n ≡ b → Root (cond b (2 * r + 1) (2 * r)) n
next_digit r n true h e = (leb-true _ _ e, omega (arith, h.1))
next_digit r n false h e = (omega (arith, h.0), leb-false _ _ e)

below_is_root : (k n : ℕ) → n < 2 ^ k → Root (root_below k n) n
unfolding root_below
below_is_root zero n h = omega arith
below_is_root (suc k) n h = next_digit (root_below k (n / 4)) n _ (below_is_root k (n / 4) (omega arith)) refl

-- twice a whole root, or the odd number between twice two neighbours
data Twice (n t : ℕ) : Type 0 where
  whole : (s : ℕ) → t ≡ 2 * s → s * s ≡ n → Twice n t
  between : (s : ℕ) → t ≡ 2 * s + 1 → s * s < n → n < (s + 1) * (s + 1) → Twice n t

pub strictly : {a b : ℕ} → a ≤ b → (a ≡ b → ⊥) → a < b
strictly h n = omega arith

is_twice : (n : ℕ) → Twice n (root_twice n)
unfolding root_twice
is_twice n =
    let s = root_below (size n) n in
    let r = below_is_root (size n) n (size-lt n) in
    go s r (eqb (s * s) n) refl
  where
    go : (s : ℕ) → Root s n → (b : Bool) → eqb (s * s) n ≡ b → Twice n (2 * s + cond b 0 1)
    go s r true e = whole s (omega arith) (eqb-true _ _ e)
    go s r false e = between s refl (strictly r.0 (eqb-false _ _ e)) r.1

-- ---- against even numbers
square-lt : (a b : ℕ) → a < b → a * a < b * b
square-lt a b h = omega (arith, mul-le-mul {n₁ = suc a} {m₁ = suc a} {n₂ = b} {m₂ = b} h h)

square_le : (a b : ℕ) → a ≤ b → a * a ≤ b * b
square_le a b h = mul-le-mul h h

pub under_even : (n c : ℕ) → root_twice n < 2 * c → n < c * c
under_even n c h =
    elim (is_twice n) [
      | whole s e q ↦ subst (λ (k : ℕ). k < c * c) q (square-lt s c (omega arith))
      | between s e l u ↦ omega (arith, square_le (s + 1) c (omega arith))
    ]

pub over_even : (n c : ℕ) → 2 * c < root_twice n → c * c < n
over_even n c h =
    elim (is_twice n) [
      | whole s e q ↦ subst (λ (k : ℕ). c * c < k) q (square-lt c s (omega arith))
      | between s e l u ↦ omega (arith, square_le c s (omega arith))
    ]

unless_less : (a b : ℕ) → (b < a → ⊥) → a ≤ b
unless_less a b h = omega arith

pub reaches_even : (n c : ℕ) → c * c ≤ n → 2 * c ≤ root_twice n
reaches_even n c h = unless_less (2 * c) (root_twice n) (λ g. omega (arith, under_even n c g))

pub stays_under_even : (n c : ℕ) → n < c * c → root_twice n < 2 * c
stays_under_even n c h =
    elim (is_twice n) [
      | whole s e q ↦ omega (arith, lt_of_squares s c (omega arith))
      | between s e l u ↦ omega (arith, lt_of_squares s c (omega arith))
    ]

-- ---- odd, or twice a whole root
pub odd_or_whole : (n : ℕ) → (root_twice n % 2 ≡ 1) ⊎ ((s : ℕ) × (root_twice n ≡ 2 * s) × (s * s ≡ n))
odd_or_whole n = elim (is_twice n) [ whole s e q ↦ inr (s, e, q) | between s e l u ↦ inl (omega arith) ]
