-- A bit is a binary digit of the number that the bytes write, by induction on the bytes; a field is one digit more, so it is that number's digits, by induction on the width.
use Rattle.std.proofs.Common.{◌≡◌, ℕ, zero, suc, ◌+◌, ◌-◌, ◌*◌, ◌/◌, ◌%◌, ◌^◌, ◌<◌, ◌⊎◌, List, [], ◌∷◌, length, get_or, sym, ap, ◌∙◌, subst, inl, inr, mul_assoc, add_comm, pow-suc, arith}
use native.Mathlib.Nat.{mod-one, add-mul-mod_self_right, add-mul-div_right}
use Rattle.std.proofs.lemmas.Nat.{pow_pos, pow-add, shr-shr, shr_high, mul-add-lt, mod-pow-add}
use Rattle.std.proofs.lemmas.Bool.Decides.{leb_tells}
use Rattle.packed.specs.Bits.{bit, field}
use Rattle.packed.specs.Numbers.{number, Bytes, FieldsAreNumbers}
use Rattle.packed.proofs.Fields.{field-none, field_more}

grown : (b p r : ℕ) → b < 256 → r < p → b * p + r < 256 * p
grown b p r h k = omega (arith, mul-add-lt b p r 256 h k)

eight_more : (n : ℕ) → 2 ^ (8 * suc n) ≡ 256 * 2 ^ (8 * n)
eight_more n = ap (λ k. 2 ^ k) (let e : 8 * suc n ≡ 8 + 8 * n = omega arith in e) ∙ pow-add 2 8 (8 * n)

-- the number stays below the power that its length allows
pub number_below : (bytes : List ℕ) → Bytes bytes → number bytes < 2 ^ (8 * length bytes)
unfolding number
number_below [] h = omega arith
number_below (b ∷ rest) h =
    subst (λ p. b * 2 ^ (8 * length rest) + number rest < p) (sym (eight_more (length rest)))
    (grown b (2 ^ (8 * length rest)) (number rest) (h 0) (number_below rest (λ i. h (suc i))))

-- a digit of the first byte
digit_high : (b p r j : ℕ) → r < 2 ^ p → (b * 2 ^ p + r) / 2 ^ (p + j) ≡ b / 2 ^ j
digit_high b p r j h = sym (shr-shr (b * 2 ^ p + r) p j) ∙ ap (λ q. q / 2 ^ j) (shr_high b p r h)

-- a digit past the first byte
digit_low : (b r i j : ℕ) → (b * 2 ^ (suc i + j) + r) / 2 ^ j % 2 ≡ r / 2 ^ j % 2
digit_low b r i j =
    let whole : b * 2 ^ (suc i + j) ≡ (b * 2 ^ suc i) * 2 ^ j = ap (λ p. b * p) (pow-add 2 (suc i) j) ∙ sym (mul_assoc b (2 ^ suc i) (2 ^ j)) in
    let part : (b * 2 ^ (suc i + j) + r) / 2 ^ j ≡ r / 2 ^ j + b * 2 ^ suc i =
    ap (λ x. x / 2 ^ j) (ap (λ x. x + r) whole ∙ add_comm (b * 2 ^ suc i * 2 ^ j) r) ∙ add-mul-div_right r (b * 2 ^ suc i) (pow_pos j) in
    let double : b * 2 ^ suc i ≡ (b * 2 ^ i) * 2 = ap (λ p. b * p) (pow-suc 2 i) ∙ sym (mul_assoc b (2 ^ i) 2) in
    ap (λ x. x % 2) (part ∙ ap (λ x. r / 2 ^ j + x) double) ∙ add-mul-mod_self_right (r / 2 ^ j) (b * 2 ^ i) 2

-- the bits of the first byte, and those of the others
bit_first : (b : ℕ) (rest : List ℕ) (k : ℕ) → k < 8 → bit (b ∷ rest) k ≡ b / 2 ^ (7 - k) % 2
unfolding bit
bit_first b rest k h =
    let q : k / 8 ≡ 0 = omega arith in
    let m : k % 8 ≡ k = omega arith in
    ap (λ i. get_or (b ∷ rest) i 0 / 2 ^ (7 - k % 8) % 2) q ∙ ap (λ i. b / 2 ^ (7 - i) % 2) m

pub bit_later : (b : ℕ) (rest : List ℕ) (k : ℕ) → bit (b ∷ rest) (8 + k) ≡ bit rest k
unfolding bit
bit_later b rest k =
    let q : (8 + k) / 8 ≡ suc (k / 8) = omega arith in
    let m : (8 + k) % 8 ≡ k % 8 = omega arith in
    ap (λ i. get_or (b ∷ rest) i 0 / 2 ^ (7 - (8 + k) % 8) % 2) q ∙ ap (λ i. get_or rest (k / 8) 0 / 2 ^ (7 - i) % 2) m

first_or_later : (k : ℕ) → (k < 8) ⊎ ((j : ℕ) × (k ≡ 8 + j))
first_or_later k = elim (leb_tells 8 k) [ inl h ↦ inr (k - 8, omega (arith, h.1)) | inr h ↦ inl h.1 ]

bit_is : (bytes : List ℕ) → Bytes bytes → (k : ℕ) → k < 8 * length bytes → bit bytes k ≡ number bytes / 2 ^ (8 * length bytes - suc k) % 2
unfolding number
bit_is [] h k inside = absurd (omega arith)
bit_is (b ∷ rest) h k inside =
    elim (first_or_later k) [
      | inl early ↦
          let place : 8 * length (b ∷ rest) - suc k ≡ 8 * length rest + (7 - k) = omega arith in
          bit_first b rest k early
          ∙ sym (
          ap (λ e. (b * 2 ^ (8 * length rest) + number rest) / 2 ^ e % 2) place
          ∙ ap (λ x. x % 2) (digit_high b (8 * length rest) (number rest) (7 - k) (number_below rest (λ i. h (suc i))))
          )
      | inr late ↦
          let j : ℕ = late.0 in
          let left : ℕ = 8 * length rest - suc j in
          let place : 8 * length (b ∷ rest) - suc k ≡ left = omega (arith, late.1) in
          let all : suc j + left ≡ 8 * length rest = omega (arith, late.1) in
          ap (bit (b ∷ rest)) late.1 ∙ bit_later b rest j ∙ bit_is rest (λ i. h (suc i)) j (omega (arith, late.1))
          ∙ sym (
          ap (λ e. (b * 2 ^ (8 * length rest) + number rest) / 2 ^ e % 2) place
          ∙ ap (λ e. (b * 2 ^ e + number rest) / 2 ^ left % 2) (sym all)
          ∙ digit_low b (number rest) j left
          )
    ]

-- one digit more of the number M
digit_more : (M w f d : ℕ) → f ≡ M / 2 ^ 1 % 2 ^ w → d ≡ M % 2 → 2 * f + d ≡ M % 2 ^ suc w
digit_more M w f d e k =
    let p : M % 2 ^ (w + 1) ≡ (M / 2 ^ 1 % 2 ^ w) * 2 ^ 1 + M % 2 ^ 1 = mod-pow-add M w 1 in
    let q : M % 2 ^ suc w ≡ M % 2 ^ (w + 1) = ap (λ x. M % 2 ^ x) (let s : suc w ≡ w + 1 = omega arith in s) in
    ap (λ x. 2 * x + d) e ∙ ap (λ x. 2 * (M / 2 ^ 1 % 2 ^ w) + x) k
    ∙ (let r : 2 * (M / 2 ^ 1 % 2 ^ w) + M % 2 ≡ (M / 2 ^ 1 % 2 ^ w) * 2 ^ 1 + M % 2 ^ 1 = omega arith in r) ∙ sym p ∙ sym q

pub fields_are_numbers : FieldsAreNumbers
fields_are_numbers bytes at zero h inside = field-none bytes at ∙ sym (mod-one (number bytes / 2 ^ (8 * length bytes - (at + 0))))
fields_are_numbers bytes at (suc w) h inside =
    let j : ℕ = 8 * length bytes - (at + suc w) in
    let before : 8 * length bytes - (at + w) ≡ j + 1 = omega arith in
    let last : 8 * length bytes - suc (at + w) ≡ j = omega arith in
    field_more bytes at w
    ∙ digit_more (number bytes / 2 ^ j) w (field bytes at w) (bit bytes (at + w))
    (
    fields_are_numbers bytes at w h (omega arith)
    ∙ ap (λ e. number bytes / 2 ^ e % 2 ^ w) before
    ∙ ap (λ q. q % 2 ^ w) (sym (shr-shr (number bytes) j 1))
    )
    (bit_is bytes h (at + w) (omega arith) ∙ ap (λ e. number bytes / 2 ^ e % 2) last)
