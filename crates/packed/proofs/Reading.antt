-- Where the bits of a file are the digits of a field, reading the field gives its number; so what was written reads back.
use Rattle.std.proofs.Common.{◌≡◌, ℕ, zero, suc, ◌+◌, ◌-◌, ◌*◌, ◌/◌, ◌%◌, ◌^◌, ◌<◌, ◌≤◌, ◌⊎◌, List, [], ◌∷◌, ◌++◌, length, get_or, set, replicate, Ok, sym, refl, ap, ◌∙◌, subst, inl, inr, mod-eq_of_lt, mul_assoc, pow-suc, arith, length-append, get_or-set_other, get_or-set_same, pow_mono}
use native.Mathlib.Nat.{zero-div, mod-one, mul-mod_left, div-eq_of_lt}
use lib.Bits.{bit_or, or_zero_l, or_zero_r}
use lib.ListN.{length-replicate}
use Rattle.std.specs.List.{AllByRecursion as All}
use Rattle.std.proofs.lemmas.Nat.{pow-add, shl-shr, or_shr, or_mod, mod-pow-add, shl_below}
use Rattle.std.proofs.lemmas.List.{get_or_append_left, get_or-append_right}
use Rattle.std.proofs.lemmas.Bool.Decides.{eqb_tells, leb_tells}
use Rattle.packed.specs.Bits.{bit, field, field_at}
use Rattle.packed.specs.Packing.{digits_of, with_bit, with_digits}
use Rattle.packed.proofs.Fields.{field-none, field_more, read_inside}
use Rattle.packed.proofs.Writing.{digits_more, with_none, with_more, length-with-bit}

-- one digit beside another in a byte
binary_mod : (d : ℕ) → d < 2 → d % 2 ≡ d
binary_mod d h = omega arith

digit_same : (d a : ℕ) → d < 2 → d * 2 ^ a / 2 ^ a % 2 ≡ d
digit_same d a h = ap (λ n. n % 2) (shl-shr d a) ∙ binary_mod d h

digit_below : (d a b : ℕ) → d < 2 → a < b → d * 2 ^ a / 2 ^ b % 2 ≡ 0
digit_below d a b h less =
    let under : d * 2 ^ a < 2 ^ (1 + a) = shl_below d 1 a h in
    let up : 2 ^ (1 + a) ≤ 2 ^ b = pow_mono {i = 1 + a} {j = b} (omega arith) in
    let small : d * 2 ^ a < 2 ^ b = omega arith in
    ap (λ n. n % 2) (div-eq_of_lt small)

digit_above : (d j b : ℕ) → d * 2 ^ (suc j + b) / 2 ^ b % 2 ≡ 0
digit_above d j b =
    let whole : d * 2 ^ (suc j + b) ≡ (d * 2 ^ suc j) * 2 ^ b = ap (λ p. d * p) (pow-add 2 (suc j) b) ∙ sym (mul_assoc d (2 ^ suc j) (2 ^ b)) in
    let double : d * 2 ^ suc j ≡ (d * 2 ^ j) * 2 = ap (λ p. d * p) (pow-suc 2 j) ∙ sym (mul_assoc d (2 ^ j) 2) in
    ap (λ n. n / 2 ^ b % 2) whole ∙ ap (λ n. n % 2) (shl-shr (d * 2 ^ suc j) b ∙ double) ∙ mul-mod_left (d * 2 ^ j) 2

apart : (a b : ℕ) → (a ≡ b → ⊥) → (a < b) ⊎ ((j : ℕ) × (a ≡ suc j + b))
apart a b h = elim (leb_tells a b) [ inl p ↦ inl (omega (arith, p.1)) | inr p ↦ inr (a - suc b, omega (arith, p.1)) ]

digit_apart : (d a b : ℕ) → d < 2 → (a ≡ b → ⊥) → d * 2 ^ a / 2 ^ b % 2 ≡ 0
digit_apart d a b h ne = elim (apart a b ne) [ inl less ↦ digit_below d a b h less | inr p ↦ ap (λ k. d * 2 ^ k / 2 ^ b % 2) p.1 ∙ digit_above d p.0 b ]

or_digit : (x y b : ℕ) → bit_or x y / 2 ^ b % 2 ≡ bit_or (x / 2 ^ b % 2) (y / 2 ^ b % 2)
or_digit x y b = ap (λ n. n % 2) (or_shr x y b) ∙ or_mod (x / 2 ^ b) (y / 2 ^ b) 1

same_byte : (k at : ℕ) → (k ≡ at → ⊥) → k / 8 ≡ at / 8 → 7 - at % 8 ≡ 7 - k % 8 → ⊥
same_byte k at ne q m = ne (omega arith)

module _ (bytes : List ℕ) (at d : ℕ) (inside : at < 8 * length bytes) (binary : d < 2) where
  in_byte : at / 8 < length bytes
  in_byte = omega arith

  -- the digit is set where the bit was 0, and every other bit stays
  with_here : bit bytes at ≡ 0 → bit (with_bit bytes at d) at ≡ d
  unfolding bit with_bit
  with_here empty =
      let q : at / 8 < length bytes = in_byte in
      ap (λ x. x / 2 ^ (7 - at % 8) % 2) (get_or-set_same bytes (at / 8) (bit_or (get_or bytes (at / 8) 0) (d * 2 ^ (7 - at % 8))) 0 q)
      ∙ or_digit (get_or bytes (at / 8) 0) (d * 2 ^ (7 - at % 8)) (7 - at % 8)
      ∙ ap (λ x. bit_or x (d * 2 ^ (7 - at % 8) / 2 ^ (7 - at % 8) % 2)) empty
      ∙ ap (bit_or 0) (digit_same d (7 - at % 8) binary)
      ∙ or_zero_l d

  pub with_other : (k : ℕ) → (k ≡ at → ⊥) → bit (with_bit bytes at d) k ≡ bit bytes k
  unfolding bit with_bit
  with_other k ne =
      let q : at / 8 < length bytes = in_byte in
      let x = get_or bytes (at / 8) 0 in
      let y = d * 2 ^ (7 - at % 8) in
      elim (eqb_tells (k / 8) (at / 8)) [
        | inl same ↦
            ap (λ i. get_or (set bytes (at / 8) (bit_or x y)) i 0 / 2 ^ (7 - k % 8) % 2) same.1
            ∙ ap (λ z. z / 2 ^ (7 - k % 8) % 2) (get_or-set_same bytes (at / 8) (bit_or x y) 0 q)
            ∙ or_digit x y (7 - k % 8)
            ∙ ap (bit_or (x / 2 ^ (7 - k % 8) % 2)) (digit_apart d (7 - at % 8) (7 - k % 8) binary (same_byte k at ne same.1))
            ∙ or_zero_r (x / 2 ^ (7 - k % 8) % 2)
            ∙ ap (λ i. get_or bytes i 0 / 2 ^ (7 - k % 8) % 2) (sym same.1)
        | inr other ↦ ap (λ z. z / 2 ^ (7 - k % 8) % 2) (get_or-set_other bytes (at / 8) (k / 8) (bit_or x y) 0 (λ e. other.1 e))
      ]

-- digits set at `at` leave the bits before it
with_before : (bytes : List ℕ) (at : ℕ) (ds : List ℕ) → All (λ d. d < 2) ds → at + length ds ≤ 8 * length bytes → (k : ℕ) → k < at → bit (with_digits bytes at ds) k ≡ bit bytes k
with_before bytes at [] binary inside k before = ap (λ b. bit b k) (with_none bytes at)
with_before bytes at (d ∷ ds) binary inside k before =
    let room : suc at + length ds ≤ 8 * length (with_bit bytes at d) = rw (length-with-bit bytes at d) (omega arith) in
    ap (λ b. bit b k) (with_more bytes at d ds)
    ∙ with_before (with_bit bytes at d) (suc at) ds binary.1 room k (omega arith)
    ∙ with_other bytes at d (omega arith) binary.0 k (omega arith)

past_next : (at k : ℕ) → suc at ≤ k → (k ≡ at → ⊥) × (at ≤ k)
past_next at k h = (omega arith, omega arith)

-- set from `at` on where all is 0, they are the bits from there on, with zeros after them
with-after : (bytes : List ℕ) (at : ℕ) (ds : List ℕ) → All (λ d. d < 2) ds → at + length ds ≤ 8 * length bytes → ((k : ℕ) → at ≤ k → bit bytes k ≡ 0) → (j : ℕ) → bit (with_digits bytes at ds) (at + j) ≡ get_or ds j 0
with-after bytes at [] binary inside empty j = ap (λ b. bit b (at + j)) (with_none bytes at) ∙ empty (at + j) (omega arith)
with-after bytes at (d ∷ ds) binary inside empty zero =
    let room : suc at + length ds ≤ 8 * length (with_bit bytes at d) = rw (length-with-bit bytes at d) (omega arith) in
    let here : at + 0 ≡ at = omega arith in
    ap (bit (with_digits bytes at (d ∷ ds))) here
    ∙ ap (λ b. bit b at) (with_more bytes at d ds)
    ∙ with_before (with_bit bytes at d) (suc at) ds binary.1 room at (omega arith)
    ∙ with_here bytes at d (omega arith) binary.0 (empty at (omega arith))
with-after bytes at (d ∷ ds) binary inside empty (suc j) =
    let room : suc at + length ds ≤ 8 * length (with_bit bytes at d) = rw (length-with-bit bytes at d) (omega arith) in
    let there : at + suc j ≡ suc at + j = omega arith in
    ap (bit (with_digits bytes at (d ∷ ds))) there
    ∙ ap (λ b. bit b (suc at + j)) (with_more bytes at d ds)
    ∙ with-after (with_bit bytes at d) (suc at) ds binary.1 room
    (λ k h. with_other bytes at d (omega arith) binary.0 k (past_next at k h).0 ∙ empty k (past_next at k h).1) j

get_or_blank : (n i : ℕ) → ◌≡◌ {A = ℕ} (get_or (replicate n 0) i 0) 0
get_or_blank zero zero = refl
get_or_blank zero (suc i) = refl
get_or_blank (suc n) zero = refl
get_or_blank (suc n) (suc i) = get_or_blank n i

bit-blank : (n k : ℕ) → bit (replicate n 0) k ≡ 0
unfolding bit
bit-blank n k = ap (λ b. b / 2 ^ (7 - k % 8) % 2) (get_or_blank n (k / 8)) ∙ ap (λ m. m % 2) (zero-div (2 ^ (7 - k % 8)))

-- the bits of a file in which digits were set from its start are these digits, with zeros after them
pub written-bits : (n : ℕ) (ds : List ℕ) → All (λ d. d < 2) ds → length ds ≤ 8 * n → (k : ℕ) → bit (with_digits (replicate n 0) 0 ds) k ≡ get_or ds k 0
written-bits n ds binary inside k =
    let here : k ≡ 0 + k = omega arith in
    ap (bit (with_digits (replicate n 0) 0 ds)) here
    ∙ with-after (replicate n 0) 0 ds binary (rw (length-replicate {A = ℕ} n 0) (omega arith)) (λ j h. bit-blank n j) k

-- from bit p on, the bits are these digits
abbrev pub Spells : List ℕ → ℕ → List ℕ → Type 0
Spells bytes p ds = (j : ℕ) → j < length ds → bit bytes (p + j) ≡ get_or ds j 0

pub first_part : (bytes : List ℕ) (p : ℕ) (xs ys : List ℕ) → Spells bytes p (xs ++ ys) → Spells bytes p xs
first_part bytes p xs ys h j inside = h j (rw (length-append xs ys) (omega arith)) ∙ get_or_append_left xs ys 0 j inside

pub second_part : (bytes : List ℕ) (p : ℕ) (xs ys : List ℕ) (n : ℕ) → length xs ≡ n → Spells bytes p (xs ++ ys) → Spells bytes (p + n) ys
second_part bytes p xs ys n long h j inside =
    let place : p + n + j ≡ p + (n + j) = omega arith in
    let back : n + j - n ≡ j = omega arith in
    ap (bit bytes) place
    ∙ h (n + j) (rw (length-append xs ys) (omega arith))
    ∙ get_or-append_right xs ys n (n + j) 0 long (omega arith)
    ∙ ap (λ i. get_or ys i 0) back

-- a field by its first bit
more_front : (b p f d : ℕ) → 2 * (b * p + f) + d ≡ b * (p * 2) + (2 * f + d)
more_front b p f d = grind arith

field-front : (bytes : List ℕ) (p w : ℕ) → field bytes p (suc w) ≡ bit bytes p * 2 ^ w + field bytes (suc p) w
field-front bytes p zero =
    let here : p + 0 ≡ p = omega arith in
    field_more bytes p 0 ∙ ap (λ n. 2 * n + bit bytes (p + 0)) (field-none bytes p) ∙ ap (λ k. 2 * 0 + bit bytes k) here
    ∙ (let e : 2 * 0 + bit bytes p ≡ bit bytes p * 1 + 0 = omega arith in e)
    ∙ ap (λ n. bit bytes p * 2 ^ 0 + n) (sym (field-none bytes (suc p)))
field-front bytes p (suc w) =
    let place : p + suc w ≡ suc p + w = omega arith in
    field_more bytes p (suc w)
    ∙ ap (λ n. 2 * n + bit bytes (p + suc w)) (field-front bytes p w)
    ∙ ap (λ k. 2 * (bit bytes p * 2 ^ w + field bytes (suc p) w) + bit bytes k) place
    ∙ more_front (bit bytes p) (2 ^ w) (field bytes (suc p) w) (bit bytes (suc p + w))
    ∙ ap (λ q. bit bytes p * q + (2 * field bytes (suc p) w + bit bytes (suc p + w))) (sym (pow-suc 2 w))
    ∙ ap (λ n. bit bytes p * 2 ^ suc w + n) (sym (field_more bytes (suc p) w))

field_digits : (bytes : List ℕ) (p w n : ℕ) → Spells bytes p (digits_of w n) → field bytes p w ≡ n % 2 ^ w
field_digits bytes p zero n h = field-none bytes p ∙ sym (mod-one n)
field_digits bytes p (suc w) n h =
    let whole : Spells bytes p ((n / 2 ^ w % 2) ∷ digits_of w n) = subst (Spells bytes p) (digits_more w n) h in
    let here : p ≡ p + 0 = omega arith in
    let first : bit bytes p ≡ n / 2 ^ w % 2 = ap (bit bytes) here ∙ whole 0 (omega arith) in
    let rest : Spells bytes (suc p) (digits_of w n) = λ j inside. ap (bit bytes) (let e : suc p + j ≡ p + suc j = omega arith in e) ∙ whole (suc j) (omega arith) in
    let next : suc w ≡ 1 + w = omega arith in
    field-front bytes p w
    ∙ ap (λ b. b * 2 ^ w + field bytes (suc p) w) first
    ∙ ap (λ f. (n / 2 ^ w % 2) * 2 ^ w + f) (field_digits bytes (suc p) w n rest)
    ∙ sym (ap (λ k. n % 2 ^ k) next ∙ mod-pow-add n 1 w)

-- the number of a field is read where its digits are written
pub reads_field : (bytes : List ℕ) (p w n : ℕ) → length bytes ≤ 65536 → p + w ≤ 8 * length bytes → n < 2 ^ w → Spells bytes p (digits_of w n) → field_at bytes p w ≡ Ok n
reads_field bytes p w n short inside small h = read_inside bytes p w short inside ∙ ap Ok (field_digits bytes p w n h ∙ mod-eq_of_lt small)
