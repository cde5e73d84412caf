-- A field grows bit by bit: a bit is 0 or 1, so a field of w bits is below 2^w.
use Rattle.std.proofs.Common.{◌≡◌, ℕ, zero, suc, ◌+◌, ◌-◌, ◌*◌, ◌/◌, ◌%◌, ◌^◌, ◌<◌, ◌≤◌, List, length, get_or, Some, None, Ok, sym, refl, ap, ◌∙◌, subst, pow-suc, arith, le-ltb, eq-eqb, ne_eqb, le-leb, inl, inr, Option, MatchOption}
use Rattle.std.proofs.lemmas.Nat.{mod_below}
use Rattle.std.proofs.lemmas.Bool.Decides.{eqb_tells}
use Rattle.packed.specs.Bits.{bit, field, field_at}
use Rattle.packed.specs.Sheets.{first_one}

pub bit_below : (bytes : List ℕ) (k : ℕ) → bit bytes k < 2
unfolding bit
bit_below bytes k = mod_below (get_or bytes (k / 8) 0 / 2 ^ (7 - k % 8)) 2 (omega arith)

pub field-none : (bytes : List ℕ) (at : ℕ) → field bytes at 0 ≡ 0
unfolding field
field-none bytes at = refl

pub field_more : (bytes : List ℕ) (at width : ℕ) → field bytes at (suc width) ≡ 2 * field bytes at width + bit bytes (at + width)
unfolding field
field_more bytes at width = refl

doubled_below : (n b p : ℕ) → n < p → b < 2 → 2 * n + b < p * 2
doubled_below n b p h k = omega arith

pub one_more_below : (n b w : ℕ) → n < 2 ^ w → b < 2 → 2 * n + b < 2 ^ suc w
one_more_below n b w h k = subst (λ p. 2 * n + b < p) (sym (pow-suc 2 w)) (doubled_below n b (2 ^ w) h k)

pub field_below : (bytes : List ℕ) (at width : ℕ) → field bytes at width < 2 ^ width
field_below bytes at zero = subst (λ n. n < 1) (sym (field-none bytes at)) (omega arith)
field_below bytes at (suc width) =
    subst (λ n. n < 2 ^ suc width) (sym (field_more bytes at width))
    (one_more_below (field bytes at width) (bit bytes (at + width)) width (field_below bytes at width) (bit_below bytes (at + width)))

-- a field within a file that is not too long is read
pub read_inside : (bytes : List ℕ) (at width : ℕ) → length bytes ≤ 65536 → at + width ≤ 8 * length bytes → field_at bytes at width ≡ Ok (field bytes at width)
unfolding field_at
read_inside bytes at width short inside = rw (le-ltb 65536 (length bytes) short, le-leb (at + width) (8 * length bytes) inside)

-- the search for a one, bit by bit
pub first_none : (bytes : List ℕ) (at : ℕ) → first_one bytes at 0 ≡ None
unfolding first_one
first_none bytes at = refl

pub first_here : (bytes : List ℕ) (at count : ℕ) → bit bytes at ≡ 1 → first_one bytes at (suc count) ≡ Some at
unfolding first_one
first_here bytes at count one = rw (eq-eqb (bit bytes at) 1 one)

pub first_later : (bytes : List ℕ) (at count : ℕ) → (bit bytes at ≡ 1 → ⊥) → first_one bytes at (suc count) ≡ first_one bytes (suc at) count
unfolding first_one
first_later bytes at count other = rw (ne_eqb (bit bytes at) 1 other)

pub none_found : (bytes : List ℕ) (at count : ℕ) → ((k : ℕ) → at ≤ k → k < at + count → bit bytes k ≡ 1 → ⊥) → None ≡ first_one bytes at count
none_found bytes at zero h = sym (first_none bytes at)
none_found bytes at (suc count) h =
    none_found bytes (suc at) count (λ k l m. h k (omega arith) (omega arith)) ∙ sym (first_later bytes at count (h at (omega arith) (omega arith)))

pub one_found : (bytes : List ℕ) (at count i : ℕ) → at ≤ i → i < at + count → bit bytes i ≡ 1 → ((k : ℕ) → at ≤ k → k < i → bit bytes k ≡ 1 → ⊥) → Some i ≡ first_one bytes at count
one_found bytes at zero i low high one none = absurd (omega arith)
one_found bytes at (suc count) i low high one none =
    elim (eqb_tells i at) [
      | inl same ↦ ap Some same.1 ∙ sym (first_here bytes at count (ap (bit bytes) (sym same.1) ∙ one))
      | inr other ↦
          let past : at < i = omega (arith, other.1) in
          one_found bytes (suc at) count i past (omega arith) one (λ k l m. none k (omega arith) m) ∙ sym (first_later bytes at count (none at (omega arith) past))
    ]

-- the first place of a range that holds a one
pub found : (bytes : List ℕ) (at count : ℕ) (r : Option ℕ)
    → MatchOption r ((k : ℕ) → at ≤ k → k < at + count → bit bytes k ≡ 1 → ⊥) (λ i. (at ≤ i) × (i < at + count) × (bit bytes i ≡ 1) × ((k : ℕ) → at ≤ k → k < i → bit bytes k ≡ 1 → ⊥))
    → r ≡ first_one bytes at count
found bytes at count None h = none_found bytes at count h
found bytes at count (Some i) h = one_found bytes at count i h.0 h.1 h.2 h.3
