-- Digits are set one by one, so those of one field after those of another are the digits of both; the length of the bytes stays.
use Rattle.std.proofs.Common.{◌≡◌, ℕ, zero, suc, ◌+◌, ◌-◌, ◌*◌, ◌/◌, ◌%◌, ◌^◌, ◌<◌, ◌≤◌, true, false, List, [], ◌∷◌, ◌++◌, length, get_or, drop, Ok, Err, sym, refl, ap, ◌∙◌, subst, Bool, arith, length-append, length-set, drop-cons, le-leb}
use borrow.Author.Tests.{lt-leb}
use lib.Bits.{bit_or}
use Rattle.std.specs.Int.{from_bool}
use Rattle.std.proofs.lemmas.Nat.{shl_whole}
use Rattle.packed.specs.declared.bits.BitWriter.{BitWriter}
use Rattle.packed.specs.declared.packs.PackFault.TheVariants.{Place, TooLong}
use Rattle.packed.specs.declared.sheets.Edit.{Edit}
use Rattle.packed.specs.declared.sheets.Edit.TheVariants.{Add, Move, Drop, TakeBack}
use Rattle.packed.specs.declared.sheets.Header.{Header}
use Rattle.packed.specs.Packing.{digits_of, header_digits, edit_digits, edits_digits, width_of, with_bit, with_digits, Writes, signed_bit, place_fits, packed_end}

-- a digit shifted within a byte loses nothing
pub digit_shifted : (d k : ℕ) → d < 2 → k ≤ 7 → (d * 2 ^ k) % 256 ≡ d * 2 ^ k
digit_shifted d k small near = shl_whole d 1 k 8 small (omega arith)

pub digits_more : (w n : ℕ) → digits_of (suc w) n ≡ (n / 2 ^ w % 2) ∷ digits_of w n
unfolding digits_of
digits_more w n = refl

pub digits_none : (n : ℕ) → digits_of 0 n ≡ []
unfolding digits_of
digits_none n = refl

pub with_none : (bytes : List ℕ) (at : ℕ) → with_digits bytes at [] ≡ bytes
unfolding with_digits
with_none bytes at = refl

pub with_more : (bytes : List ℕ) (at d : ℕ) (ds : List ℕ) → with_digits bytes at (d ∷ ds) ≡ with_digits (with_bit bytes at d) (suc at) ds
unfolding with_digits
with_more bytes at d ds = refl

pub with_append : (bytes : List ℕ) (at : ℕ) (xs ys : List ℕ) → with_digits bytes at (xs ++ ys) ≡ with_digits (with_digits bytes at xs) (at + length xs) ys
unfolding with_digits
with_append bytes at [] ys = ap (λ k. with_digits bytes k ys) (let e : at ≡ at + 0 = omega arith in e)
with_append bytes at (x ∷ xs) ys =
    with_append (with_bit bytes at x) (suc at) xs ys
    ∙ ap (λ k. with_digits (with_digits (with_bit bytes at x) (suc at) xs) k ys) (let e : suc at + length xs ≡ at + suc (length xs) = omega arith in e)

pub length_digits : (w n : ℕ) → length (digits_of w n) ≡ w
unfolding digits_of
length_digits zero n = refl
length_digits (suc w) n = ap suc (length_digits w n)

pub length-with-bit : (bytes : List ℕ) (at d : ℕ) → length (with_bit bytes at d) ≡ length bytes
unfolding with_bit
length-with-bit bytes at d = length-set bytes (at / 8) (bit_or (get_or bytes (at / 8) 0) (d * 2 ^ (7 - at % 8)))

pub length-with : (bytes : List ℕ) (at : ℕ) (ds : List ℕ) → length (with_digits bytes at ds) ≡ length bytes
unfolding with_digits
length-with bytes at [] = refl
length-with bytes at (d ∷ ds) =
    length-with (with_bit bytes at d) (suc at) ds
    ∙ length-with-bit bytes at d

-- where edits end
pub end_none : (at : ℕ) → packed_end at [] ≡ Ok at
unfolding packed_end
end_none at = refl

pub end_misplaced : (es : List Edit) (i : ℕ) (d : Edit) (at : ℕ) → i < length es → place_fits (get_or es i d) ≡ false → packed_end at (drop i es) ≡ Err Place
unfolding packed_end
end_misplaced es i d at h out = ap (packed_end at) (drop-cons es i d h) ∙ rw out

pub end_long : (es : List Edit) (i : ℕ) (d : Edit) (at : ℕ) → i < length es → place_fits (get_or es i d) ≡ true → 524288 < at + width_of (get_or es i d) → packed_end at (drop i es) ≡ Err TooLong
unfolding packed_end
end_long es i d at h fits past = ap (packed_end at) (drop-cons es i d h) ∙ rw (fits, lt-leb (at + width_of (get_or es i d)) 524288 past)

pub end_more : (es : List Edit) (i : ℕ) (d : Edit) (at : ℕ) → i < length es → place_fits (get_or es i d) ≡ true → at + width_of (get_or es i d) ≤ 524288 → packed_end at (drop i es) ≡ packed_end (at + width_of (get_or es i d)) (drop (suc i) es)
unfolding packed_end
end_more es i d at h fits inside = ap (packed_end at) (drop-cons es i d h) ∙ rw (fits, le-leb (at + width_of (get_or es i d)) 524288 inside)

-- what is written after other digits is written with them
pub then_writes : (u v w : BitWriter) (xs ys : List ℕ) → Writes u xs v → Writes v ys w → Writes u (xs ++ ys) w
then_writes u v w xs ys h k =
    record {
      bytes =
          k.bytes ∙ ap (λ x. with_digits x v.at ys) h.bytes ∙ ap (λ n. with_digits (with_digits u.bytes.items u.at xs) n ys) h.next
          ∙ sym (with_append u.bytes.items u.at xs ys);
      next = omega (arith, h.next, k.next, length-append xs ys);
      room = k.room ∙ h.room;
    }

-- likewise after a field, whose number is known by another name
pub last_field : (u v : BitWriter) (width m n : ℕ) → m ≡ n → Writes u (digits_of width m) v → Writes u (digits_of width n) v
last_field u v width m n e h = subst (λ z. Writes u (digits_of width z) v) e h

pub then_field : (u v w : BitWriter) (width m n : ℕ) (ys : List ℕ) → m ≡ n → Writes u (digits_of width m) v → Writes v ys w → Writes u (digits_of width n ++ ys) w
then_field u v w width m n ys e h k = then_writes u v w (digits_of width n) ys (last_field u v width m n e h) k

pub length_edit : (e : Edit) → length (edit_digits e) ≡ width_of e
unfolding edit_digits
length_edit (Add lat lon) = simp (length-append, length_digits)
length_edit (Move place lat lon) = simp (length-append, length_digits)
length_edit (Drop place) = simp (length-append, length_digits)
length_edit TakeBack = length_digits 2 3

pub edits_more : (e : Edit) (es : List Edit) → edits_digits (e ∷ es) ≡ edit_digits e ++ edits_digits es
unfolding edits_digits
edits_more e es = refl

pub edits_none : edits_digits [] ≡ []
unfolding edits_digits
edits_none = refl

pub edits_from : (es : List Edit) (i : ℕ) (d : Edit) → i < length es → edits_digits (drop i es) ≡ edit_digits (get_or es i d) ++ edits_digits (drop (suc i) es)
edits_from es i d h = ap edits_digits (drop-cons es i d h) ∙ edits_more (get_or es i d) (drop (suc i) es)

pub length_edits_from : (es : List Edit) (i : ℕ) (d : Edit) → i < length es → length (edits_digits (drop i es)) ≡ width_of (get_or es i d) + length (edits_digits (drop (suc i) es))
length_edits_from es i d h =
    ap length (edits_from es i d h) ∙ length-append (edit_digits (get_or es i d)) (edits_digits (drop (suc i) es))
    ∙ ap (λ n. n + length (edits_digits (drop (suc i) es))) (length_edit (get_or es i d))

-- one edit more was written
pub edit_written : (es : List Edit) (i : ℕ) (d : Edit) (u v : BitWriter) → i < length es → Writes u (edit_digits (get_or es i d)) v → (with_digits v.bytes.items v.at (edits_digits (drop (suc i) es)) ≡ with_digits u.bytes.items u.at (edits_digits (drop i es))) × (v.at + length (edits_digits (drop (suc i) es)) ≡ u.at + length (edits_digits (drop i es)))
edit_written es i d u v h s =
    let e = edit_digits (get_or es i d) in
    let rest = edits_digits (drop (suc i) es) in (
      ap (λ x. with_digits x v.at rest) s.bytes ∙ ap (λ k. with_digits (with_digits u.bytes.items u.at e) k rest) s.next
          ∙ sym (with_append u.bytes.items u.at e rest) ∙ ap (with_digits u.bytes.items u.at) (sym (edits_from es i d h)),
      omega (arith, s.next, length_edit (get_or es i d), length_edits_from es i d h),
    )

-- the edit that is next lies inside where all do
pub edit_inside : (es : List Edit) (i : ℕ) (d : Edit) (at start room : ℕ) → i < length es → at + length (edits_digits (drop i es)) ≡ start + length (edits_digits es) → start + length (edits_digits es) ≤ room → at + width_of (get_or es i d) ≤ room
edit_inside es i d at start room h e inside = omega (arith, length_edits_from es i d h)

pub sign_is : (b : Bool) → from_bool b ≡ signed_bit b
sign_is true = refl
sign_is false = refl

pub length-header : (h : Header) → length (header_digits h) ≡ 24
unfolding header_digits digits_of
length-header h = refl
