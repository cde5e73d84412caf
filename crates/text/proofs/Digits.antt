-- A number is read digit by digit: what the digits so far write, followed by the digits to come, writes the whole.
use Rattle.std.proofs.Common.{eqb, append-nil, ◌≡◌, ℕ, zero, suc, ◌+◌, ◌*◌, ◌-◌, ◌/◌, ◌%◌, ◌^◌, ◌<◌, ◌≤◌, Bool, true, false, cond, ◌&&◌, T, ltb, List, [], ◌∷◌, ◌++◌, length, get_or, drop, set, Some, sym, refl, ap, ◌∙◌, subst, append_assoc, replicate, add-one, mod-lt, pow-suc, arith, length-append, drop-cons, lt-ltb, eq-eqb}
use native.Mathlib.Nat.{pow-le-pow_right}
use lib.Ieee.{Float, binary64, to_bits, fits}
use lib.Ieee.Bits.{of_bits-to_bits, to_bits-lt}
use Rattle.std.specs.Str.Parse.{digits_value, digits_value_after}
use Rattle.std.specs.Fmt.{digits, digits_onto, padded_integral, format_spec, char_count}
use Rattle.std.proofs.lemmas.Bool.{eqb-true}
use Rattle.std.proofs.lemmas.List.{replicate_more}
use Rattle.std.specs.Char.{digit_char, digit_value}
use Rattle.std.proofs.lemmas.Int.Digits.{digits_value_push}
use Rattle.std.proofs.lemmas.Str.{digit_value-digit_char}
use Rattle.std.proofs.lemmas.Bool.Decides.{nat_tests}
use Rattle.text.specs.Patterns.{hex_digits, hexadecimal, pattern_of, pattern_digits}

no_digit : (d : ℕ) → (d < 16 → ⊥) → ltb d 16 ≡ false
no_digit d h = grind (arith, nat_tests)

pub hexadecimal_more : (bs : List ℕ) (i : ℕ) → i < length bs → digit_value (get_or bs i 0) < 16 → hexadecimal (drop (suc i) bs) ≡ hexadecimal (drop i bs)
hexadecimal_more bs i within digit = sym (ap hexadecimal (drop-cons bs i 0 within) ∙ ap (λ b. b && hexadecimal (drop (suc i) bs)) (lt-ltb _ 16 digit))

pub hexadecimal_not : (bs : List ℕ) (i : ℕ) → i < length bs → (digit_value (get_or bs i 0) < 16 → ⊥) → hexadecimal (drop i bs) ≡ false
hexadecimal_not bs i within digit = ap hexadecimal (drop-cons bs i 0 within) ∙ ap (λ b. b && hexadecimal (drop (suc i) bs)) (no_digit _ digit)

pub value_more : (bs : List ℕ) (i n : ℕ) → i < length bs → digits_value_after 16 (n * 16 + digit_value (get_or bs i 0)) (drop (suc i) bs) ≡ digits_value_after 16 n (drop i bs)
value_more bs i n within = sym (ap (digits_value_after 16 n) (drop-cons bs i 0 within))

less_by_sixteen : (n d p : ℕ) → n < p → d < 16 → n * 16 + d < p * 16
less_by_sixteen n d p h k = omega arith

-- one digit more stays below the next power
pub digit_more : (n d i : ℕ) → n < 16 ^ i → d < 16 → n * 16 + d < 16 ^ suc i
digit_more n d i h k = subst (λ p. n * 16 + d < p) (sym (pow-suc 16 i)) (less_by_sixteen n d (16 ^ i) h k)

pub sixteen_fit : (i : ℕ) → i ≤ 16 → 16 ^ i ≤ 2 ^ 64
sixteen_fit i h = pow-le-pow_right (omega arith) h

hex_digits_suc : (i n : ℕ) → hex_digits (suc i) n ≡ hex_digits i (n / 16) ++ (digit_char (n % 16) ∷ [])
unfolding hex_digits
hex_digits_suc i n = refl

pub hex_digits-none : (n : ℕ) → hex_digits 0 n ≡ []
unfolding hex_digits
hex_digits-none n = refl

drop-set : (i : ℕ) (ds : List ℕ) (d : ℕ) → i < length ds → drop i (set ds i d) ≡ d ∷ drop (suc i) ds
drop-set zero [] d h = absurd (omega arith)
drop-set zero (x ∷ xs) d h = refl
drop-set (suc i) [] d h = absurd (omega arith)
drop-set (suc i) (x ∷ xs) d h = drop-set i xs d (omega arith)

-- one digit is written before those that stand
pub hex_digits_more : (i n : ℕ) (ds : List ℕ) → i < length ds → hex_digits i (n / 16) ++ drop i (set ds i (digit_char (n % 16))) ≡ hex_digits (suc i) n ++ drop (suc i) ds
hex_digits_more i n ds within =
    ap (λ l. hex_digits i (n / 16) ++ l) (drop-set i ds (digit_char (n % 16)) within)
    ∙ sym (ap (λ l. l ++ drop (suc i) ds) (hex_digits_suc i n) ∙ append_assoc (hex_digits i (n / 16)) (digit_char (n % 16) ∷ []) (drop (suc i) ds))

hex_digits-length : (k n : ℕ) → length (hex_digits k n) ≡ k
hex_digits-length zero n = ap length (hex_digits-none n)
hex_digits-length (suc k) n =
    ap length (hex_digits_suc k n) ∙ length-append (hex_digits k (n / 16)) (digit_char (n % 16) ∷ []) ∙ omega (arith, hex_digits-length k (n / 16))

both : (b x y : Bool) → (b && x) ≡ true → (x ≡ true → y ≡ true) → (b && y) ≡ true
both true x y h k = k h
both false x y h k = h

hexadecimal_push : (ds : List ℕ) (c : ℕ) → hexadecimal ds ≡ true → ltb (digit_value c) 16 ≡ true → hexadecimal (ds ++ (c ∷ [])) ≡ true
hexadecimal_push [] c h digit = rw digit
hexadecimal_push (d ∷ ds) c h digit = both (ltb (digit_value d) 16) (hexadecimal ds) (hexadecimal (ds ++ (c ∷ []))) h (λ e. hexadecimal_push ds c e digit)

digit_small : (n : ℕ) → digit_value (digit_char (n % 16)) < 16
digit_small n = let h : n % 16 < 16 = mod-lt n (omega arith) in subst (λ d. d < 16) (sym (digit_value-digit_char (n % 16) (omega arith))) h

hex_digits-hexadecimal : (k n : ℕ) → hexadecimal (hex_digits k n) ≡ true
hex_digits-hexadecimal zero n = ap hexadecimal (hex_digits-none n)
hex_digits-hexadecimal (suc k) n =
    ap hexadecimal (hex_digits_suc k n)
    ∙ hexadecimal_push (hex_digits k (n / 16)) (digit_char (n % 16)) (hex_digits-hexadecimal k (n / 16))
    (lt-ltb (digit_value (digit_char (n % 16))) 16 (digit_small n))

quotient_less : (n p : ℕ) → n < p * 16 → n / 16 < p
quotient_less n p h = omega arith

joined : (n q d : ℕ) → q ≡ n / 16 → d ≡ n % 16 → q * 16 + d ≡ n
joined n q d e h = omega arith

-- the digits of a number write that number
hex_digits-value : (k n : ℕ) → n < 16 ^ k → digits_value 16 (hex_digits k n) ≡ n
hex_digits-value zero n h = ap (digits_value 16) (hex_digits-none n) ∙ omega arith
hex_digits-value (suc k) n h =
    let small : n < 16 ^ k * 16 = subst (λ p. n < p) (pow-suc 16 k) h in
    let less : n / 16 < 16 ^ k = quotient_less n (16 ^ k) small in
    ap (digits_value 16) (hex_digits_suc k n) ∙ digits_value_push 16 (hex_digits k (n / 16)) (digit_char (n % 16))
    ∙ joined n _ _ (hex_digits-value k (n / 16) less) (digit_value-digit_char (n % 16) (omega arith))

-- what is written of a float is read as that float
pub pattern_back : (x : Float) → T (fits binary64 x) → pattern_of (pattern_digits x) ≡ Some x
unfolding pattern_of
pattern_back x fit =
    let n = to_bits binary64 x in
    rw (eq-eqb (length (hex_digits 16 n)) 16 (hex_digits-length 16 n), hex_digits-hexadecimal 16 n, hex_digits-value 16 n (to_bits-lt binary64 x fit), of_bits-to_bits binary64 x fit)

-- ---- what `{:016x}` writes

hex_digits-zero : (k : ℕ) → hex_digits k 0 ≡ replicate k 48
hex_digits-zero zero = hex_digits-none 0
hex_digits-zero (suc k) = hex_digits_suc k 0 ∙ ap (λ l. l ++ (48 ∷ [])) (hex_digits-zero k) ∙ replicate_more k 48 ∙ ap (λ n. replicate n 48) (add-one k)

-- the zeros that fill the digits up to k + 1 of them, and the digits
abbrev filled : ℕ → List ℕ → List ℕ → List ℕ
filled k ds acc = replicate (suc k + length acc - length ds) 48 ++ ds

short : (k n : ℕ) (acc : List ℕ) → n / 16 ≡ 0 → hex_digits (suc k) n ++ acc ≡ filled k (digit_char (n % 16) ∷ acc) acc
short k n acc e =
    let zeros : k ≡ suc k + length acc - length (digit_char (n % 16) ∷ acc) = omega arith in
    ap (λ l. l ++ acc) (hex_digits_suc k n ∙ ap (λ q. hex_digits k q ++ (digit_char (n % 16) ∷ [])) e ∙ ap (λ l. l ++ (digit_char (n % 16) ∷ [])) (hex_digits-zero k))
    ∙ append_assoc (replicate k 48) (digit_char (n % 16) ∷ []) acc
    ∙ ap (λ z. replicate z 48 ++ (digit_char (n % 16) ∷ acc)) zeros

last_digit : (f n : ℕ) (acc : List ℕ) → n / 16 ≡ 0 → digits_onto (suc f) 16 false n acc ≡ digit_char (n % 16) ∷ acc
last_digit f n acc e = ap (λ q. cond (eqb q 0) (digit_char (n % 16) ∷ acc) (digits_onto f 16 false q (digit_char (n % 16) ∷ acc))) e

next_digit : (f n : ℕ) (acc : List ℕ) → eqb (n / 16) 0 ≡ false → digits_onto (suc f) 16 false n acc ≡ digits_onto f 16 false (n / 16) (digit_char (n % 16) ∷ acc)
next_digit f n acc e = ap (λ b. cond b (digit_char (n % 16) ∷ acc) (digits_onto f 16 false (n / 16) (digit_char (n % 16) ∷ acc))) e

hex_step : (k f n : ℕ) (acc : List ℕ) (b : Bool) → eqb (n / 16) 0 ≡ b
    → hex_digits (suc k) (n / 16) ++ (digit_char (n % 16) ∷ acc) ≡ filled k (digits_onto f 16 false (n / 16) (digit_char (n % 16) ∷ acc)) (digit_char (n % 16) ∷ acc)
    → hex_digits (suc (suc k)) n ++ acc ≡ filled (suc k) (digits_onto (suc f) 16 false n acc) acc
hex_step k f n acc true e more =
    let none : n / 16 ≡ 0 = eqb-true (n / 16) 0 e in
    short (suc k) n acc none ∙ ap (λ ds. filled (suc k) ds acc) (sym (last_digit f n acc none))
hex_step k f n acc false e more =
    let d : ℕ = digit_char (n % 16) in
    let ds : List ℕ = digits_onto f 16 false (n / 16) (d ∷ acc) in
    let room : suc k + length (d ∷ acc) ≡ suc (suc k) + length acc = omega arith in
    ap (λ l. l ++ acc) (hex_digits_suc (suc k) n) ∙ append_assoc (hex_digits (suc k) (n / 16)) (d ∷ []) acc
    ∙ more ∙ ap (λ z. replicate (z - length ds) 48 ++ ds) room ∙ ap (λ l. filled (suc k) l acc) (sym (next_digit f n acc e))

hex_filled : (k f n : ℕ) (acc : List ℕ) → n < 16 ^ suc k → k ≤ f → hex_digits (suc k) n ++ acc ≡ filled k (digits_onto (suc f) 16 false n acc) acc
hex_filled zero f n acc small enough =
    let none : n / 16 ≡ 0 = omega arith in
    short 0 n acc none ∙ ap (λ ds. filled 0 ds acc) (sym (last_digit f n acc none))
hex_filled (suc k) zero n acc small enough = absurd (omega arith)
hex_filled (suc k) (suc f) n acc small enough =
    let less : n / 16 < 16 ^ suc k = quotient_less n (16 ^ suc k) (subst (λ p. n < p) (pow-suc 16 (suc k)) small) in
    hex_step k (suc f) n acc (eqb (n / 16) 0) refl (hex_filled k f (n / 16) (digit_char (n % 16) ∷ acc) less (omega arith))

padded_is : (ds : List ℕ) → padded_integral (format_spec 32 0 4 16 (2 ^ 64 - 1)) false [] ds ≡ replicate (16 - length ds) 48 ++ ds
unfolding padded_integral char_count
padded_is ds =
    let room : 16 - length ds - 0 - 0 ≡ 16 - length ds = omega arith in
    ap (λ n. replicate n 48 ++ (ds ++ [])) room ∙ ap (λ l. replicate (16 - length ds) 48 ++ l) (append-nil ds)

all_digits : (n : ℕ) → digits 16 false n ≡ digits_onto 64 16 false n []
unfolding digits
all_digits n = refl

pub hex_padded : (n : ℕ) → n < 2 ^ 64 → padded_integral (format_spec 32 0 4 16 (2 ^ 64 - 1)) false [] (digits 16 false n) ≡ hex_digits 16 n
hex_padded n small =
    padded_is (digits 16 false n) ∙ ap (λ ds. replicate (16 - length ds) 48 ++ ds) (all_digits n)
    ∙ sym (hex_filled 15 63 n [] small (omega arith)) ∙ append-nil (hex_digits 16 n)
