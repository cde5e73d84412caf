-- Each digit takes one place more; a byte that is no digit makes the whole text none.
use Rattle.std.proofs.Common.{◌≡◌, suc, ◌+◌, ◌*◌, ◌^◌, ◌<◌, true, false, cond, [], length, get_or, drop, Some, None, sym, ap, ◌∙◌, subst, add-one, arith, drop_of_length-le}
use Rattle.std.specs.Str.Parse.{digits_value, digits_value_after}
use Rattle.std.specs.Char.{digit_value}
use Rattle.text.specs.Patterns.{hexadecimal}
use Rattle.text.proofs.Digits.{hexadecimal_more, hexadecimal_not, value_more, digit_more, sixteen_fit}
use Rattle.text.proofs.number_of.Goals as goal

pub returns-in_err-digit : goal.returns-in_err-digit
returns-in_err-digit c =
    let digits = c.args.digits.now in
    let not_digit = subst (λ b. digit_value b < 16 → ⊥) c.from.ensures c.in_err-digit.ensures.value in
    let not-all : hexadecimal digits ≡ false = sym c.loop-byte.invariant.0 ∙ hexadecimal_not digits c.loop-byte.byte-index (omega arith) not_digit in
    c.from_residual.ensures ∙ sym (ap (λ b. cond b (Some (digits_value 16 digits)) None) not-all)

-- the digit that was read, and the number after it
read : (c : goal.After-from-in-loop-byte) → (digit_value (get_or c.args.digits.now c.loop-byte.byte-index 0) < 16)
    × (c.from-in-loop-byte.result ≡ digit_value (get_or c.args.digits.now c.loop-byte.byte-index 0))
    × (c.loop-byte.number * 16 + c.from-in-loop-byte.result < 16 ^ suc c.loop-byte.byte-index)
read c =
    let h = rw c.from.ensures at c.in_ok-digit.ensures.value in
    let is = c.from-in-loop-byte.ensures ∙ h.1 in
    (h.0, is, digit_more c.loop-byte.number c.from-in-loop-byte.result c.loop-byte.byte-index c.loop-byte.invariant.2 (omega arith))

pub overflow_mul-number : goal.overflow_mul-number
overflow_mul-number c = omega (arith, digit_more c.loop-byte.number 0 c.loop-byte.byte-index c.loop-byte.invariant.2 (omega arith), sixteen_fit (suc c.loop-byte.byte-index) (omega arith))

pub overflow_add-number : goal.overflow_add-number
overflow_add-number c = omega (arith, (read c).2, sixteen_fit (suc c.loop-byte.byte-index) (omega arith))

pub loop-byte-preserved : goal.loop-byte-preserved
loop-byte-preserved c =
    let digits = c.args.digits.now in
    let i = c.loop-byte.byte-index in
    let h = read c in
    let inside : i < length digits = omega arith in
    rw add-one (
      hexadecimal_more digits i inside h.0 ∙ c.loop-byte.invariant.0,
      ap (λ d. digits_value_after 16 (c.loop-byte.number * 16 + d) (drop (suc i) digits)) h.1 ∙ value_more digits i c.loop-byte.number inside ∙ c.loop-byte.invariant.1,
      h.2,
    )

pub returns : goal.returns
returns c =
    let digits = c.args.digits.now in
    let none : drop c.loop-byte.byte-index digits ≡ [] = drop_of_length-le digits (omega arith) in
    let all : hexadecimal digits ≡ true = sym c.loop-byte.invariant.0 ∙ ap hexadecimal none in
    let number : c.loop-byte.number ≡ digits_value 16 digits = sym (ap (digits_value_after 16 c.loop-byte.number) none) ∙ c.loop-byte.invariant.1 in
    ap Some number ∙ sym (ap (λ b. cond b (Some (digits_value 16 digits)) None) all)
