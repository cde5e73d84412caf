-- Decimal numbers as text, as Rust's `parse` reads them. Assumes nothing.
use Rattle.std.specs.Prelude.{◌≡◌, ℕ, ◌^◌, ◌<◌, List, pos, is_some, Some, Option, Float}
use Rattle.std.specs.Float.{binary64}
use Rattle.std.specs.Float.Ieee.{of_int}
use Rattle.std.specs.Float.Parse.{is_float_text}
use Rattle.std.specs.Str.Parse.{IsNumeral, without_leading_plus, digits_value}

-- What is known of the answer: it is refused just where the text is no number, and a whole number below 2^64 is rounded to the nearest float.
-- Open: the value read of a text with a sign, a point or an exponent.
pub record ReadsDecimal (text : List ℕ) (answer : Option Float) : Type 0 where
  pub accepted : is_some answer ≡ is_float_text text
  pub whole : IsNumeral 10 (without_leading_plus text) → digits_value 10 (without_leading_plus text) < 2 ^ 64 → answer ≡ Some (of_int binary64 (pos (digits_value 10 (without_leading_plus text))))
