-- What `parse` answers of a word is the place that the word writes.
use Rattle.std.proofs.Common.{◌≡◌, ℕ, ◌^◌, ◌<◌, true, List, Ok, Err, Result, refl, ltb-true, lt-ltb}
use Rattle.std.specs.Result.{result_ok}
use Rattle.std.specs.Str.Parse.{ParsesUnsigned, IsNumeral, without_leading_plus, digits_value}
use Rattle.std.specs.Str.{all_ascii_digits}
use Rattle.std.proofs.lemmas.Bool.{and_from, and_parts, false_from_ne_true}
use Rattle.std.proofs.lemmas.Str.Parse.{IsNumeralModel, numerals_by_value, tells_all_ascii_digits}
use Rattle.script.specs.Lines.{is_place, place_of}

digits : IsNumeralModel (λ ds. all_ascii_digits ds ≡ true) (digits_value 10)
digits = numerals_by_value _ tells_all_ascii_digits

-- the word writes a number below 2^64 in decimal
abbrev Written : List ℕ → Type 0
Written word = IsNumeral 10 (without_leading_plus word) × (digits_value 10 (without_leading_plus word) < 2 ^ 64)

is_place_lem : (word : List ℕ) → Written word → is_place word ≡ true
is_place_lem word w = and_from _ _ (lt-ltb _ _ w.0.0) (and_from _ _ (digits.from (without_leading_plus word) w.0.1) (lt-ltb _ _ w.1))

from_place : (word : List ℕ) → is_place word ≡ true → Written word
from_place word e =
    let all = and_parts _ _ e in
    let rest = and_parts _ _ all.1 in
    ((ltb-true _ _ all.0, digits.to (without_leading_plus word) rest.0), ltb-true _ _ rest.1)

pub place_parsed : {E : Type 0} (word : List ℕ) (r : Result ℕ E) → ParsesUnsigned 64 10 word r → result_ok r ≡ place_of word
unfolding place_of
place_parsed word (Ok place) (w, e) = rw (is_place_lem word w, e) refl
place_parsed word (Err _) h = rw (false_from_ne_true (is_place word) (λ e. h (from_place word e))) refl
