-- Numbers read word by word.
use Rattle.std.proofs.Common.{◌≡◌, ℕ, zero, suc, ◌+◌, ◌-◌, ◌<◌, ◌≤◌, Bool, true, false, cond, List, [], ◌∷◌, ◌++◌, length, take, Some, None, Option, Float, refl, sym, subst, append_assoc, arith}
use Rattle.std.specs.Bool.{then_some}
use Rattle.std.specs.Float.{binary64}
use Rattle.std.specs.Float.Parse.{parse_float}
use Rattle.std.proofs.Math.ListN.{set}
use Rattle.std.proofs.Math.Nat.{sub-zero}
use Rattle.std.proofs.lemmas.List.{append-nil, take_all, take_more_set}
use Rattle.std.proofs.lemmas.Float.Parse.{is_some-parse_float, parse_float-IsNumeral}
use Rattle.text.specs.Decimals.{ReadsDecimal}
use Rattle.text.specs.Words.{first_word, after_word}
use Rattle.script.specs.Numbers.{absent, joined, ReadsNumbers}

reads_decimal : (word : List ℕ) → ReadsDecimal word (parse_float binary64 word)
reads_decimal word = record { accepted = is_some-parse_float binary64 word; whole = λ n _. parse_float-IsNumeral binary64 word n }

-- every text answers something
some_numbers : (n : ℕ) (words : List ℕ) → (answer : Option (List Float)) × ReadsNumbers n words answer
unfolding ReadsNumbers
some_numbers zero words = (_, refl)
some_numbers (suc n) words =
    let rest = some_numbers n (after_word words) in
    let x = parse_float binary64 (first_word words) in
    (joined x rest.0, (x, rest.0, reads_decimal (first_word words), rest.1, refl))

-- the numbers read before the others
abbrev pub after_those : List Float → Option (List Float) → Option (List Float)
after_those xs None = None
after_those xs (Some ys) = Some (xs ++ ys)

-- what the words of `rest` make of the last n - k numbers, all words make of n numbers
abbrev pub Follows : (n k : ℕ) (words rest : List ℕ) (xs : List Float) → Type 0
Follows n k words rest xs = (answer : Option (List Float)) → ReadsNumbers (n - k) rest answer → ReadsNumbers n words (after_those xs answer)

after_none : (answer : Option (List Float)) → after_those [] answer ≡ answer
after_none None = refl
after_none (Some ys) = refl

after_joined : (xs : List Float) (x : Float) (answer : Option (List Float)) → after_those xs (joined (Some x) answer) ≡ after_those (xs ++ x ∷ []) answer
after_joined xs x None = refl
after_joined xs x (Some ys) = rw append_assoc

pub none_read : (n : ℕ) (words : List ℕ) → Follows n 0 words words []
unfolding ReadsNumbers
none_read n words answer h = rw (after_none answer) (rw (sub-zero n) at h)

-- one word more, before k other words of n
one_more : (n k : ℕ) (words : List ℕ) (x : Option Float) (rest : Option (List Float)) → k < n → ReadsDecimal (first_word words) x → ReadsNumbers (n - (k + 1)) (after_word words) rest → ReadsNumbers (n - k) words (joined x rest)
unfolding ReadsNumbers
one_more n k words x rest h read others =
    let e : n - k ≡ suc (n - (k + 1)) = omega arith in
    subst (λ m. ReadsNumbers m words (joined x rest)) (sym e) (x, rest, read, others, refl)

pub one_read : (n k : ℕ) (words rest : List ℕ) (xs : List Float) (x : Float) → k < n → length xs ≡ n → ReadsDecimal (first_word rest) (Some x) → Follows n k words rest (take k xs) → Follows n (k + 1) words (after_word rest) (take (k + 1) (set xs k x))
one_read n k words rest xs x h len read follows answer others =
    rw (take_more_set xs k x (omega arith), ← after_joined (take k xs) x answer) (follows (joined (Some x) answer) (one_more n k rest (Some x) answer h read others))

pub none_here : (n k : ℕ) (words rest : List ℕ) (xs : List Float) → k < n → ReadsDecimal (first_word rest) None → Follows n k words rest xs → ReadsNumbers n words None
none_here n k words rest xs h read follows =
    let others = some_numbers (n - (k + 1)) (after_word rest) in
    follows None (one_more n k rest None others.0 h read others.1)

after_all : (xs : List Float) (alone : Bool) → after_those xs (cond alone (Some []) None) ≡ then_some alone xs
after_all xs true = rw (append-nil xs) refl
after_all xs false = refl

pub all_read : (n k : ℕ) (words rest : List ℕ) (xs : List Float) → n ≤ k → length xs ≡ n → Follows n k words rest (take k xs) → ReadsNumbers n words (then_some (absent (first_word rest)) xs)
unfolding ReadsNumbers
all_read n k words rest xs h len follows =
    let e : n - k ≡ 0 = omega arith in
    let last : ReadsNumbers (n - k) rest (cond (absent (first_word rest)) (Some []) None) = subst (λ m. ReadsNumbers m rest (cond (absent (first_word rest)) (Some []) None)) (sym e) refl in
    rw (← after_all xs (absent (first_word rest))) (rw (take_all k xs (omega arith)) at (follows _ last))
