-- A line from its first word on says what the line says.
use Rattle.std.proofs.Common.{◌≡◌, ℕ, zero, suc, Bool, true, false, List, [], ◌∷◌, drop, take, not, Option, Float, arith, refl, ap, subst}
use Rattle.std.specs.Char.{is_ascii_whitespace}
use Rattle.std.specs.List.{prefix_len, before_first}
use Rattle.text.specs.Words.{trimmed, first_word, after_word}
use Rattle.text.specs.Decimals.{ReadsDecimal}
use Rattle.script.specs.Lines.{silent}
use Rattle.script.specs.Numbers.{ReadsNumbers}

prefix_more : (p : ℕ → Bool) (c : ℕ) (cs : List ℕ) → p c ≡ true → prefix_len p (c ∷ cs) ≡ suc (prefix_len p cs)
prefix_more p c cs h = rw h (omega arith)

trimmed_white : (c : ℕ) (cs : List ℕ) → is_ascii_whitespace c ≡ true → trimmed (c ∷ cs) ≡ trimmed cs
trimmed_white c cs h = ap (λ n. drop n (c ∷ cs)) (prefix_more is_ascii_whitespace c cs h)

trimmed_dark : (c : ℕ) (cs : List ℕ) → is_ascii_whitespace c ≡ false → trimmed (c ∷ cs) ≡ c ∷ cs
trimmed_dark c cs h = rw h refl

trimmed_step : (c : ℕ) (cs : List ℕ) (b : Bool) → is_ascii_whitespace c ≡ b → trimmed (trimmed cs) ≡ trimmed cs → trimmed (trimmed (c ∷ cs)) ≡ trimmed (c ∷ cs)
trimmed_step c cs true e more = rw (trimmed_white c cs e) more
trimmed_step c cs false e more = ap trimmed (trimmed_dark c cs e)

pub trimmed_again : (line : List ℕ) → trimmed (trimmed line) ≡ trimmed line
trimmed_again [] = refl
trimmed_again (c ∷ cs) = trimmed_step c cs (is_ascii_whitespace c) refl (trimmed_again cs)

silent_dark : (c : ℕ) (cs : List ℕ) → is_ascii_whitespace c ≡ false → silent (before_first is_ascii_whitespace (c ∷ cs)) ≡ silent (c ∷ cs)
silent_dark c cs h = ap (λ n. silent (take n (c ∷ cs))) (prefix_more (λ x. not (is_ascii_whitespace x)) c cs (rw h refl))

silent_step : (c : ℕ) (cs : List ℕ) (b : Bool) → is_ascii_whitespace c ≡ b → silent (before_first is_ascii_whitespace (trimmed cs)) ≡ silent (trimmed cs) → silent (before_first is_ascii_whitespace (trimmed (c ∷ cs))) ≡ silent (trimmed (c ∷ cs))
silent_step c cs true e more = rw (trimmed_white c cs e) more
silent_step c cs false e more = rw (trimmed_dark c cs e) (silent_dark c cs e)

silent_both : (line : List ℕ) → silent (before_first is_ascii_whitespace (trimmed line)) ≡ silent (trimmed line)
silent_both [] = refl
silent_both (c ∷ cs) = silent_step c cs (is_ascii_whitespace c) refl (silent_both cs)

pub silent_trimmed : (line : List ℕ) → silent (first_word line) ≡ silent (trimmed line)
unfolding first_word
silent_trimmed line = silent_both line

first_again : (line : List ℕ) → first_word (trimmed line) ≡ first_word line
unfolding first_word
first_again line = ap (before_first is_ascii_whitespace) (trimmed_again line)

after_again : (line : List ℕ) → after_word (trimmed line) ≡ after_word line
unfolding after_word
after_again line = rw (trimmed_again line) refl

pub numbers_trimmed : (n : ℕ) (line : List ℕ) (answer : Option (List Float)) → ReadsNumbers n (trimmed line) answer → ReadsNumbers n line answer
unfolding ReadsNumbers
numbers_trimmed zero line answer h = rw (first_again line) at h
numbers_trimmed (suc n) line answer (x, rest, read, others, e) =
    (x, rest, subst (λ w. ReadsDecimal w x) (first_again line) read, subst (λ w. ReadsNumbers n w rest) (after_again line) others, e)
