-- The word ends at the first white byte, or with the text.
use Rattle.std.proofs.Common.{◌≡◌, ℕ, ◌+◌, true, false, cond, not, List, ◌∷◌, refl, sym, ap, ◌∙◌, arith, rules, tests}
use Rattle.std.specs.Char.{is_ascii_whitespace}
use Rattle.std.specs.List.{position_or_len}
use Rattle.std.proofs.lemmas.Iterator.{IsFirst-from_position, YieldsList-from_slice, index_from_first}
use Rattle.text.proofs.word_len.Goals as goal

abbrev white_at : List ℕ → ℕ
white_at bs = position_or_len is_ascii_whitespace bs

abbrev White : ℕ → Type 0
White c = is_ascii_whitespace c ≡ true

abbrev Dark : ℕ → Type 0
Dark c = is_ascii_whitespace c ≡ false

ends : (c : ℕ) (cs : List ℕ) → White c → white_at (c ∷ cs) ≡ 0
ends c cs h = ap (λ b. cond (not b) (1 + white_at cs) 0) h

continues : (c : ℕ) (cs : List ℕ) → Dark c → white_at (c ∷ cs) ≡ white_at cs + 1
continues c cs h = ap (λ b. cond (not b) (1 + white_at cs) 0) h ∙ omega arith

pub returns : goal.returns
returns c =
    let bs = c.args.bytes.now in
    let first = IsFirst-from_position _ _ c.position.result White Dark c.position.ensures.ran (YieldsList-from_slice bs cc) (λ x q k. search (rules, tests)) (λ x q k. search (rules, tests)) in
    c.unwrap_or.ensures ∙ sym (index_from_first white_at White Dark refl ends continues bs c.position.result first)
