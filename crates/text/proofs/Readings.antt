-- Patterns read word by word: what the words to come make of the floats, all words make of them.
use Rattle.std.proofs.Common.{◌≡◌, ℕ, suc, ◌+◌, ◌-◌, ◌<◌, ◌≤◌, List, [], ◌∷◌, ◌++◌, length, take, Some, None, Option, Float, refl, sym, ap, ◌∙◌, append_assoc, arith}
use Rattle.std.proofs.Math.ListN.{set}
use Rattle.std.proofs.Math.Nat.{sub-zero}
use Rattle.std.proofs.lemmas.List.{append-nil, take_all, take_more_set}
use Rattle.text.specs.Patterns.{pattern_of}
use Rattle.text.specs.Rows.{joined, patterns_of, after_words}
use Rattle.text.specs.Words.{first_word, after_word}

-- the floats read before the others
abbrev pub after_those : List Float → Option (List Float) → Option (List Float)
after_those xs None = None
after_those xs (Some ys) = Some (xs ++ ys)

after_none : (row : Option (List Float)) → after_those [] row ≡ row
after_none None = refl
after_none (Some ys) = refl

after_joined : (xs : List Float) (x : Float) (row : Option (List Float)) → after_those xs (joined (Some x) row) ≡ after_those (xs ++ x ∷ []) row
after_joined xs x None = refl
after_joined xs x (Some ys) = rw append_assoc

-- what the first n words are, told from the first k of them and from the words of `rest`
pub record Follows (n k : ℕ) (text rest : List ℕ) (xs : List Float) : Type 0 where
  pub read : patterns_of n text ≡ after_those xs (patterns_of (n - k) rest)
  pub left : after_words n text ≡ after_words (n - k) rest

pub none_read : (n : ℕ) (text : List ℕ) → Follows n 0 text text []
none_read n text = record {
  read = ap (λ m. patterns_of m text) (sym (sub-zero n)) ∙ sym (after_none (patterns_of (n - 0) text));
  left = ap (λ m. after_words m text) (sym (sub-zero n));
}

one_more : (n k : ℕ) → k < n → n - k ≡ suc (n - (k + 1))
one_more n k h = omega arith

pub one_read : (n k : ℕ) (text rest : List ℕ) (xs : List Float) (x : Float) → k < n → length xs ≡ n → Some x ≡ pattern_of (first_word rest) → Follows n k text rest (take k xs) → Follows n (k + 1) text (after_word rest) (take (k + 1) (set xs k x))
one_read n k text rest xs x h len read follows =
    let others : Option (List Float) = patterns_of (n - (k + 1)) (after_word rest) in
    record {
      read = follows.read
          ∙ ap (λ m. after_those (take k xs) (patterns_of m rest)) (one_more n k h)
          ∙ ap (λ o. after_those (take k xs) (joined o others)) (sym read)
          ∙ after_joined (take k xs) x others
          ∙ ap (λ l. after_those l others) (sym (take_more_set xs k x (omega arith)));
      left = follows.left ∙ ap (λ m. after_words m rest) (one_more n k h);
    }

pub none_here : (n k : ℕ) (text rest : List ℕ) (xs : List Float) → k < n → None ≡ pattern_of (first_word rest) → Follows n k text rest xs → patterns_of n text ≡ None
none_here n k text rest xs h read follows =
    follows.read
    ∙ ap (λ m. after_those xs (patterns_of m rest)) (one_more n k h)
    ∙ ap (λ o. after_those xs (joined o (patterns_of (n - (k + 1)) (after_word rest)))) (sym read)

pub all_read : (n k : ℕ) (text rest : List ℕ) (xs : List Float) → n ≤ k → length xs ≡ n → Follows n k text rest (take k xs) → (patterns_of n text ≡ Some xs) × (rest ≡ after_words n text)
all_read n k text rest xs h len follows =
    let e : n - k ≡ 0 = omega arith in (
      follows.read
          ∙ ap (λ m. after_those (take k xs) (patterns_of m rest)) e
          ∙ ap Some (append-nil (take k xs) ∙ take_all k xs (omega arith)),
      sym (follows.left ∙ ap (λ m. after_words m rest) e),
    )
