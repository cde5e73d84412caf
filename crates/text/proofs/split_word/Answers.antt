-- A trimmed text is cut where its first word ends.
use Rattle.std.proofs.Common.{◌≡◌, ℕ, ◌<◌, Bool, false, not, List, get_or, take, drop, sym, ap, ◌∙◌, subst, arith}
use Rattle.std.specs.Char.{is_ascii_whitespace}
use Rattle.std.specs.List.{prefix_len, position_or_len}
use Rattle.std.specs.Str.{IsCharBoundary}
use Rattle.std.proofs.lemmas.Bool.Decides.{nat_tests}
use Rattle.std.proofs.lemmas.List.Sums.{prefix_len-le-length, prefix_len_stops}
use Rattle.std.proofs.lemmas.Str.Ascii.{trim_ascii_start_is}
use Rattle.text.specs.Words.{trimmed, first_word, after_word}
use Rattle.text.proofs.split_word.Goals as goal

white_ascii : (c : ℕ) → not (is_ascii_whitespace c) ≡ false → c < 128
white_ascii c h = grind (arith, nat_tests)

word_ends : (bs : List ℕ) → IsCharBoundary bs (position_or_len is_ascii_whitespace bs)
word_ends bs =
    let dark : ℕ → Bool = λ c. not (is_ascii_whitespace c) in
    (prefix_len-le-length dark bs, λ h wide. absurd (omega (arith, white_ascii (get_or bs (prefix_len dark bs) 0) (prefix_len_stops dark bs 0 h))))

pub split_at-requires : goal.split_at-requires
split_at-requires c =
    let t = c.trim_ascii_start-from_word.result.now in
    subst (IsCharBoundary t) (sym (c.word_len.ensures ∙ ap (position_or_len is_ascii_whitespace) c.as_bytes.ensures.value)) (word_ends t)

pub returns : goal.returns
unfolding first_word after_word
returns c =
    let trims = trim_ascii_start_is c.args.text.now _ c.trim_ascii_start-from_word.ensures.value in
    let t = trimmed c.args.text.now in
    let at : c.word_len.result ≡ position_or_len is_ascii_whitespace t = c.word_len.ensures ∙ ap (position_or_len is_ascii_whitespace) (c.as_bytes.ensures.value ∙ trims) in
    record {
      word = c.split_at.ensures.front ∙ ap (take c.word_len.result) trims ∙ ap (λ n. take n t) at;
      rest = c.split_at.ensures.back ∙ ap (drop c.word_len.result) trims ∙ ap (λ n. drop n t) at;
    }
