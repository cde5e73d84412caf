-- A text is cut at its first newline.
use Rattle.std.proofs.Common.{ℕ, List, Option, Bor, refl, arith}
use Rattle.std.proofs.lemmas.Str.Pattern.{split_once_first}
use Rattle.text.proofs.Cuts.{cut_either, lines_first, after_line_shorter}
use Rattle.text.proofs.split_line.Goals as goal

pub returns : goal.returns
returns c =
    let text = c.args.text.now in
    let o : Option (Bor (List ℕ) × Bor (List ℕ)) = c.split_once.result in
    let cut = cut_either text o _ _ (refl, refl) c.unwrap_or.ensures (split_once_first 10 text o c.split_once.ensures.cases (omega arith)) in
    record {
      line = cut.0;
      rest = cut.1;
      lines = rw cut.0 (rw cut.1 (lines_first text));
      shorter = rw cut.1 (after_line_shorter text);
    }
