-- Where no word is left, every point was offered.
use Rattle.std.proofs.Common.{◌≡◌, ◌+◌, ◌-◌, false, eqb, length, sym, ap, ◌∙◌, arith, rules, true-eqb}
use Rattle.functions.specs.Series.{series}
use Rattle.geodesic.specs.Answers.{edge_of}
use Rattle.text.specs.Words.{first_word, after_word}
use Rattle.vectors_inverse.specs.Outlines.{fed_words, offered_words}
use Rattle.vectors_inverse.proofs.Fed.{fed_done, fed-none, fed_more, offered_first}
use Rattle.vectors_inverse.proofs.outlines.feed.Goals as goal

pub returns-then-is_empty : goal.returns-then-is_empty
returns-then-is_empty c =
    let edge = edge_of series c.args.polygon.now.surface.shape in
    let none : length (first_word c.loop.rest.now) ≡ 0 =
    sym (ap length c.split_word.ensures.word) ∙ true-eqb (length c.split_word.result.0.now) 0 c.if-is_empty.ensures in
    record {
      traverse = sym (fed_done edge _ c.loop.rest.now c.loop.polygon.traverse none) ∙ c.loop.invariant.0;
      surface = c.loop.invariant.1;
      winding = c.loop.invariant.2;
    }

pub loop-preserved : goal.loop-preserved
loop-preserved c =
    let edge = edge_of series c.args.polygon.now.surface.shape in
    let rest = c.loop.rest.now in
    let t = c.loop.polygon.traverse in
    let n = length c.args.text.now in
    let same-edge : edge_of series c.loop.polygon.surface.shape ≡ edge = ap (λ s. edge_of series s.shape) c.loop.invariant.1 in
    let some_word : eqb (length (first_word rest)) 0 ≡ false = ap (λ w. eqb (length w) 0) (sym c.split_word.ensures.word) ∙ sym c.if-is_empty.ensures in
    let lat = c.split_word.ensures.word in
    let lon : c.split_word-in-loop.result.0.now ≡ first_word (after_word rest) = c.split_word-in-loop.ensures.word ∙ ap first_word c.split_word.ensures.rest in
    let later : c.split_word-in-loop.result.1.now ≡ after_word (after_word rest) = c.split_word-in-loop.ensures.rest ∙ ap after_word c.split_word.ensures.rest in
    let offered : c.offer.new.polygon.traverse ≡ offered_first edge rest t =
    c.offer.ensures.traverse
    ∙ ap (λ e. offered_words e t c.split_word.result.0.now c.split_word-in-loop.result.0.now) same-edge
    ∙ ap (λ w. offered_words edge t w c.split_word-in-loop.result.0.now) lat
    ∙ ap (λ w. offered_words edge t (first_word rest) w) lon in (
      ap (λ w. fed_words edge (n - (c.loop.counter + 1)) w c.offer.new.polygon.traverse) later
          ∙ ap (fed_words edge (n - (c.loop.counter + 1)) (after_word (after_word rest))) offered
          ∙ fed_more edge n c.loop.counter rest t (omega arith) some_word
          ∙ c.loop.invariant.0,
      c.offer.ensures.surface ∙ c.loop.invariant.1,
      c.offer.ensures.winding ∙ c.loop.invariant.2,
      search rules,
    )

pub returns : goal.returns
returns c =
    let edge = edge_of series c.args.polygon.now.surface.shape in
    record {
      traverse = sym (fed-none edge (length c.args.text.now) c.loop.counter c.loop.rest.now c.loop.polygon.traverse (omega arith)) ∙ c.loop.invariant.0;
      surface = c.loop.invariant.1;
      winding = c.loop.invariant.2;
    }
