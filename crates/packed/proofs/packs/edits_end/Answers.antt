use Rattle.std.proofs.Common.{◌+◌, ◌<◌, ◌≤◌, length, suc, drop, add_assoc, sym, ap, ◌∙◌, subst, add-one, arith, drop_of_length-le}
use Rattle.std.proofs.lemmas.List.{take_all}
use Rattle.std.specs.List.{AllByRecursion as All}
use Rattle.std.proofs.ByRecursion.{All-more}
use Rattle.packed.specs.Packing.{packed_end, edits_digits, Fitting}
use Rattle.packed.proofs.Writing.{end_none, end_misplaced, end_long, end_more, edits_none, length_edits_from}
use Rattle.packed.proofs.packs.edits_end.Goals as goal

pub returns-then-not-fits-clause-end : goal.returns-then-not-fits-clause-end
returns-then-not-fits-clause-end c =
    sym (end_misplaced c.args.edits.now c.loop-edit.edit-index _ c.loop-edit.at c.loop-edit-test.true (sym c.if-not-fits.ensures.value))
    ∙ c.loop-edit.invariant.0

pub returns-then-at-gt-MOST_BITS-clause-end : goal.returns-then-at-gt-MOST_BITS-clause-end
returns-then-at-gt-MOST_BITS-clause-end c =
    sym (
    end_long c.args.edits.now c.loop-edit.edit-index _ c.loop-edit.at c.loop-edit-test.true (sym c.if-not-fits.ensures.value)
    (subst (λ w. 524288 < c.loop-edit.at + w) c.width-at.ensures c.if-at-gt-MOST_BITS.true)
    )
    ∙ c.loop-edit.invariant.0

pub loop-edit-preserved : goal.loop-edit-preserved
loop-edit-preserved c =
    let edits = c.args.edits.now in
    let i = c.loop-edit.edit-index in
    let inside = c.loop-edit-test.true in
    let fits = sym c.if-not-fits.ensures.value in (
      rw (add-one, c.width-at.ensures)
          (sym (end_more edits i _ c.loop-edit.at inside fits (subst (λ w. c.loop-edit.at + w ≤ 524288) c.width-at.ensures c.if-at-gt-MOST_BITS.false))
          ∙ c.loop-edit.invariant.0),
      c.if-at-gt-MOST_BITS.false,
      rw (add-one, c.width-at.ensures)
          (add_assoc c.loop-edit.at _ (length (edits_digits (drop (suc i) edits)))
          ∙ ap (λ n. c.loop-edit.at + n) (sym (length_edits_from edits i _ inside)) ∙ c.loop-edit.invariant.2),
      All-more Fitting edits i _ inside c.loop-edit.invariant.3 (fits, c.if-not-fits.ensures.floats),
    )

pub returns : goal.returns
returns c =
    let none = drop_of_length-le c.args.edits.now {i = c.loop-edit.edit-index} (omega arith) in
    record {
      end = sym (ap (packed_end c.loop-edit.at) none ∙ end_none c.loop-edit.at) ∙ c.loop-edit.invariant.0;
      near = (c.loop-edit.invariant.1, omega (arith, ap (λ es. length (edits_digits es)) none, ap length edits_none, c.loop-edit.invariant.2));
      fitting = subst (All Fitting) (take_all c.loop-edit.edit-index c.args.edits.now (omega arith)) c.loop-edit.invariant.3;
    }
