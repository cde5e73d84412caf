use Rattle.std.proofs.Common.{◌-◌, set, sym, ap, ◌∙◌, ⊎_elim}
use borrow.Rule.Slice.PartMut.{put_mid}
use Rattle.rows.proofs.Rotations.{take_out_by_rotation}
use Rattle.rows.proofs.Changes.{take_out_place, take_out_above, take_out_past}
use Rattle.rows.proofs.take_out.Goals as goal

pub returns-then-count-row : goal.returns-then-count-row
returns-then-count-row g c =
    let row = c.args.row.now in
    let count = c.args.count in
    let place = c.args.place in
    let last = c.index-row-count.result in
    ap (λ part. set (put_mid place (count - place) row part) (count - 1) last) c.rotate_left.ensures.after ∙ take_out_by_rotation row count place c.if-place-count.true c.if-count-row.true last c.index-row-count.is ∙ sym (take_out_place row count place c.if-place-count.true c.if-count-row.true)

pub returns-else-place-count : goal.returns-else-place-count
returns-else-place-count g c =
    ⊎_elim
    (λ h. sym (take_out_past c.args.row.now c.args.count c.args.place h.1))
    (λ h. sym (take_out_above c.args.row.now c.args.count c.args.place h))
    c.else-place-count.either
