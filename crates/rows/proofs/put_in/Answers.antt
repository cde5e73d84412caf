use Rattle.std.proofs.Common.{◌+◌, ◌-◌, set, sym, ap, ◌∙◌, ⊎_elim}
use borrow.Rule.Slice.PartMut.{put_mid}
use Rattle.rows.proofs.Rotations.{put_in_by_rotation}
use Rattle.rows.proofs.Changes.{put_in_place, put_in_above, put_in_full}
use Rattle.rows.proofs.put_in.Goals as goal

pub returns-then-count-row : goal.returns-then-count-row
returns-then-count-row g c =
    let row = c.args.row.now in
    let count = c.args.count in
    let place = c.args.place in
    let item = c.args.item in
    ap (put_mid place (count + 1 - place) (set row count item)) c.rotate_right.ensures.after ∙ put_in_by_rotation row count place item c.if-place-count.true c.if-count-row.true ∙ sym (put_in_place row count place item c.if-place-count.true c.if-count-row.true)

pub returns-else-place-count : goal.returns-else-place-count
returns-else-place-count g c =
    ⊎_elim
    (λ h. sym (put_in_full c.args.row.now c.args.count c.args.place c.args.item h.1))
    (λ h. sym (put_in_above c.args.row.now c.args.count c.args.place c.args.item h))
    c.else-place-count.either
