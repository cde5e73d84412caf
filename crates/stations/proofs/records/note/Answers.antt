use Rattle.std.proofs.Common.{◌≡◌, ◌-◌, length, sym, ap, ◌∙◌}
use Rattle.rows.specs.Rows.{put_in, take_out}
use Rattle.stations.proofs.Noting.{noted_room, noted-full, count_room, count_full}
use Rattle.stations.proofs.records.note.Goals as goal

pub returns-then-count-room : goal.returns-then-count-room
returns-then-count-room c =
    let row = c.args.edits.now in
    record {
      row = c.put_in.ensures ∙ sym (noted_room row c.args.count c.args.edit c.if-count-room.true);
      count = sym (count_room row c.args.count c.if-count-room.true);
    }

pub returns : goal.returns
returns c =
    let row = c.args.edits.now in
    let last = c.saturating_sub-last.result in
    let put : put_in c.take_out.new.row last last c.args.edit ≡ put_in (take_out row (length row) 0) (length row - 1) (length row - 1) c.args.edit =
    ap (λ l. put_in l last last c.args.edit) c.take_out.ensures ∙ ap (λ n. put_in (take_out row (length row) 0) n n c.args.edit) c.saturating_sub-last.ensures in
    record {
      row = c.put_in-2.ensures ∙ put ∙ sym (noted-full row c.args.count c.args.edit c.if-count-room.false);
      count = sym (count_full row c.args.count c.if-count-room.false);
    }
