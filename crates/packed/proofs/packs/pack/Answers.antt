use Rattle.std.proofs.Common.{◌≡◌, ◌++◌, length, replicate, Ok, vec_items, vec_len, sym, refl, ap, ◌∙◌, subst, inr, arith, rules, eq-eqb, ne_eqb}
use Rattle.packed.specs.Packing.{packed_sheet, edits_digits, header_digits, with_digits, bytes_for, sheet_bytes, ReadsBack}
use Rattle.packed.proofs.Exits.{leaves}
use Rattle.packed.proofs.RoundTrip.{sheet_reads_back, rounded_up, room}
use Rattle.packed.proofs.Writing.{then_writes, length-header}
use Rattle.packed.proofs.packs.pack.Goals as goal

pub returns-then-edits-from-clause-bytes : goal.returns-then-edits-from-clause-bytes
unfolding packed_sheet
returns-then-edits-from-clause-bytes c =
    inr (rw (ne_eqb (length c.args.edits.now) c.args.header.edits (λ e. c.if-edits-from.true (e ∙ sym c.from.ensures))) refl)

pub returns-in_err-end-clause-bytes : goal.returns-in_err-end-clause-bytes
unfolding packed_sheet
returns-in_err-end-clause-bytes c =
    rw (leaves c.from_residual.result c.in_err-end.field-0.0 c.from_residual.ensures.1)
    (inr (rw (eq-eqb (length c.args.edits.now) c.args.header.edits (c.if-edits-from.false ∙ c.from.ensures), ← c.in_err-end.ensures.end)))

pub edits-requires : goal.edits-requires
edits-requires c =
    let near = c.in_ok-end.ensures.near in
    let blank = c.in_ok-writer.ensures in
    let h = room (vec_len c.in_ok-writer.writer.bytes) c.in_ok-end.end (blank.2 ∙ c.div_ceil.ensures ∙ rounded_up c.in_ok-end.end) near.0 in
    omega (arith, near.1, h.1, blank.1, c.header.ensures.next, length-header c.args.header, c.header.ensures.room)

pub returns : goal.returns
unfolding packed_sheet
returns c =
    let near = c.in_ok-end.ensures.near in
    let blank = c.in_ok-writer.ensures in
    let end = c.in_ok-end.end in
    let digits = header_digits c.args.header ++ edits_digits c.args.edits.now in
    let items : vec_items c.edits.new.self.bytes ≡ sheet_bytes c.args.header c.args.edits.now end =
    (then_writes _ _ _ _ _ c.header.ensures c.edits.ensures).bytes
    ∙ ap (λ b. with_digits b c.in_ok-writer.writer.at digits) (blank.0 ∙ ap (λ count. replicate count 0) (c.div_ceil.ensures ∙ rounded_up end))
    ∙ ap (λ at. with_digits (replicate (bytes_for end) 0) at digits) blank.1 in
    record {
      bytes =
          rw (eq-eqb (length c.args.edits.now) c.args.header.edits (c.if-edits-from.false ∙ c.from.ensures), ← c.in_ok-end.ensures.end)
          (ap Ok (sym items));
      reads_back =
          subst (λ b. ReadsBack b c.args.header c.args.edits.now) (sym items)
          (sheet_reads_back c.args.header c.args.edits.now end near.1 near.0 c.in_ok-end.ensures.fitting (search rules));
    }
