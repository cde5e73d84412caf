-- A packed sheet reads back as the header and the edits that it was packed from: each field is read where it was written, and each edit where the one before it ends.
use Rattle.std.proofs.Common.{◌≡◌, ℕ, zero, suc, ◌+◌, ◌*◌, ◌/◌, ◌^◌, ◌<◌, ◌≤◌, Bool, true, false, eqb, List, [], ◌∷◌, ◌++◌, length, get_or, replicate, None, Ok, sym, refl, ap, ◌∙◌, subst, arith, length-append, le-ltb, leb-true}
use lib.Ieee.{Float, binary64, to_bits, of_bits, fits}
use lib.Ieee.Bits.{of_bits-to_bits, to_bits-lt}
use lib.ListN.{length-replicate}
use Rattle.std.specs.Int.{div_ceil}
use Rattle.std.specs.List.{AllByRecursion as All}
use Rattle.std.proofs.lemmas.Float.{T_from_true}
use Rattle.std.proofs.lemmas.Nat.{mod_below}
use Rattle.std.proofs.ByRecursion.{All-append}
use Rattle.std.proofs.lemmas.List.{get_or_past}
use Rattle.area.specs.declared.Winding.{Winding}
use Rattle.area.specs.declared.Winding.TheVariants.{Clockwise, CounterClockwise}
use Rattle.packed.specs.declared.sheets.SurfaceKind.{SurfaceKind}
use Rattle.packed.specs.declared.sheets.SurfaceKind.TheVariants.{Wgs84, Plate}
use Rattle.packed.specs.declared.sheets.Header.{Header}
use Rattle.packed.specs.declared.sheets.Edit.{Edit}
use Rattle.packed.specs.declared.sheets.Edit.TheVariants.{Add, Move, Drop, TakeBack}
use Rattle.packed.specs.Bits.{bit, field_at}
use Rattle.packed.specs.Sheets.{header_of, edit_at, edit_of, add_at, move_at, drop_at, point_at, end_of, first_one, fill_bits, winding_of, surface_of}
use Rattle.packed.specs.Packing.{digits_of, point_digits, edit_digits, edits_digits, header_digits, width_of, winding_bit, signed_bit, surface_bits, IsFloat, Fitting, bytes_for, sheet_bytes, ReadsEdits, ReadsBack}
use Rattle.packed.proofs.Fields.{none_found, read_inside}
use Rattle.packed.proofs.Reading.{Spells, first_part, second_part, reads_field, written-bits}
use Rattle.packed.proofs.Writing.{edits_more, edits_none, length_digits, length_edit, length-header, length-with}

-- every digit is 0 or 1
abbrev Binary : List ℕ → Type 0
Binary ds = All (λ d. d < 2) ds

digits_binary : (w n : ℕ) → Binary (digits_of w n)
unfolding digits_of
digits_binary zero n = tt
digits_binary (suc w) n = (mod_below (n / 2 ^ w) 2 (omega arith), digits_binary w n)

then_binary : (w n : ℕ) (ds : List ℕ) → Binary ds → Binary (digits_of w n ++ ds)
then_binary w n ds h = All-append (λ d. d < 2) (digits_of w n) ds (digits_binary w n) h

point_binary : (lat lon : Float) → Binary (point_digits lat lon)
point_binary lat lon = then_binary 64 (to_bits binary64 lat) (digits_of 64 (to_bits binary64 lon)) (digits_binary 64 (to_bits binary64 lon))

edit_binary : (e : Edit) → Binary (edit_digits e)
unfolding edit_digits
edit_binary (Add lat lon) = then_binary 2 0 (point_digits lat lon) (point_binary lat lon)
edit_binary (Move place lat lon) = then_binary 2 1 (digits_of 12 place ++ point_digits lat lon) (then_binary 12 place (point_digits lat lon) (point_binary lat lon))
edit_binary (Drop place) = then_binary 2 2 (digits_of 12 place) (digits_binary 12 place)
edit_binary TakeBack = digits_binary 2 3

edits_binary : (es : List Edit) → Binary (edits_digits es)
unfolding edits_digits
edits_binary [] = tt
edits_binary (e ∷ es) = All-append (λ d. d < 2) (edit_digits e) (edits_digits es) (edit_binary e) (edits_binary es)

header_binary : (h : Header) → Binary (header_digits h)
unfolding header_digits
header_binary h =
    then_binary 4 1 _ (then_binary 1 (winding_bit h.winding) _ (then_binary 1 (signed_bit h.signed) _ (then_binary 2 (surface_bits h.surface) _ (digits_binary 16 h.edits))))

pattern_below : (x : Float) → IsFloat x → to_bits binary64 x < 2 ^ 64
pattern_below x h = to_bits-lt binary64 x (T_from_true (fits binary64 x) h)

pattern_back : (x : Float) → IsFloat x → of_bits binary64 (to_bits binary64 x) ≡ x
pattern_back x h = of_bits-to_bits binary64 x (T_from_true (fits binary64 x) h)

place_below : (place : ℕ) → place ≤ 4095 → place < 2 ^ 12
place_below place h = omega arith

winding_below : (w : Winding) → winding_bit w < 2 ^ 1
winding_below Clockwise = omega arith
winding_below CounterClockwise = omega arith

sign_below : (b : Bool) → signed_bit b < 2 ^ 1
sign_below true = omega arith
sign_below false = omega arith

surface_below : (s : SurfaceKind) → surface_bits s < 2 ^ 2
surface_below Wgs84 = omega arith
surface_below Plate = omega arith

winding_back : (w : Winding) → winding_of (winding_bit w) ≡ w
winding_back Clockwise = refl
winding_back CounterClockwise = refl

sign_back : (b : Bool) → eqb (signed_bit b) 1 ≡ b
sign_back true = refl
sign_back false = refl

surface_back : (s : SurfaceKind) → surface_of (surface_bits s) ≡ Ok s
surface_back Wgs84 = refl
surface_back Plate = refl

module _ (bytes : List ℕ) (short : length bytes ≤ 65536) where
  reads_point : (p : ℕ) (lat lon : Float) → p + 128 ≤ 8 * length bytes → IsFloat lat → IsFloat lon → Spells bytes p (point_digits lat lon) → point_at bytes p ≡ Ok (lat, lon)
  unfolding point_at
  reads_point p lat lon inside float-lat float-lon h =
      let first : field_at bytes p 64 ≡ Ok (to_bits binary64 lat) =
      reads_field bytes p 64 (to_bits binary64 lat) short (omega arith) (pattern_below lat float-lat) (first_part bytes p (digits_of 64 (to_bits binary64 lat)) (digits_of 64 (to_bits binary64 lon)) h) in
      let second : field_at bytes (p + 64) 64 ≡ Ok (to_bits binary64 lon) =
      reads_field bytes (p + 64) 64 (to_bits binary64 lon) short (omega arith) (pattern_below lon float-lon)
      (second_part bytes p (digits_of 64 (to_bits binary64 lat)) (digits_of 64 (to_bits binary64 lon)) 64 (length_digits 64 (to_bits binary64 lat)) h) in
      rw (first, second, pattern_back lat float-lat, pattern_back lon float-lon)

  reads_kind : (p kind : ℕ) (ds : List ℕ) → p + 2 ≤ 8 * length bytes → kind < 2 ^ 2 → Spells bytes p (digits_of 2 kind ++ ds) → field_at bytes p 2 ≡ Ok kind
  reads_kind p kind ds inside small h = reads_field bytes p 2 kind short inside small (first_part bytes p (digits_of 2 kind) ds h)

  after_kind : (p kind : ℕ) (ds : List ℕ) → Spells bytes p (digits_of 2 kind ++ ds) → Spells bytes (p + 2) ds
  after_kind p kind ds h = second_part bytes p (digits_of 2 kind) ds 2 (length_digits 2 kind) h

  reads_edit : (p : ℕ) (e : Edit) → p + width_of e ≤ 8 * length bytes → Fitting e → Spells bytes p (edit_digits e) → edit_at bytes p ≡ Ok (e, p + width_of e)
  unfolding edit_at add_at move_at drop_at edit_digits
  reads_edit p (Add lat lon) inside fitting h =
      let kind = reads_kind p 0 (point_digits lat lon) (omega arith) (omega arith) h in
      let point = reads_point (p + 2) lat lon (omega arith) fitting.1.0 fitting.1.1 (after_kind p 0 (point_digits lat lon) h) in
      rw (kind, point) (ap (λ k. Ok (Add lat lon, k)) (let e : p + 2 + 128 ≡ p + 130 = omega arith in e))
  reads_edit p (Move place lat lon) inside fitting h =
      let rest = after_kind p 1 (digits_of 12 place ++ point_digits lat lon) h in
      let kind = reads_kind p 1 (digits_of 12 place ++ point_digits lat lon) (omega arith) (omega arith) h in
      let at = reads_field bytes (p + 2) 12 place short (omega arith) (place_below place (leb-true place 4095 fitting.0)) (first_part bytes (p + 2) (digits_of 12 place) (point_digits lat lon) rest) in
      let point = reads_point (p + 2 + 12) lat lon (omega arith) fitting.1.0 fitting.1.1 (second_part bytes (p + 2) (digits_of 12 place) (point_digits lat lon) 12 (length_digits 12 place) rest) in
      rw (kind, at, point) (ap (λ k. Ok (Move place lat lon, k)) (let e : p + 2 + 140 ≡ p + 142 = omega arith in e))
  reads_edit p (Drop place) inside fitting h =
      let kind = reads_kind p 2 (digits_of 12 place) (omega arith) (omega arith) h in
      let at = reads_field bytes (p + 2) 12 place short (omega arith) (place_below place (leb-true place 4095 fitting.0)) (after_kind p 2 (digits_of 12 place) h) in
      rw (kind, at) (ap (λ k. Ok (Drop place, k)) (let e : p + 2 + 12 ≡ p + 14 = omega arith in e))
  reads_edit p TakeBack inside fitting h =
      let kind : field_at bytes p 2 ≡ Ok 3 = reads_field bytes p 2 3 short (omega arith) (omega arith) h in
      rw kind

  pub reads_edits : (p end : ℕ) (es : List Edit) → p + length (edits_digits es) ≡ end → end ≤ 8 * length bytes → All Fitting es → Spells bytes p (edits_digits es) → end_of bytes end ≡ Ok tt → ReadsEdits bytes p es
  unfolding edit_of
  reads_edits p end [] ends inside fitting h last =
      let e : end ≡ p = sym ends ∙ ap (λ ds. p + length ds) edits_none ∙ (let z : p + 0 ≡ p = omega arith in z) in
      subst (λ k. end_of bytes k ≡ Ok tt) e last
  reads_edits p end (e ∷ es) ends inside fitting h last =
      let whole : Spells bytes p (edit_digits e ++ edits_digits es) = subst (Spells bytes p) (edits_more e es) h in
      let long : length (edits_digits (e ∷ es)) ≡ width_of e + length (edits_digits es) = ap length (edits_more e es) ∙ length-append (edit_digits e) (edits_digits es) ∙ ap (λ n. n + length (edits_digits es)) (length_edit e) in (
        rw (reads_edit p e (omega (arith, long)) fitting.0 (first_part bytes p (edit_digits e) (edits_digits es) whole)),
        reads_edits (p + width_of e) end es (omega (arith, long)) inside fitting.1 (second_part bytes p (edit_digits e) (edits_digits es) (width_of e) (length_edit e) whole) last,
      )

  no_one : (p n : ℕ) → ((k : ℕ) → p ≤ k → bit bytes k ≡ 0) → first_one bytes p n ≡ None
  no_one p n zeros = sym (none_found bytes p n (λ k low high one. let z : ◌≡◌ {A = ℕ} 0 1 = sym (zeros k low) ∙ one in omega arith))

  pub reads_end : (p : ℕ) → length bytes ≡ bytes_for p → ((k : ℕ) → p ≤ k → bit bytes k ≡ 0) → end_of bytes p ≡ Ok tt
  unfolding end_of
  reads_end p long zeros =
      let filled : p + fill_bits p ≡ 8 * length bytes = omega arith in
      let fill = read_inside bytes p (fill_bits p) short (omega arith) in
      rw (fill, no_one p (fill_bits p) zeros, le-ltb (p + fill_bits p) (8 * length bytes) (omega arith))

  -- the header, field by field
  pub reads_header : (h : Header) → 24 ≤ 8 * length bytes → h.edits < 2 ^ 16 → Spells bytes 0 (header_digits h) → header_of bytes ≡ Ok h
  unfolding header_of header_digits
  reads_header h inside few spelled =
      let sign = digits_of 1 (signed_bit h.signed) in
      let surface = digits_of 2 (surface_bits h.surface) in
      let edits = digits_of 16 h.edits in
      let four : Spells bytes 4 (digits_of 1 (winding_bit h.winding) ++ (sign ++ (surface ++ edits))) = second_part bytes 0 (digits_of 4 1) _ 4 (length_digits 4 1) spelled in
      let five : Spells bytes 5 (sign ++ (surface ++ edits)) = second_part bytes 4 (digits_of 1 (winding_bit h.winding)) _ 1 (length_digits 1 (winding_bit h.winding)) four in
      let six : Spells bytes 6 (surface ++ edits) = second_part bytes 5 sign _ 1 (length_digits 1 (signed_bit h.signed)) five in
      let eight : Spells bytes 8 edits = second_part bytes 6 surface _ 2 (length_digits 2 (surface_bits h.surface)) six in
      let edition-read = reads_field bytes 0 4 1 short (omega arith) (omega arith) (first_part bytes 0 (digits_of 4 1) _ spelled) in
      let winding-read = reads_field bytes 4 1 (winding_bit h.winding) short (omega arith) (winding_below h.winding) (first_part bytes 4 (digits_of 1 (winding_bit h.winding)) _ four) in
      let Sign-read = reads_field bytes 5 1 (signed_bit h.signed) short (omega arith) (sign_below h.signed) (first_part bytes 5 sign _ five) in
      let surface-read = reads_field bytes 6 2 (surface_bits h.surface) short (omega arith) (surface_below h.surface) (first_part bytes 6 surface _ six) in
      let edits-read = reads_field bytes 8 16 h.edits short (omega arith) few eight in
      rw (edition-read, winding-read, Sign-read, surface-read, surface_back h.surface, edits-read, winding_back h.winding, sign_back h.signed)

-- so many bits take as many bytes as their number divided by 8 and rounded up
pub rounded_up : (bits : ℕ) → div_ceil bits 8 ≡ bytes_for bits
rounded_up bits = omega arith

pub room : (n end : ℕ) → n ≡ bytes_for end → end ≤ 524288 → (n ≤ 65536) × (end ≤ 8 * n)
room n end e h = (omega arith, omega arith)

-- what a packed sheet reads back as
pub sheet_reads_back : (h : Header) (es : List Edit) (end : ℕ) → end ≡ 24 + length (edits_digits es) → end ≤ 524288 → All Fitting es → h.edits < 2 ^ 16 → ReadsBack (sheet_bytes h es end) h es
sheet_reads_back h es end ends near fitting few =
    let ds = header_digits h ++ edits_digits es in
    let bytes = sheet_bytes h es end in
    let long : length bytes ≡ bytes_for end = length-with (replicate (bytes_for end) 0) 0 ds ∙ length-replicate {A = ℕ} (bytes_for end) 0 in
    let fits_in = room (length bytes) end long near in
    let all : length ds ≡ end = length-append (header_digits h) (edits_digits es) ∙ ap (λ n. n + length (edits_digits es)) (length-header h) ∙ sym ends in
    let binary : Binary ds = All-append (λ d. d < 2) (header_digits h) (edits_digits es) (header_binary h) (edits_binary es) in
    let bits : (k : ℕ) → bit bytes k ≡ get_or ds k 0 = written-bits (bytes_for end) ds binary (omega (arith, all, long, fits_in.1)) in
    let spelled : Spells bytes 0 ds = λ j inside. ap (bit bytes) (let e : 0 + j ≡ j = omega arith in e) ∙ bits j in
    let zeros : (k : ℕ) → end ≤ k → bit bytes k ≡ 0 = λ k past. bits k ∙ get_or_past ds k 0 (omega (arith, all)) in (
      reads_header bytes fits_in.0 h (omega (arith, fits_in.1)) few (first_part bytes 0 (header_digits h) (edits_digits es) spelled),
      reads_edits bytes fits_in.0 24 end es (sym ends) fits_in.1 fitting
          (second_part bytes 0 (header_digits h) (edits_digits es) 24 (length-header h) spelled)
          (reads_end bytes fits_in.0 end long zeros),
    )
