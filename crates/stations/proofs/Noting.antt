-- A record is noted in the first free slot, or in a full row after the oldest has made room.
use Rattle.std.proofs.Common.{◌≡◌, ℕ, ◌+◌, ◌-◌, ◌<◌, ◌≤◌, List, length, ap, ◌∙◌, ⊎_elim, arith}
use Rattle.std.proofs.lemmas.Bool.{lt-ltb, le-ltb, cases_lt}
use Rattle.rows.specs.Rows.{put_in, take_out}
use Rattle.rows.proofs.Changes.{length_put_in, length_take_out}
use Rattle.stations.specs.declared.records.EditRecord.{EditRecord}
use Rattle.stations.specs.Records.{noted, noted_count}

module _ (row : List EditRecord) (count : ℕ) where
  pub noted_room : (e : EditRecord) → count < length row → noted row count e ≡ put_in row count count e
  unfolding noted
  noted_room e room = rw (lt-ltb count (length row) room)

  pub noted-full : (e : EditRecord) → length row ≤ count → noted row count e ≡ put_in (take_out row (length row) 0) (length row - 1) (length row - 1) e
  unfolding noted
  noted-full e full = rw (le-ltb count (length row) full)

  pub count_room : count < length row → noted_count row count ≡ count + 1
  count_room room = rw (lt-ltb count (length row) room)

  pub count_full : length row ≤ count → noted_count row count ≡ length row
  count_full full = rw (le-ltb count (length row) full)

  pub noted_count_held : noted_count row count ≤ length row
  noted_count_held = ⊎_elim (λ room. omega (arith, count_room room)) (λ full. omega (arith, count_full full)) (cases_lt count (length row))

  pub length-noted : (e : EditRecord) → length (noted row count e) ≡ length row
  length-noted e =
      ⊎_elim
      (λ room. ap length (noted_room e room) ∙ length_put_in row count count e)
      (λ full. ap length (noted-full e full) ∙ length_put_in (take_out row (length row) 0) (length row - 1) (length row - 1) e ∙ length_take_out row (length row) 0)
      (cases_lt count (length row))
