-- A loop over calls: what it keeps, that one call more keeps it, and what it says at the end.
use Rattle.std.proofs.Common.{◌≡◌, ℕ, ◌+◌, ◌<◌, ◌≤◌, List, [], ◌∷◌, ◌++◌, length, get_or, take, drop, set, None, Ok, sym, ap, ◌∙◌}
use lib.Ieee.{Float}
use Rattle.std.proofs.lemmas.List.{append_assoc, append-nil, take-append-drop, take_more_set, drop_more, drop-set-lt, drop_all, get_or-take, get_or_default}
use Rattle.polygon.specs.Polygons.{Solve}
use Rattle.stations.specs.declared.Station.{Station}
use Rattle.stations.specs.declared.records.EditRecord.{EditRecord}
use Rattle.history.specs.declared.Frame.{Frame}
use Rattle.history.specs.declared.Call.{Call}
use Rattle.history.specs.Calls.{Answer, Outcome, done_of}
use Rattle.history.specs.Replays.{Ran, ran, replayed, replay_from}
use Rattle.outline.proofs.Leaving.{same_replay}

-- the first `i` of the calls are made; `n` slots are to be written
pub record Going (edge : Solve) (whole : Float) (calls : List Call) (n : ℕ) (f₀ : Frame) (stations₀ : List Station) (edits₀ : List EditRecord) (answers₀ : List Answer) (f : Frame) (stations : List Station) (edits : List EditRecord) (answers : List Answer) (i : ℕ) : Type 0 where
  pub answered : take i answers ++ (ran edge whole f stations edits (drop i calls)).answers ≡ (ran edge whole f₀ stations₀ edits₀ calls).answers
  pub stationed : (ran edge whole f stations edits (drop i calls)).stations ≡ (ran edge whole f₀ stations₀ edits₀ calls).stations
  pub edited : (ran edge whole f stations edits (drop i calls)).edits ≡ (ran edge whole f₀ stations₀ edits₀ calls).edits
  pub kept : drop n answers ≡ drop n answers₀

-- a call that is read out of the slice is the one of its front
pub read_call : (calls : List Call) (n i : ℕ) (d : Call) → i < n → i < length calls → get_or calls i d ≡ get_or (take n calls) i (get_or calls i d)
read_call calls n i d low more = sym (get_or-take n calls i (get_or calls i d) low ∙ get_or_default calls i (get_or calls i d) d more)

module _ (edge : Solve) (whole : Float) (calls : List Call) (n : ℕ) (f₀ : Frame) (stations₀ : List Station) (edits₀ : List EditRecord) (answers₀ : List Answer) (f : Frame) (stations : List Station) (edits : List EditRecord) (answers : List Answer) (i : ℕ) (going : Going edge whole calls n f₀ stations₀ edits₀ answers₀ f stations edits answers i) where
  -- ---- one call more

  module _ (call : Call) (is : call ≡ get_or calls i call) (more : i < length calls) where
    next : ran edge whole f stations edits (drop i calls) ≡ ran edge whole f stations edits (call ∷ drop (i + 1) calls)
    next = ap (ran edge whole f stations edits) (drop_more calls i call more ∙ ap (λ (c : Call). c ∷ drop (i + 1) calls) (sym is))

    pub going_more : (done : Outcome) → done ≡ done_of edge whole f stations edits call → i < length answers → i < n → Going edge whole calls n f₀ stations₀ edits₀ answers₀ done.frame done.stations done.edits (set answers i done.answer) (i + 1)
    unfolding ran
    going_more done does slot below =
        let later = ran edge whole done.frame done.stations done.edits (drop (i + 1) calls) in
        let one : ran edge whole f stations edits (drop i calls) ≡ record { answers = done.answer ∷ later.answers; stations = later.stations; edits = later.edits } =
        next ∙ ap (λ (d : Outcome). record { answers = d.answer ∷ (ran edge whole d.frame d.stations d.edits (drop (i + 1) calls)).answers; stations = (ran edge whole d.frame d.stations d.edits (drop (i + 1) calls)).stations; edits = (ran edge whole d.frame d.stations d.edits (drop (i + 1) calls)).edits }) (sym does) in
        record {
          answered = ap (λ l. l ++ later.answers) (take_more_set answers i done.answer slot) ∙ append_assoc (take i answers) (done.answer ∷ []) later.answers ∙ ap (λ (r : Ran). take i answers ++ r.answers) (sym one) ∙ going.answered;
          stationed = ap (λ (r : Ran). r.stations) (sym one) ∙ going.stationed;
          edited = ap (λ (r : Ran). r.edits) (sym one) ∙ going.edited;
          kept = drop-set-lt n answers i done.answer below ∙ going.kept;
        }

  -- ---- at the end

  module _ (all : i ≡ n) (none : length calls ≤ i) where
    last : ran edge whole f stations edits (drop i calls) ≡ record { answers = []; stations = stations; edits = edits }
    unfolding ran
    last = ap (ran edge whole f stations edits) (drop_all i calls none)

    end_stations : stations ≡ (ran edge whole f₀ stations₀ edits₀ calls).stations
    end_stations = sym (ap (λ (r : Ran). r.stations) last) ∙ going.stationed

    end_edits : edits ≡ (ran edge whole f₀ stations₀ edits₀ calls).edits
    end_edits = sym (ap (λ (r : Ran). r.edits) last) ∙ going.edited

    end_answers : answers ≡ (ran edge whole f₀ stations₀ edits₀ calls).answers ++ drop n answers₀
    end_answers =
        let front : take i answers ≡ (ran edge whole f₀ stations₀ edits₀ calls).answers =
        sym (ap (λ (r : Ran). take i answers ++ r.answers) last ∙ append-nil (take i answers)) ∙ going.answered in
        sym (take-append-drop i answers) ∙ ap (λ l. l ++ drop i answers) front ∙ ap (λ k. (ran edge whole f₀ stations₀ edits₀ calls).answers ++ drop k answers) all ∙ ap (λ l. (ran edge whole f₀ stations₀ edits₀ calls).answers ++ l) going.kept

    pub all_made : replayed (Ok n) stations edits answers ≡ replay_from None (ran edge whole f₀ stations₀ edits₀ calls) n stations₀ edits₀ answers₀
    all_made = same_replay end_stations end_edits end_answers
