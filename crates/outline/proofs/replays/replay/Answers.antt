-- The opening is refused and nothing changes, or the calls are made on the outline that it gives.
use Rattle.std.proofs.Common.{◌≡◌, ◌≤◌, ◌++◌, length, take, drop, None, Ok, Err, sym, ap, ◌∙◌, arith}
use Rattle.std.proofs.lemmas.Result.{err_from_is_err_and, IfOk-from_err}
use Rattle.history.specs.declared.Frame.{Frame}
use Rattle.history.specs.Calls.{open_refusal, opened}
use Rattle.history.specs.Replays.{Replay, Ran, ran, replayed, replay_from}
use Rattle.history.proofs.Replaying.{replay_refused, replay_granted, replay_law}
use Rattle.outline.proofs.replays.replay.Goals as goal

pub returns-in_err-outline : goal.returns-in_err-outline
returns-in_err-outline g c =
    let e = c.in_err-outline.field-0.0 in
    let p = err_from_is_err_and c.from_residual.result c.from_residual.ensures.1 in
    let is : c.from_residual.result ≡ Err e = p.1 ∙ ap Err p.2 in
    let q = replay_refused (g.S.Surface.edges c.args.surface) (g.S.Surface.whole c.args.surface) c.args.winding c.args.stations.now c.args.edits.now c.args.calls.now c.args.answers.now e (sym c.in_err-outline.ensures.answer) in
    record {
      left = ap (λ r. replayed r c.args.stations.now c.args.edits.now c.args.answers.now) is ∙ sym q;
      law = IfOk-from_err c.from_residual.result _ c.from_residual.ensures.0;
    }

pub returns : goal.returns
returns g c =
    let edge = g.S.Surface.edges c.args.surface in
    let whole = g.S.Surface.whole c.args.surface in
    let stations = c.args.stations.now in
    let edits = c.args.edits.now in
    let calls = c.args.calls.now in
    let answers = c.args.answers.now in
    let outline = c.in_ok-outline.outline in
    let n = c.make_each.result in
    let new = opened c.args.winding (length stations) (length edits) in
    let granted : open_refusal (length stations) (length edits) ≡ None = sym c.in_ok-outline.ensures.answer in
    let is : ran (g.S.Surface.edges outline.surface) (g.S.Surface.whole outline.surface) outline.frame stations edits (take n calls) ≡ ran edge whole new stations edits (take n calls) =
    ap (λ s. ran (g.S.Surface.edges s) (g.S.Surface.whole s) outline.frame stations edits (take n calls)) c.in_ok-outline.ensures.surface ∙ ap (λ (f : Frame). ran edge whole f stations edits (take n calls)) c.in_ok-outline.ensures.frame in
    let q = replay_granted edge whole c.args.winding stations edits calls answers granted in
    let left : replayed (Ok n) c.make_each.new.stations c.make_each.new.edits c.make_each.new.answers ≡ replay_from None (ran edge whole new stations edits (take n calls)) n stations edits answers =
    c.make_each.ensures.left ∙ ap (λ (r : Ran). replay_from None r n stations edits answers) is in
    let told : c.make_each.new.answers ≡ (ran edge whole new stations edits (take n calls)).answers ++ drop n answers = ap (λ (r : Replay). r.answers) left in
    let few : n ≤ length calls = omega (arith, c.make_each.ensures.made) in
    record {
      left = left ∙ ap (λ k. replay_from None (ran edge whole new stations edits (take k calls)) k stations edits answers) c.make_each.ensures.made ∙ sym q;
      law = replay_law edge whole c.args.winding stations edits calls n c.make_each.new.answers (drop n answers) granted few told;
    }
