use Rattle.std.proofs.Common.{◌≡◌, ◌<◌, ◌≤◌, length, get_or, take, ap, ◌∙◌, arith}
use lib.Ieee.{nan}
use Rattle.std.proofs.lemmas.List.{length-take}
use Rattle.history.specs.declared.Call.TheVariants.{Add}
use Rattle.history.specs.Calls.{left, done_of}
use Rattle.outline.proofs.Replaying.{read_call, going_more, all_made}
use Rattle.outline.proofs.replays.make_each.Goals as goal

pub loop-i-preserved : goal.loop-i-preserved
loop-i-preserved g c =
    let edge = g.S.Surface.edges c.args.outline.now.surface in
    let whole = g.S.Surface.whole c.args.outline.now.surface in
    let n = c.min-made.result in
    let i = c.loop-i.i in
    let f = c.loop-i.outline.frame in
    let stations = c.loop-i.stations in
    let edits = c.loop-i.edits in
    let more : i < length c.args.calls.now = omega (arith, c.min-made.ensures) in
    let front : i < length (take n c.args.calls.now) = omega (arith, c.min-made.ensures, length-take n c.args.calls.now) in
    let slot : i < length c.loop-i.answers = omega (arith, c.min-made.ensures, c.loop-i.auto.answers) in
    let call = get_or c.args.calls.now i (Add nan nan) in
    let done = left c.make.result c.make.new.self.frame c.make.new.stations c.make.new.edits in (
      c.make.ensures.surface ∙ c.loop-i.invariant.0,
      going_more edge whole (take n c.args.calls.now) n c.args.outline.now.frame c.args.stations.now c.args.edits.now c.args.answers.now f stations edits c.loop-i.answers i c.loop-i.invariant.1 call (read_call c.args.calls.now n i (Add nan nan) c.loop-i-test.true more) front done
          (c.make.ensures.left ∙ ap (λ s. done_of (g.S.Surface.edges s) (g.S.Surface.whole s) f stations edits call) c.loop-i.invariant.0) slot c.loop-i-test.true,
    )

pub returns : goal.returns
returns g c =
    let edge = g.S.Surface.edges c.args.outline.now.surface in
    let whole = g.S.Surface.whole c.args.outline.now.surface in
    let n = c.min-made.result in
    let i = c.loop-i.i in
    let calls = take n c.args.calls.now in
    let all : i ≡ n = omega (arith, c.loop-i-test.false, c.loop-i.auto.i-end) in
    let none : length calls ≤ i = omega (arith, length-take n c.args.calls.now) in
    record {
      made = c.min-made.ensures;
      left = all_made edge whole calls n c.args.outline.now.frame c.args.stations.now c.args.edits.now c.args.answers.now c.loop-i.outline.frame c.loop-i.stations c.loop-i.edits c.loop-i.answers i c.loop-i.invariant.1 all none;
    }
