-- What is left of the calls, made on what the rows hold now, ends as all of them do on what the rows held at first; the answers so far stand in front.
use Rattle.std.proofs.Common.{◌≡◌, take}
use Rattle.outline.proofs.Replaying.{Going}
use Rattle.outline.proofs.replays.make_each.Given as goal

abbrev pub invariant-loop-i : goal.invariant-loop-i
invariant-loop-i g l =
    (l.outline.surface ≡ l.initial.outline.surface)
    × Going (g.S.Surface.edges l.initial.outline.surface) (g.S.Surface.whole l.initial.outline.surface) (take l.made l.calls) l.made l.initial.outline.frame l.initial.stations l.initial.edits l.initial.answers l.outline.frame l.stations l.edits l.answers l.i
