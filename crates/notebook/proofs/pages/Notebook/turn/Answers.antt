-- The old list goes in front, and the front of the past is taken list by list.
use Rattle.std.proofs.Common.{rules, List, ◌∷◌, map, take, vec_items, sym, ap, ◌∙◌}
use Rattle.std.specs.List.{take-map}
use Rattle.polygon.specs.declared.Point.{Point}
use Rattle.history.specs.Book.{Book}
use Rattle.notebook.proofs.pages.Notebook.turn.Goals as goal

pub returns : goal.returns
returns g c =
    let older = c.args.self.now.past.items in
    let book : List Point → List (List Point) → Book = λ s p. record { standing = s; past = p } in
    let points = c.change.new.arg2 in
    let kept = c.truncate.ensures.items ∙ ap (take c.args.most) (c.in_ok-push_front.ensures.items ∙ ap (λ v. v ∷ older) c.replace-before.ensures.value) in
    record {
      before = c.in_ok-points.points;
      points = points;
      copied = search rules;
      answer = c.change.result;
      done = search rules;
      called = search rules;
      turned =
          ap (λ v. book (vec_items v) (map (λ points. vec_items points) c.truncate.new.self.items)) c.replace-before.ensures.after
          ∙ ap (book (vec_items points)) (ap (map (λ points. vec_items points)) kept ∙ sym (take-map (λ points. vec_items points) c.args.most (c.args.self.now.standing ∷ older)));
    }
