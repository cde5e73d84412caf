-- The outline that is taken up is the one that the call is made on.
use Rattle.std.proofs.Common.{rules}
use Rattle.outline_c.proofs.kept.KeptOutline.edited.Goals as goal

pub returns-in_err-answer-clause-done : goal.returns-in_err-answer-clause-done
returns-in_err-answer-clause-done g c = λ none.
    record {
      outline = c.in_ok-outline.outline;
      after = c.edit-answer.new.arg2;
      answer = c.edit-answer.result;
      up = c.in_ok-outline.ensures;
      called = search rules;
      told = search rules;
      kept = search rules;
    }

pub returns-clause-done : goal.returns-clause-done
returns-clause-done g c = λ none.
    record {
      outline = c.in_ok-outline.outline;
      after = c.edit-answer.new.arg2;
      answer = c.edit-answer.result;
      up = c.in_ok-outline.ensures;
      called = search rules;
      told = search rules;
      kept = search rules;
    }
