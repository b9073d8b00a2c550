use Rattle.std.proofs.Common.{◌∙◌, ◌++◌, ap, refl, List, ℕ}
use Rattle.govisd_folders.proofs.checking.answer_from.Goals as goal

pub returns : goal.returns
returns c =
    record {
      report = c.in_ok-text.field-0;
      told = c.in_ok-text.ensures;
      status = c.check_status.ensures;
      text = refl;
      said = c.in_ok-push.ensures ∙ ap (λ (l : List ℕ). l ++ c.args.passed.now) c.in_ok-said.ensures.ok;
    }
