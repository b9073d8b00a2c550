use Rattle.std.proofs.Common.{◌++◌, List, ℕ, subst}
use Rattle.std.specs.Prelude.{string_bytes}
use Rattle.std.proofs.lemmas.Result.{IfOk-weaker}
use Rattle.go_path_core.specs.text_core.declared.rule.Rule.TheVariants.{J2}
use Rattle.govisd_disk.specs.Notes.{refusal_line}
use Rattle.govisd_folders.specs.runs.Outcomes.{NothingRan}
use Rattle.govisd_folders.proofs.runs.blame.refuse_beyond.Goals as goal

pub returns : goal.returns
returns c =
    IfOk-weaker c.refuse.result _ _
    (λ a says. record { name = string_bytes c.in_ok-name.name; blame = c.in_ok-name.ensures; says = subst (λ (n : List ℕ). NothingRan (c.args.before.now ++ refusal_line n J2) a) c.as_str.ensures.value says }) c.refuse.ensures
