use Rattle.std.proofs.Common.{ℕ, List, Option, sym, ap, ap₂, ◌∙◌}
use Rattle.std.specs.Option.{option_map}
use Rattle.go_candidate_core.specs.declared_core.Faces.{operand_shown}
use Rattle.go_package_core.specs.env_core.declared.meaning.Meaning.TheVariants as meanings
use Rattle.go_package_core.specs.body_core.Notes.{TheValue}
use Rattle.go_complete_core.specs.hint.Kept.{value_or_none}
use Rattle.go_complete_core.proofs.hint.kept.open_local.Goals as goal

pub returns-in_ok-copy-in-Some : goal.returns-in_ok-copy-in-Some
returns-in_ok-copy-in-Some c =
    let at = c.args.ident.now.span.start in
    let value = sym (ap (option_map (λ v. option_map operand_shown v.now)) c.in-Some.is) ∙ c.kept_at.ensures in
    ap₂ (λ (n : List ℕ) (o : Option TheValue). (n, meanings.Local at (value_or_none o))) c.in_ok-copy-in-Some.ensures.same value
