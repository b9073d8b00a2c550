use Rattle.std.proofs.Common.{◌≡◌, sym, ap, subst}
use Rattle.std.specs.Arc.{arc_value}
use Rattle.go_package_core.specs.declared.package_part.content.PackageContent.{PackageContent}
use Rattle.go_package_core.specs.declared.package_part.part.Made.{Made}
use Rattle.go_package_core.specs.package_part.Parts.{IsPart, part_content_shown}
use Rattle.go_package_core.proofs.package_part.part.Part.of_generation.Goals as goal

pub invariant_of-result : goal.invariant_of-result
invariant_of-result c =
    let content : arc_value c.in_ok-content.content ≡ c.args.content = c.in_ok-content.ensures.ok in
    subst (λ (m : Made). IsPart m.input (part_content_shown (arc_value m.content))) (sym c.in_ok-new.ensures.ok) (subst (λ (k : PackageContent). IsPart c.args.input (part_content_shown k)) (sym content) c.requires)
