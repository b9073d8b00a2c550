use Rattle.std.proofs.Common.{sym, subst}
use Rattle.std.specs.Arc.{arc_value}
use Rattle.go_package_core.specs.declared.package_part.part.Made.{Made}
use Rattle.go_package_core.specs.package_part.Parts.{IsPart, part_content_shown}
use Rattle.go_package_core.proofs.package_part.part.Part.share.Goals as goal

pub invariant_of-result : goal.invariant_of-result
invariant_of-result c = subst (λ (m : Made). IsPart m.input (part_content_shown (arc_value m.content))) (sym c.in_ok-try_clone.ensures) c.self.invariant
