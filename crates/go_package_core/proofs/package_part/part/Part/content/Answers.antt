use Rattle.std.proofs.Common.{subst}
use Rattle.go_package_core.specs.package_part.Parts.{IsPart, PartModel}
use Rattle.go_package_core.proofs.package_part.part.Part.content.Goals as goal

pub returns-clause-made : goal.returns-clause-made
returns-clause-made c = subst (λ (p : PartModel). IsPart p.input p.content) c.self.view_is c.self.invariant
