use Rattle.std.proofs.Common.{subst}
use Rattle.go_package_core.specs.package_part.Inputs.{InputModel}
use Rattle.go_package_core.specs.package_part.Parts.{IsPart, PartModel}
use Rattle.go_batch_core.proofs.read.is_made.Goals as goal

pub returns : goal.returns
returns c = subst (λ (x : InputModel). IsPart x c.args.part.now.content) c.requires (subst (λ (x : PartModel). IsPart x.input x.content) c.get.ensures.value c.content-made.ensures.made)
