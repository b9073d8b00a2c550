use Rattle.std.proofs.Common.{ap}
use Rattle.go_complete_core.specs.package_core.PackagePartParts.{ContentOf}
use Rattle.go_judge_core.specs.Places.{scene_with}
use Rattle.go_judge_core.proofs.checked.scene_of.Goals as goal

pub returns : goal.returns
returns c = ap (λ (x : ContentOf). scene_with x.blocks c.args.checked.now.known) c.content.ensures.value
