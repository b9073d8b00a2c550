use Rattle.std.proofs.Common.{map, ap, ◌∙◌}
use Rattle.go_query_core.specs.package_core.PackagePartParts.{ContentOf, file_shown}
use Rattle.go_reference_core.proofs.rename.comparing.files_of.Goals as goal

pub returns : goal.returns
returns c = ap (map file_shown) c.as_slice.ensures.value ∙ ap (λ (x : ContentOf). x.files) c.content.ensures.value
