-- Exactly one check of each package, and exactly one part of each input.
--
-- docs/RULES.md, "Files and packages".
use Rattle.std.specs.Prelude.{◌≡◌, List, All}
use Rattle.go_tree_nodes.specs.Spelling.{IsPlaced}
use Rattle.go_table_core.specs.Entries.{Entry}
use Rattle.go_package_core.specs.Checked.{CheckedOf, IsChecked}
use Rattle.go_package_core.specs.prepare.Packages.{PackageIn, trees_in}
use Rattle.go_package_core.specs.package_part.Inputs.{InputModel}
use Rattle.go_package_core.specs.package_part.Parts.{ContentOf, IsPart}

-- each package has a check, and no second, whatever other packages have
abbrev pub EachPackageHasOneCheck : Type 0
EachPackageHasOneCheck = (p : PackageIn) (far : List Entry) → All IsPlaced p.trees → (c : CheckedOf) × IsChecked p far c × ((d : CheckedOf) → IsChecked p far d → c ≡ d)

-- each input has a part, and no second
abbrev pub EachInputHasOnePart : Type 0
EachInputHasOnePart = (i : InputModel) → All IsPlaced (trees_in i.source) → (c : ContentOf) × IsPart i c × ((d : ContentOf) → IsPart i d → c ≡ d)
