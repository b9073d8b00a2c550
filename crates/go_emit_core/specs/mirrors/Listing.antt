-- The functions of a package by the outlines of its files.
use Rattle.std.specs.Prelude.{ℕ, suc, List, [], ◌∷◌, ◌++◌}
use Rattle.go_declared_core.specs.typexpr_core.EntryOutlines.{FileOutline}
use Rattle.go_declared_core.specs.handle_core.Declarations.{Declaration}
use Rattle.go_package_core.specs.package_part.Parts.{FileOf}
use Rattle.go_object_core.specs.Objects.{FunctionOf}
use Rattle.go_emit_core.specs.Emitted.{file_functions}
use Rattle.go_emit_core.specs.meaning.Scenes.{CodeScene}

abbrev pub outlines_functions : CodeScene → ℕ → List FileOutline → List FileOf → List (FunctionOf Declaration)
outlines_functions s n [] files = []
outlines_functions s n (o ∷ os) [] = []
outlines_functions s n (o ∷ os) (f ∷ files) = file_functions s n o.decls f ++ outlines_functions s (suc n) os files
