-- What one step of a loop adds.
use Rattle.std.specs.Prelude.{Bool, false, List, [], Option, Some, None}
use Rattle.go_term_core.specs.decl_core.declared.keys.DeclRef.{DeclRef}
use Rattle.go_summary_core.specs.declared_core.Faces.{TheFace}
use Rattle.go_summary_core.specs.declared_core.Packages.{DeclaredOf}
use Rattle.go_report_core.specs.answer.Shown.{is_decl_listed, shown_if}

-- the face of the declaration at a place
abbrev pub shown_at : List DeclRef → Option DeclRef → Option (Option TheFace) → List DeclaredOf
shown_at these None known = []
shown_at these (Some d) None = []
shown_at these (Some d) (Some face) = shown_if (is_decl_listed these d) d face

-- whether a flag is there and is set
abbrev pub is_set : Option Bool → Bool
is_set None = false
is_set (Some flag) = flag
