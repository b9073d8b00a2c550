-- What a package sees of the packages that its imports come to.
--
-- The Go specification, "Import declarations", "Qualified identifiers".
use Rattle.std.specs.Prelude.{ℕ, Bool, false, List}
use Rattle.std.specs.Borrow.{Bor}
use Rattle.std.specs.List.{filter, list_any}
use Rattle.std.specs.Str.{bytes_eq}
use Rattle.go_names_core.specs.block_core.declared.imports.Imported.{Imported}
use Rattle.go_names_core.specs.block_core.declared.imports.Imported.TheVariants as given
use Rattle.go_typexpr_core.specs.entry.Showing.{shown_in}
use Rattle.go_package_core.specs.summary_core.Summaries.{SummaryModel, path_of}
use Rattle.go_package_core.specs.summary_core.Views.{exports_told, faces_told, types_told}
use Rattle.go_package_core.specs.package_part.Inputs.{InputModel}
use Rattle.go_package_core.specs.package_part.Parts.{SeenOf, seen_with}

-- a path is one of these
abbrev pub has_path : List (Bor (List ℕ)) → List ℕ → Bool
has_path paths path = list_any (λ (p : Bor (List ℕ)). bytes_eq path p.now) paths

-- an import comes to the package of a path
abbrev pub comes_to : List ℕ → Imported → Bool
comes_to path (given.«Package» e) = bytes_eq e.path path
comes_to path (given.Refused rule) = false

-- an import of one of the files does
abbrev pub is_imported : List (List Imported) → List ℕ → Bool
is_imported imports path = list_any (list_any (comes_to path)) imports

-- of what the packages tell that a package reaches, what those tell that its imports come to
abbrev pub told_by_imports : InputModel → List SummaryModel
told_by_imports i = filter (λ s. is_imported i.imports (path_of s)) i.reached

-- what is known of other packages by these, over the types of all that are reached
abbrev pub seen_by_imports : InputModel → SeenOf
seen_by_imports i = seen_with (types_told i.reached) (shown_in (exports_told (told_by_imports i))) (faces_told (told_by_imports i))
