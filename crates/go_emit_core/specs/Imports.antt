-- The packages that the imports of a package come to.
use Rattle.std.specs.Prelude.{ℕ, List, [], ◌∷◌}
use Rattle.std.specs.List.{flat_map}
use Rattle.go_declared_core.specs.block_core.declared.imports.Imported.{Imported}
use Rattle.go_declared_core.specs.block_core.declared.imports.Imported.TheVariants as imported

-- the package that an import comes to
abbrev pub imported_paths : Imported → List (List ℕ)
imported_paths (imported.«Package» e) = e.path ∷ []
imported_paths (imported.Refused rule) = []

-- those of all imports: the files in order of name, the imports of each in order of place
abbrev pub all_passing : List (List Imported) → List (List ℕ)
all_passing files = flat_map (λ is. flat_map imported_paths is) files
