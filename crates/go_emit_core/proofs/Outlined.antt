-- What is made of a package by the outlines of its files is what its trees give.
use Rattle.std.proofs.Common.{◌≡◌, ℕ, suc, List, [], ◌∷◌, ◌++◌, map, refl, ap, ◌∙◌}
use Rattle.go_declared_core.specs.graph_core.Packages.{Trees, tree_shown, trees_of}
use Rattle.go_term_core.specs.decl_core.TopDecls.{top_decls}
use Rattle.go_declared_core.specs.typexpr_core.EntryOutlines.{FileOutline, outline_of}
use Rattle.go_declared_core.specs.handle_core.Declarations.{Declaration}
use Rattle.go_object_core.specs.Objects.{ObjectOf}
use Rattle.go_package_core.specs.prepare.Packages.{trees_in}
use Rattle.go_package_core.specs.package_part.Inputs.{InputModel, path_in}
use Rattle.go_package_core.specs.package_part.Parts.{ContentOf, FileOf}
use Rattle.go_emit_core.specs.Emitted.{file_functions, package_functions, whole_object}
use Rattle.go_emit_core.specs.Imports.{all_passing}
use Rattle.go_emit_core.specs.meaning.Scenes.{CodeScene}
use Rattle.go_emit_core.specs.mirrors.Listing.{outlines_functions}

functions_outlined : (s : CodeScene) (n : ℕ) (ts : Trees) (fs : List FileOf) → outlines_functions s n (map (λ t. outline_of t.1) ts) fs ≡ package_functions s n (map tree_shown ts) fs
functions_outlined s n [] fs = refl
functions_outlined s n (t ∷ ts) [] = refl
functions_outlined s n (t ∷ ts) (f ∷ fs) = ap (λ l. file_functions s n (top_decls t.1) f ++ l) (functions_outlined s (suc n) ts fs)

-- what is made of the files are the functions of the package
pub functions_made : (i : InputModel) (c : ContentOf) (s in_scene : CodeScene) (os : List FileOutline) (fs : List FileOf)
    → s ≡ in_scene → os ≡ map (λ t. outline_of t.1) (trees_of i.source.1) → fs ≡ c.files
    → outlines_functions s 0 os fs ≡ package_functions in_scene 0 (trees_in i.source) c.files
functions_made i c s in_scene os fs scene outlined files = (λ k. outlines_functions (scene k) 0 (outlined k) (files k)) ∙ functions_outlined in_scene 0 (trees_of i.source.1) c.files

-- an object by its parts
pub object_made : (i : InputModel) (c : ContentOf) (s : CodeScene) (o : ObjectOf Declaration) → o.path ≡ path_in i → o.name ≡ c.summary.exports.name → o.imports ≡ all_passing i.imports
    → o.functions ≡ package_functions s 0 (trees_in i.source) c.files → o ≡ whole_object s i c
object_made i c s o path name imports functions = λ k. record { path = path k; name = name k; imports = imports k; functions = functions k }
