-- The pieces of functions of a workspace are clear, with no premise on constants.
--
-- docs/RULES.md, "Whole workspaces", "Stack code". The Go specification, "Packages", "Constants", "Statements".
use Rattle.std.specs.Prelude.{◌≡◌, ℕ, Bool, true, List, Option, Some, Contains, slice_get}
use Rattle.go_tree_nodes.specs.Trees.{FileTree, FuncTree}
use Rattle.go_names_core.specs.local_core.Binding.{Local}
use Rattle.go_names_core.specs.local_core.Steps.{Piece}
use Rattle.go_term_core.specs.Terms.{Term, Sign}
use Rattle.go_body_core.specs.stmt_core.PieceHeaders.{returned_names, returned_types}
use Rattle.go_body_core.specs.env_core.declared.meaning.Meaning.{Meaning as NameMeaning}
use Rattle.go_meaning_laws.specs.handle_core.Declarations.{Declaration}
use Rattle.go_graph_core.specs.Workspaces.{IsReadWorkspace, PackageModel}
use Rattle.go_emit_core.specs.package_core.PreparePackages.{trees_in}
use Rattle.go_emit_core.specs.package_core.PackagePartParts.{FileOf, PartModel}
use Rattle.go_emit_core.specs.Emitted.{are_clean}
use Rattle.go_snap_core.specs.whole_workspace.Inputs.{AreParts}
use Rattle.go_body_core.specs.file.Stands.{file_funcs}
use Rattle.go_body_core.specs.function.Functions.{AreFuncDeclarations}
use Rattle.go_body_core.specs.function.Stands.{outer_looks}
use Rattle.go_workspace_laws.specs.Calling.{without_methods}
use Rattle.go_workspace_laws.specs.ConstantLaws.{code_names_of}
use Rattle.go_workspace_laws.specs.Standing.{looks_among, pieces_of, stand_in_part}
use Rattle.go_program_laws.specs.checked_sources.Pieces.{meaning_in}
use Rattle.go_program_laws.specs.checked_sources.Statements.{IsClear}

-- of a part of a workspace of which nothing is reported each piece of each function breaks no rule, and each name in it is in code what it is to the check,
-- methods apart
abbrev pub PartsAreClear : Type 0
PartsAreClear =
    (ws : List PackageModel) (parts : List (Option PartModel)) → IsReadWorkspace ws → AreParts ws parts → (number : ℕ) (part : PartModel) → slice_get parts number ≡ Some (Some part) → are_clean part.content.files ≡ true
    → (n : ℕ) (t : FileTree) (f : FileOf) → slice_get (trees_in part.input.source) n ≡ Some t → slice_get part.content.files n ≡ Some f
    → (g : FuncTree) → Contains (file_funcs t) g → (all : List (Local NameMeaning)) → AreFuncDeclarations (stand_in_part part.input part.content n t) g all → (p : Piece) → Contains (pieces_of g) p
    → (firsts : List Bool)
    × IsClear Term Sign Declaration (List ℕ) (looks_among (stand_in_part part.input part.content n t) all) (without_methods (code_names_of part.input part.content n f g)) (meaning_in part.input part.content n f)
    (returned_types (outer_looks (stand_in_part part.input part.content n t)) g.signature) (returned_names g.signature) firsts p
