-- What code takes constants for is what the check makes of them.
--
-- docs/RULES.md, "Stack code". The Go specification, "Constant expressions".
use Rattle.std.specs.Prelude.{◌≡◌, ℕ, true, List, Option, Some, Contains, slice_get}
use Rattle.go_tree_nodes.specs.Rules.{Wf_file}
use Rattle.go_tree_nodes.specs.Trees.{FileTree, FuncTree, ExprTree}
use Rattle.go_term_core.specs.Terms.{Term, Sign}
use Rattle.go_object_core.specs.declared.instructions.letters.Word.{Word}
use Rattle.go_code_core.specs.declared.fragments.names.Gives.TheVariants as gives
use Rattle.go_code_core.specs.fragments.Fragment.{expr_gives}
use Rattle.go_code_core.specs.fragments.Names as code_names
use Rattle.go_code_core.specs.fragments.Names.{frame_of}
use Rattle.go_names_core.specs.local_core.Binding.{Local}
use Rattle.go_names_core.specs.local_core.Steps.{Piece}
use Rattle.go_report_core.specs.denote_core.declared.things.Stand.{Stand}
use Rattle.go_report_core.specs.denote_core.declared.things.Stand.TheVariants as stands
use Rattle.govisd_resolve.specs.handle_core.Declarations.{Declaration}
use Rattle.go_body_core.specs.env_core.declared.meaning.Meaning.{Meaning}
use Rattle.go_body_core.specs.env_core.Looks.{TheLooks}
use Rattle.go_body_core.specs.function.Functions.{AreFuncDeclarations}
use Rattle.go_body_core.specs.file.Stands.{file_funcs}
use Rattle.go_graph_core.specs.Workspaces.{PackageModel, IsWorkspace}
use Rattle.go_emit_core.specs.package_core.PreparePackages.{trees_in}
use Rattle.go_emit_core.specs.package_core.PackagePartInputs.{InputModel, IsInput, path_in}
use Rattle.go_emit_core.specs.package_core.PackagePartParts.{ContentOf, FileOf, IsPart, PartModel}
use Rattle.go_snap_core.specs.whole_workspace.Inputs.{AreParts}
use Rattle.go_emit_core.specs.Emitted.{are_clean, body_first, code_scene_over, told_to}
use Rattle.go_emit_core.specs.Imports.{all_passing}
use Rattle.go_emit_core.specs.meaning.Looking.{looks_of}
use Rattle.go_workspace_laws.specs.folding.Parts.{parts}
use Rattle.go_workspace_laws.specs.folding.Laws.{IsConstantFolded, IsFolded}
use Rattle.go_workspace_laws.specs.Calling.{without_methods}
use Rattle.go_workspace_laws.specs.Standing.{stand_in_part, looks_among, pieces_of, piece_exprs}
use Rattle.go_tree_nodes.specs.Spelling.{IsPlaced}

-- no import of the package comes to the package itself
abbrev pub ImportsAreOthers : InputModel → Type 0
ImportsAreOthers i = Contains (all_passing i.imports) (path_in i) → ⊥

-- what code asks of the names of a function in the file of a number
abbrev pub code_names_of : InputModel → ContentOf → ℕ → FileOf → FuncTree → code_names.CodeLooks
code_names_of i c n f g = looks_of (code_scene_over (told_to i c) i c) n f.answers.uses f.answers.locals (body_first f.answers.uses g)

-- code and check agree on an expression, at the place where the check judges it
pub record AreAgreed (looks : TheLooks) (names : code_names.CodeLooks) (slots : List (Option ℕ)) (q : Stand) (x : ExprTree) : Type 0 where
  -- where code is made of it, code takes it for a constant exactly where it is one over `int` or `bool` to the check, and then with its value
  pub constant : (w : Word) → expr_gives (frame_of names slots) x ≡ gives.One w → IsConstantFolded Term Sign Declaration (List ℕ) looks names q x
  -- and where it calls no method, it is an operand to the check
  pub operand : (w : Word) → expr_gives (frame_of (without_methods names) slots) x ≡ gives.One w → IsFolded Term Sign Declaration (List ℕ) looks names q x

-- Where nothing is reported of a package, code and check agree on each expression in the pieces of its functions, where names mean what the function's
-- declarations bind them to
abbrev pub ConstantsAreOfTheCheck : Type 0
ConstantsAreOfTheCheck =
    (i : InputModel) (c : ContentOf) → IsInput i → ImportsAreOthers i → IsPart i c → are_clean c.files ≡ true
    → (n : ℕ) (t : FileTree) (f : FileOf) → slice_get (trees_in i.source) n ≡ Some t → slice_get c.files n ≡ Some f → Wf_file t → IsPlaced t
    → (g : FuncTree) → Contains (file_funcs t) g → (all : List (Local Meaning)) → AreFuncDeclarations (stand_in_part i c n t) g all
    → (p : Piece) → Contains (pieces_of g) p → (e : ExprTree) → Contains (piece_exprs p) e → (q : Stand) (x : ExprTree) → Contains (parts stands.«Value» e) (q, x)
    → (slots : List (Option ℕ)) → AreAgreed (looks_among (stand_in_part i c n t) all) (code_names_of i c n f g) slots q x

-- a part is made from what these laws ask of an input
pub record IsFit (p : PartModel) : Type 0 where
  pub input : IsInput p.input
  pub others : ImportsAreOthers p.input
  pub part : IsPart p.input p.content

-- so is each part of the packages of a workspace
abbrev pub PartsAreFit : Type 0
PartsAreFit = (ps : List PackageModel) (parts : List (Option PartModel)) → IsWorkspace ps → AreParts ps parts → (n : ℕ) (p : PartModel) → slice_get parts n ≡ Some (Some p) → IsFit p
