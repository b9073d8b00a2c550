-- Constants of packages are of types over what their values are.
--
-- docs/RULES.md, "Constants and variables of a package", "Summaries". The Go specification, "Constant declarations", "Constant expressions",
-- "Package initialization", "Exported identifiers".
use Rattle.std.specs.Prelude.{◌≡◌, ℕ, List, All, Option, Some, None, Contains, slice_get, slice_index_or}
use Rattle.go_tree_nodes.specs.Spelling.{IsPlaced}
use Rattle.go_tree_nodes.specs.Trees.{FileTree, FuncTree}
use Rattle.go_term_core.specs.decl_core.declared.keys.DeclRef.{DeclRef}
use Rattle.go_names_core.specs.local_core.Binding.{Local}
use Rattle.go_term_core.specs.Terms.{Term, Sign}
use Rattle.go_report_core.specs.operand_core.TypeRules.{TypeRules}
use Rattle.go_meaning_laws.specs.handle_core.DecidingRules.{term_rules}
use Rattle.go_body_core.specs.env_core.declared.meaning.Meaning.{Meaning as NameMeaning}
use Rattle.go_emit_core.specs.declared_core.Faces.{TheFace}
use Rattle.go_emit_core.specs.declared_core.Packages.{face_by}
use Rattle.go_emit_core.specs.declared_core.declared.face.Face.TheVariants as faces
use Rattle.go_meaning_laws.specs.handle_core.Declarations.{Declaration}
use Rattle.go_graph_core.specs.Workspaces.{IsWorkspace, PackageModel}
use Rattle.go_emit_core.specs.package_core.PreparePackages.{trees_in}
use Rattle.go_report_core.specs.summary_core.Summaries.{SummaryModel}
use Rattle.go_report_core.specs.summary_core.Views.{types_told}
use Rattle.go_emit_core.specs.package_core.PackagePartInputs.{InputModel, path_in}
use Rattle.go_emit_core.specs.package_core.PackagePartParts.{ContentOf, IsPart, PartModel}
use Rattle.go_emit_core.specs.Emitted.{told_to}
use Rattle.go_snap_core.specs.whole_workspace.Inputs.{AreParts}
use Rattle.go_body_core.specs.file.Stands.{file_funcs}
use Rattle.go_body_core.specs.function.Functions.{AreFuncDeclarations}
use Rattle.go_workspace_laws.specs.Standing.{looks_among, stand_in_part}
use Rattle.go_program_laws.specs.checked_sources.Pieces.{ConstantsAreTyped}
use Rattle.go_program_laws.specs.calls.Constants.{IsValueOver}

-- what is declared is no constant, or one of a type over what its value is
abbrev pub IsFaceOver : TypeRules Term → TheFace → Type 0
IsFaceOver rules (faces.«Value» o) = IsValueOver rules o
IsFaceOver rules (faces.«Type» t) = Unit {0}
IsFaceOver rules (faces.Func g) = Unit {0}

abbrev pub IsSomeFaceOver : TypeRules Term → Option TheFace → Type 0
IsSomeFaceOver rules None = Unit {0}
IsSomeFaceOver rules (Some f) = IsFaceOver rules f

-- the types by which a part's constants are judged
abbrev pub rules_in : InputModel → ContentOf → TypeRules Term
rules_in i c = term_rules (types_told (told_to i c)) (path_in i)

-- so is each declaration that a package tells which this one reaches
abbrev pub AreToldOver : InputModel → ContentOf → Type 0
AreToldOver i c = (s : SummaryModel) → Contains i.reached s → (d : DeclRef) → IsSomeFaceOver (rules_in i c) (face_by s.faces d)

-- then so is each of the package's own
abbrev pub DeclarationsKeepTypes : Type 0
DeclarationsKeepTypes = (i : InputModel) (c : ContentOf) → IsPart i c → All IsPlaced (trees_in i.source) → AreToldOver i c → (k : ℕ) → IsSomeFaceOver (rules_in i c) (slice_index_or c.declared k None)

-- and each constant that a name of one of its functions stands for
abbrev pub FunctionsKeepTypes : Type 0
FunctionsKeepTypes =
    (i : InputModel) (c : ContentOf) → IsPart i c → All IsPlaced (trees_in i.source) → AreToldOver i c
    → (n : ℕ) (t : FileTree) → slice_get (trees_in i.source) n ≡ Some t → (g : FuncTree) → Contains (file_funcs t) g → (all : List (Local NameMeaning)) → AreFuncDeclarations (stand_in_part i c n t) g all
    → ConstantsAreTyped Term Sign Declaration (List ℕ) (looks_among (stand_in_part i c n t) all)

-- the packages of a workspace tell such declarations
abbrev pub PartsTellKept : Type 0
PartsTellKept = (ps : List PackageModel) (parts : List (Option PartModel)) → IsWorkspace ps → AreParts ps parts → (n : ℕ) (p : PartModel) → slice_get parts n ≡ Some (Some p) → AreToldOver p.input p.content
