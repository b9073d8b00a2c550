-- What the laws on functions ask beside what the check says, of the functions of a workspace.
--
-- docs/RULES.md, "Whole workspaces", "Stack code". The Go specification, "Packages", "Constants", "Integer literals", "Method sets".
use Rattle.std.specs.Prelude.{◌≡◌, ℕ, true, List, Option, Contains}
use Rattle.go_constant_core.specs.text_core.declared.span.Span.{Span}
use Rattle.go_tree_nodes.specs.Trees.{Call, ExprTree, FileTree, FuncTree, Integer, ItemTrees}
use Rattle.go_names_core.specs.local_core.Binding.{Local}
use Rattle.go_names_core.specs.local_core.Steps.{Piece}
use Rattle.go_term_core.specs.Terms.{Sign, Term}
use Rattle.go_report_core.specs.denote_core.declared.things.Stand.{Stand}
use Rattle.go_report_core.specs.denote_core.declared.things.Stand.TheVariants as stands
use Rattle.go_meaning_laws.specs.handle_core.Declarations.{Declaration}
use Rattle.go_body_core.specs.env_core.declared.meaning.Meaning.{Meaning as NameMeaning}
use Rattle.go_graph_core.specs.Workspaces.{IsReadWorkspace, IsWorkspace, PackageModel}
use Rattle.go_emit_core.specs.package_core.PackagePartInputs.{InputModel}
use Rattle.go_emit_core.specs.package_core.PackagePartParts.{ContentOf, FileOf, PartModel}
use Rattle.go_emit_core.specs.package_core.PackagePartSlots.{somes}
use Rattle.go_snap_core.specs.whole_workspace.Inputs.{AreParts}
use Rattle.go_code_core.specs.fragments.Constants.{folded}
use Rattle.go_code_core.specs.fragments.Fragment.{all_ones, receiver_fits}
use Rattle.go_code_core.specs.fragments.Names.{callee_meaning}
use Rattle.go_code_core.specs.Code.{frame_in, letters}
use Rattle.go_meaning_laws.specs.source_meaning.Meaning.{SourceOf}
use Rattle.go_meaning_laws.specs.fitting_sources.Fitting.{IsGiven, receiver_letters}
use Rattle.go_workspace_laws.specs.folding.Parts.{parts}
use Rattle.go_workspace_laws.specs.folding.Reading.{AreReadOver}
use Rattle.go_workspace_laws.specs.ConstantLaws.{code_names_of}
use Rattle.go_workspace_laws.specs.Standing.{piece_exprs, pieces_of}
use Rattle.go_program_laws.specs.checked_sources.Pieces.{ConstantsAreTyped}
use Rattle.go_program_laws.specs.types.Fits.{IsCallServed, IsServed}
use Rattle.go_program_laws.specs.types.Functions.{IsFunction, function_looks, meaning_there, source_with, typing_in}

-- integer literals have values in the functions of a part
abbrev pub HaveIntegers : InputModel → ContentOf → Type 0
HaveIntegers i c =
    (n : ℕ) (t : FileTree) (f : FileOf) (g : FuncTree) (all : List (Local NameMeaning)) → IsFunction i c n t f g all → (p : Piece) → Contains (pieces_of g) p → (e : ExprTree) → Contains (piece_exprs p) e
    → (q : Stand) (k : ℕ) (span : Span) → Contains (parts stands.«Value» e) (q, Integer k span) → IsGiven (folded (code_names_of i c n f g) (Integer k span))

-- so it is of each part of a workspace
abbrev pub IntegersAreGiven : Type 0
IntegersAreGiven = (ws : List PackageModel) (parts : List (Option PartModel)) → IsReadWorkspace ws → AreParts ws parts → (p : PartModel) → Contains (somes parts) p → HaveIntegers p.input p.content

-- in the functions of each part the constants that names stand for are of types over what their values are
abbrev pub ConstantsAreServed : Type 0
ConstantsAreServed =
    (ws : List PackageModel) (parts : List (Option PartModel)) → IsWorkspace ws → AreParts ws parts → (p : PartModel) → Contains (somes parts) p
    → (n : ℕ) (t : FileTree) (f : FileOf) (g : FuncTree) (all : List (Local NameMeaning)) → IsFunction p.input p.content n t f g all → ConstantsAreTyped Term Sign Declaration (List ℕ) (function_looks p.input p.content n t all)

-- each name of the functions of a workspace is in code what it is to the check, and calls of methods of operands over `int` and `bool` give what their
-- signatures give
abbrev pub NamesAreRead : Type 0
NamesAreRead =
    (ws : List PackageModel) (parts : List (Option PartModel)) → IsWorkspace ws → AreParts ws parts → (p : PartModel) → Contains (somes parts) p
    → (n : ℕ) (t : FileTree) (f : FileOf) (g : FuncTree) (all : List (Local NameMeaning)) → IsFunction p.input p.content n t f g all
    → AreReadOver Term Sign Declaration (List ℕ) (function_looks p.input p.content n t all) (meaning_there p.input p.content n f)

-- the calls of a function lead to functions that take their arguments, and receivers
abbrev pub AreCallsServed : List SourceOf → List (Option ℕ) → InputModel → ContentOf → ℕ → FileOf → FuncTree → Type 0
AreCallsServed program callees i c n f g =
    (p : Piece) → Contains (pieces_of g) p → (e : ExprTree) → Contains (piece_exprs p) e → (q : Stand) (x : ExprTree) (first : Span) (items : ItemTrees) (last : Span) → Contains (parts stands.«Value» e) (q, Call x first items last)
    → all_ones (frame_in (code_names_of i c n f g) g) items ≡ true → receiver_fits (frame_in (code_names_of i c n f g) g) x ≡ true
    → IsCallServed program (source_with (code_names_of i c n f g) callees g) (typing_in i c f) (callee_meaning (code_names_of i c n f g) x) first.start (receiver_letters (frame_in (code_names_of i c n f g) g) x) (letters (frame_in (code_names_of i c n f g) g) items)

-- of the functions of a workspace all else is so that the laws ask of them
abbrev pub FunctionsAreServed : Type 0
FunctionsAreServed =
    (ws : List PackageModel) (parts : List (Option PartModel)) → IsReadWorkspace ws → AreParts ws parts → (program : List SourceOf) (callees : List (Option ℕ)) → (p : PartModel) → Contains (somes parts) p
    → (n : ℕ) (t : FileTree) (f : FileOf) (g : FuncTree) (all : List (Local NameMeaning)) → IsFunction p.input p.content n t f g all
    → AreCallsServed program callees p.input p.content n f g → IsServed program callees p.input p.content n t f g all
