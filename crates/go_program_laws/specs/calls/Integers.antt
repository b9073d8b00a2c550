-- Integer literals have values in code.
--
-- docs/RULES.md, "Stack code". The Go specification, "Integer literals", "Constants".
use Rattle.std.specs.Prelude.{◌≡◌, ℕ, List, Option, Some, Contains, slice_get}
use Rattle.go_constant_core.specs.text_core.declared.span.Span.{Span}
use Rattle.go_tree_nodes.specs.Spelling.{spell_file, spell_func}
use Rattle.go_tree_nodes.specs.Terminals.{Terminal, terminal, Number}
use Rattle.go_tree_nodes.specs.Trees.{ExprTree, FileTree, FuncTree, Integer}
use Rattle.go_graph_core.specs.parse_core.Correct.{HasTree}
use Rattle.go_names_core.specs.local_core.Steps.{Piece}
use Rattle.go_report_core.specs.denote_core.declared.things.Stand.{Stand}
use Rattle.go_report_core.specs.denote_core.declared.things.Stand.TheVariants as stands
use Rattle.go_code_core.specs.fragments.Constants.{folded}
use Rattle.go_code_core.specs.fragments.Names.{CodeLooks}
use Rattle.go_workspace_laws.specs.folding.Parts.{parts}
use Rattle.go_meaning_laws.specs.source_meaning.Meaning.{SourceOf}
use Rattle.go_meaning_laws.specs.fitting_sources.Fitting.{IsGiven}
use Rattle.go_machine_core.specs.link.Functions.{PlaceModel}
use Rattle.go_meaning_laws.specs.handle_core.Declarations.{Declaration}
use Rattle.go_graph_core.specs.Workspaces.{AreAllRead, IsReadWorkspace, PackageModel}
use Rattle.go_emit_core.specs.package_core.PackagePartParts.{PartModel}
use Rattle.go_workspace_laws.specs.Standing.{piece_exprs, pieces_of}
use Rattle.go_snap_core.specs.whole_workspace.Inputs.{AreParts}
use Rattle.go_meaning_laws.specs.object_sources.Sources.{sources_of}

-- each integer literal among these terminals has a value, where names come to this
abbrev pub HaveValues : CodeLooks → List Terminal → Type 0
HaveValues looks ts = (n : ℕ) (span : Span) → Contains ts (terminal (Number n) span) → IsGiven (folded looks (Integer n span))

-- so it is of what the tree of a text writes, whatever names come to
abbrev pub TextsHaveValues : Type 0
TextsHaveValues = (text : List ℕ) (t : FileTree) → HasTree text t → (looks : CodeLooks) → HaveValues looks (spell_file t)

-- and of what each source of the objects of parts writes whose files are read
abbrev pub SourcesHaveValues : Type 0
SourcesHaveValues =
    (place : Declaration → Option PlaceModel) (ps : List PartModel) → ((p : PartModel) → Contains ps p → AreAllRead p.input.source)
    → (number : ℕ) (s : SourceOf) → slice_get (sources_of place ps) number ≡ Some s → HaveValues s.looks (spell_func s.tree)

-- an integer literal of an expression of a piece is one that the function writes, so that it has a value too
abbrev pub PiecesHaveValues : Type 0
PiecesHaveValues =
    (looks : CodeLooks) (g : FuncTree) → HaveValues looks (spell_func g) → (p : Piece) → Contains (pieces_of g) p → (e : ExprTree) → Contains (piece_exprs p) e
    → (q : Stand) (n : ℕ) (span : Span) → Contains (parts stands.«Value» e) (q, Integer n span) → IsGiven (folded looks (Integer n span))

-- where each file of a workspace is read, so are the files of each part
abbrev pub PartsAreRead : Type 0
PartsAreRead = (ps : List PackageModel) (parts : List (Option PartModel)) → IsReadWorkspace ps → AreParts ps parts → (n : ℕ) (p : PartModel) → slice_get parts n ≡ Some (Some p) → AreAllRead p.input.source
