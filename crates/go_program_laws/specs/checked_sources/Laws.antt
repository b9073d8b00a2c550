-- Where the functions of packages without faults are left.
--
-- docs/RULES.md, "Bodies of functions", "Stack code". The Go specification, "Function declarations", "Terminating statements", "Break statements",
-- "Continue statements".
use Rattle.std.specs.Prelude.{◌≡◌, ◌⊎◌, ℕ, false, true, List, Option, Some, Contains, slice_get}
use Rattle.go_tree_nodes.specs.Rules.{Wf_file}
use Rattle.go_tree_nodes.specs.Spelling.{IsPlaced}
use Rattle.go_tree_nodes.specs.Trees.{FileTree, FuncTree}
use Rattle.go_code_core.specs.declared.fragments.names.Gives.TheVariants as gives
use Rattle.go_code_core.specs.fragments.Names.{CodeLooks}
use Rattle.go_meaning_laws.specs.source_meaning.Meaning.{SourceOf}
use Rattle.go_meaning_laws.specs.fitting_sources.Ends.{lines_break, lines_continue, lines_terminate}
use Rattle.go_meaning_laws.specs.fitting_sources.Fitting.{signature_gives}
use Rattle.go_machine_core.specs.link.Functions.{PlaceModel}
use Rattle.go_meaning_laws.specs.handle_core.Declarations.{Declaration}
use Rattle.go_body_core.specs.file.Stands.{file_funcs}
use Rattle.go_emit_core.specs.package_core.PreparePackages.{trees_in}
use Rattle.go_report_core.specs.summary_core.Summaries.{SummaryModel}
use Rattle.go_emit_core.specs.package_core.PackagePartInputs.{InputModel, IsInput}
use Rattle.go_emit_core.specs.package_core.PackagePartParts.{ContentOf, FileOf, IsPart, PartModel}
use Rattle.go_emit_core.specs.Emitted.{are_clean, code_scene_over}
use Rattle.go_emit_core.specs.meaning.Looking.{looks_of}
use Rattle.go_workspace_laws.specs.CodeLaws.{AreOfGrammar}
use Rattle.go_meaning_laws.specs.object_sources.Sources.{sources_of}

-- each `break` and each `continue` of a function has a `for` around it, and its body ends in a terminating statement where it has a result
pub record EndsWell (looks : CodeLooks) (g : FuncTree) : Type 0 where
  pub no_break : lines_break g.body ≡ false
  pub no_continue : lines_continue g.body ≡ false
  pub ends : (signature_gives looks g.signature ≡ gives.Nothing) ⊎ (lines_terminate looks g.body ≡ true)

-- so it is of each function of a package of which nothing is reported, whatever packages tell
abbrev pub FunctionsEndWell : Type 0
FunctionsEndWell =
    (all : List SummaryModel) (i : InputModel) (c : ContentOf) → IsInput i → IsPart i c → are_clean c.files ≡ true
    → (n : ℕ) (t : FileTree) (f : FileOf) → slice_get (trees_in i.source) n ≡ Some t → slice_get c.files n ≡ Some f → Wf_file t → IsPlaced t
    → (g : FuncTree) → Contains (file_funcs t) g → (before : ℕ) → EndsWell (looks_of (code_scene_over all i c) n f.answers.uses f.answers.locals before) g

-- a part of a package whose files are of the grammar
pub record IsOfGrammar (p : PartModel) : Type 0 where
  pub input : IsInput p.input
  pub part : IsPart p.input p.content
  pub files : AreOfGrammar p.input

-- and of each source of the objects of such parts
abbrev pub SourcesEndWell : Type 0
SourcesEndWell =
    (place : Declaration → Option PlaceModel) (ps : List PartModel) → ((p : PartModel) → Contains ps p → IsOfGrammar p)
    → (number : ℕ) (s : SourceOf) → slice_get (sources_of place ps) number ≡ Some s → EndsWell s.looks s.tree
