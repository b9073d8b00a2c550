-- The sources of the objects of parts fit.
--
-- docs/RULES.md, "Stack code", "Programs". The Go specification, "Program execution".
use Rattle.std.specs.Prelude.{◌≡◌, ℕ, true, List, map, Option, Some, Contains, slice_get}
use Rattle.go_tree_nodes.specs.Trees.{FileTree, FuncTree}
use Rattle.go_names_core.specs.local_core.Binding.{Local}
use Rattle.go_body_core.specs.env_core.declared.meaning.Meaning.{Meaning as NameMeaning}
use Rattle.go_meaning_laws.specs.handle_core.Declarations.{Declaration}
use Rattle.go_code_core.specs.fragments.Inside.{in_fragment}
use Rattle.go_code_core.specs.Code.{frame_in}
use Rattle.go_meaning_laws.specs.source_meaning.Meaning.{SourceOf}
use Rattle.go_meaning_laws.specs.fitting_sources.Laws.{FunctionFits}
use Rattle.go_machine_core.specs.link.Functions.{PlaceModel, all_functions, number_of}
use Rattle.go_emit_core.specs.package_core.PackagePartInputs.{IsInput}
use Rattle.go_emit_core.specs.package_core.PackagePartParts.{FileOf, IsPart, PartModel}
use Rattle.go_emit_core.specs.meaning.Looking.{looks_of}
use Rattle.go_emit_core.specs.Emitted.{body_uses, code_scene_over, declarations_in, objects_of, told_by, told_to}
use Rattle.go_meaning_laws.specs.object_sources.Sources.{sources_of}
use Rattle.go_workspace_laws.specs.CodeLaws.{AreOfGrammar}
use Rattle.go_workspace_laws.specs.ConstantLaws.{ImportsAreOthers}
use Rattle.go_program_laws.specs.types.Fits.{IsServed}
use Rattle.go_program_laws.specs.types.Functions.{IsFunction}
use Rattle.go_program_laws.specs.types.Written.{ShowTheirTypes}

-- the names of a part's files come to the same over what all of these parts tell and over what those tell that the part reaches, and it itself
abbrev pub AreSeenAlike : List PartModel → PartModel → Type 0
AreSeenAlike ps p =
    (n : ℕ) (f : FileOf) (before : ℕ) → slice_get p.content.files n ≡ Some f
    → looks_of (code_scene_over (told_by ps) p.input p.content) n f.answers.uses f.answers.locals before ≡ looks_of (code_scene_over (told_to p.input p.content) p.input p.content) n f.answers.uses f.answers.locals before

-- a part among some, as it is of a workspace
pub record IsAmongParts (ps : List PartModel) (p : PartModel) : Type 0 where
  pub input : IsInput p.input
  pub others : ImportsAreOthers p.input
  pub part : IsPart p.input p.content
  pub files : AreOfGrammar p.input
  pub shows : ShowTheirTypes p.input p.content
  pub alike : AreSeenAlike ps p

-- what is asked of its functions beside what the check says of them, in the program of these parts
abbrev pub AreServed : (Declaration → Option PlaceModel) → List PartModel → PartModel → Type 0
AreServed place ps p =
    (n : ℕ) (t : FileTree) (f : FileOf) (g : FuncTree) (all : List (Local NameMeaning)) → IsFunction p.input p.content n t f g all
    → IsServed (sources_of place ps) (map (number_of place (all_functions (objects_of ps))) (declarations_in (body_uses f.answers.uses g))) p.input p.content n t f g all

-- then each source of which code is made fits
abbrev pub SourcesFit : Type 0
SourcesFit =
    (place : Declaration → Option PlaceModel) (ps : List PartModel) → ((p : PartModel) → Contains ps p → IsAmongParts ps p) → ((p : PartModel) → Contains ps p → AreServed place ps p)
    → (number : ℕ) (s : SourceOf) → slice_get (sources_of place ps) number ≡ Some s → in_fragment (frame_in s.looks s.tree) s.tree ≡ true → FunctionFits (sources_of place ps) s
