-- The sources to which references lead.
--
-- docs/RULES.md, "Stack code", "Programs". The Go specification, "Calls", "Packages", "Function declarations".
use Rattle.std.specs.Prelude.{◌≡◌, ℕ, true, List, Option, Some, Contains, slice_get}
use Rattle.go_tree_nodes.specs.Trees.{FileTree, FuncTree}
use Rattle.go_term_core.specs.decl_core.TopDecls.{FuncForm, TopDeclTree, top_decls}
use Rattle.go_term_core.specs.decl_core.declared.keys.DeclRef.{DeclRef}
use Rattle.go_term_core.specs.declared.term.MemberPlace.TheVariants as places
use Rattle.go_meaning_laws.specs.source_meaning.Meaning.{SourceOf}
use Rattle.go_machine_core.specs.link.Functions.{PlaceModel, all_functions, number_of}
use Rattle.go_meaning_laws.specs.handle_core.Declarations.{Declaration, InFile}
use Rattle.go_emit_core.specs.package_core.PreparePackages.{trees_in}
use Rattle.go_emit_core.specs.package_core.PackagePartInputs.{path_in}
use Rattle.go_emit_core.specs.package_core.PackagePartParts.{FileOf, PartModel}
use Rattle.go_emit_core.specs.Emitted.{are_clean, code_scene_over, objects_of, told_by}
use Rattle.go_emit_core.specs.meaning.Looking.{looks_of}
use Rattle.go_meaning_laws.specs.object_sources.Sources.{source_in, sources_of}

-- what is declared outside functions is at the place of its identifier
abbrev pub IsPlacing : (Declaration → Option PlaceModel) → Type 0
IsPlacing place = (path : List ℕ) (d : DeclRef) → place (InFile path (places.Declared d)) ≡ Some (record { path = path; file = d.file; number = d.number })

-- a source is the function that the file of a number of the part of a path declares by the identifier of a number; nothing is reported of this part
pub record IsSourceAt (place : Declaration → Option PlaceModel) (ps : List PartModel) (path : List ℕ) (d : DeclRef) (s : SourceOf) : Type 0 where
  pub part : PartModel
  pub there : Contains ps part
  pub clean : are_clean part.content.files ≡ true
  pub of_path : path_in part.input ≡ path
  pub tree : FileTree
  pub in_package : slice_get (trees_in part.input.source) d.file ≡ Some tree
  pub file : FileOf
  pub made : slice_get part.content.files d.file ≡ Some file
  pub decl : TopDeclTree
  pub among : Contains (top_decls tree) decl
  pub number : decl.number ≡ d.number
  pub func : FuncTree
  pub form : decl.form ≡ FuncForm func
  pub is : s ≡ source_in (number_of place (all_functions (objects_of ps))) file.answers.uses (looks_of (code_scene_over (told_by ps) part.input part.content) d.file file.answers.uses file.answers.locals) func

-- the number that a reference leads to is that of the source that is declared there
abbrev pub ReferencesLeadToTheirs : Type 0
ReferencesLeadToTheirs =
    (place : Declaration → Option PlaceModel) (ps : List PartModel) → IsPlacing place → (path : List ℕ) (d : DeclRef) (number : ℕ) → number_of place (all_functions (objects_of ps)) (InFile path (places.Declared d)) ≡ Some number
    → (s : SourceOf) × (slice_get (sources_of place ps) number ≡ Some s) × IsSourceAt place ps path d s
