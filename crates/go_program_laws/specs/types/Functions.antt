-- A function of a package of which nothing is reported, with what it is checked by and what its names come to in code.
--
-- docs/RULES.md, "Bodies of functions", "Stack code". The Go specification, "Declarations and scope", "Function declarations".
use Rattle.std.specs.Prelude.{◌≡◌, ℕ, true, List, Option, Some, Contains, slice_get}
use Rattle.go_tree_nodes.specs.Rules.{Wf_file}
use Rattle.go_tree_nodes.specs.Spelling.{IsPlaced}
use Rattle.go_tree_nodes.specs.Trees.{FileTree, FuncTree}
use Rattle.go_names_core.specs.local_core.Binding.{Local}
use Rattle.go_report_core.specs.denote_core.declared.things.Outcome.{Outcome}
use Rattle.go_code_core.specs.declared.fragments.names.Meaning.{Meaning}
use Rattle.go_code_core.specs.fragments.Names.{CodeLooks}
use Rattle.go_meaning_laws.specs.source_meaning.Meaning.{SourceOf}
use Rattle.go_meaning_laws.specs.fitting_sources.Fitting.{Typing}
use Rattle.go_body_core.specs.table_core.Entries.{Entry}
use Rattle.go_body_core.specs.env_core.declared.meaning.Meaning.{Meaning as NameMeaning}
use Rattle.go_body_core.specs.env_core.Looks.{TheLooks}
use Rattle.go_meaning_laws.specs.handle_core.Declarations.{Declaration}
use Rattle.go_body_core.specs.function.Functions.{AreFuncDeclarations}
use Rattle.go_body_core.specs.file.Stands.{file_funcs}
use Rattle.go_emit_core.specs.package_core.PreparePackages.{trees_in}
use Rattle.go_report_core.specs.summary_core.Views.{types_told}
use Rattle.go_emit_core.specs.package_core.PackagePartInputs.{InputModel, IsInput}
use Rattle.go_emit_core.specs.package_core.PackagePartParts.{ContentOf, FileOf, IsPart}
use Rattle.go_emit_core.specs.meaning.Looking.{locals_meant}
use Rattle.go_emit_core.specs.meaning.Scenes.{outcome_meaning}
use Rattle.go_emit_core.specs.Emitted.{are_clean, code_scene_over, told_to}
use Rattle.go_workspace_laws.specs.ConstantLaws.{ImportsAreOthers}
use Rattle.go_workspace_laws.specs.Standing.{looks_among, stand_in_part}
use Rattle.go_program_laws.specs.checked_sources.Variables.{typing_of}

-- a function of the file of a number of a package of which nothing is reported, where these are all of its declarations
pub record IsFunction (i : InputModel) (c : ContentOf) (n : ℕ) (t : FileTree) (f : FileOf) (g : FuncTree) (all : List (Local NameMeaning)) : Type 0 where
  pub input : IsInput i
  pub others : ImportsAreOthers i
  pub part : IsPart i c
  pub clean : are_clean c.files ≡ true
  pub tree : slice_get (trees_in i.source) n ≡ Some t
  pub file : slice_get c.files n ≡ Some f
  pub grammar : Wf_file t
  pub placed : IsPlaced t
  pub func : Contains (file_funcs t) g
  pub right : AreFuncDeclarations (stand_in_part i c n t) g all

-- the types that the package knows: those that the packages tell which it reaches, and its own
abbrev pub known_types : InputModel → ContentOf → List Entry
known_types i c = types_told (told_to i c)

-- what its pieces are judged by
abbrev pub function_looks : InputModel → ContentOf → ℕ → FileTree → List (Local NameMeaning) → TheLooks
function_looks i c n t all = looks_among (stand_in_part i c n t) all

-- what an occurrence of the file comes to in code
abbrev pub meaning_there : InputModel → ContentOf → ℕ → FileOf → Outcome Declaration (List ℕ) → Meaning
meaning_there i c n f o = outcome_meaning (code_scene_over (told_to i c) i c) n (locals_meant (known_types i c) f.answers.locals) o

-- what the variables of the file are over
abbrev pub typing_in : InputModel → ContentOf → FileOf → Typing
typing_in i c f = typing_of (known_types i c) f.answers.locals

-- a function as it stands in a program where its names come to this and its references lead to these
abbrev pub source_with : CodeLooks → List (Option ℕ) → FuncTree → SourceOf
source_with looks callees g = record { looks = looks; callees = callees; tree = g }
