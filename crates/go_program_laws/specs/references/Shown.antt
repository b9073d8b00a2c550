-- The functions that the check of a part finds by their names, or behind names of packages.
--
-- docs/RULES.md, "Faces of declarations", "Names, selectors and calls in expressions", "Stack code". The Go specification, "Qualified identifiers", "Exported identifiers",
-- "Method declarations".
use Rattle.std.specs.Prelude.{◌≡◌, ℕ, true, All, List, Option, Some, None, Contains, slice_get}
use Rattle.go_tree_nodes.specs.Spelling.{IsPlaced}
use Rattle.go_tree_nodes.specs.Trees.{FileTree, FuncTree}
use Rattle.go_term_core.specs.decl_core.TopDecls.{FuncForm, TopDeclTree, top_decls}
use Rattle.go_term_core.specs.decl_core.declared.keys.DeclRef.{DeclRef}
use Rattle.go_names_core.specs.local_core.Binding.{Local}
use Rattle.go_names_core.specs.block_core.Tables.{in_block}
use Rattle.go_term_core.specs.Terms.{Sign}
use Rattle.go_term_core.specs.declared.term.MemberPlace.TheVariants as places
use Rattle.go_meaning_laws.specs.handle_core.Declarations.{Declaration, InFile}
use Rattle.go_body_core.specs.env_core.declared.meaning.Meaning.{Meaning as NameMeaning}
use Rattle.go_graph_core.specs.Workspaces.{IsWorkspace, PackageModel}
use Rattle.go_emit_core.specs.package_core.PreparePackages.{trees_in}
use Rattle.go_emit_core.specs.package_core.PackagePartInputs.{InputModel, path_in}
use Rattle.go_emit_core.specs.package_core.PackagePartParts.{ContentOf, FileOf, IsPart, PartModel}
use Rattle.go_emit_core.specs.package_core.PackagePartSlots.{somes}
use Rattle.go_snap_core.specs.whole_workspace.Inputs.{AreParts}
use Rattle.go_object_core.specs.declared.instructions.letters.Word.{Word}
use Rattle.go_code_core.specs.declared.fragments.names.Meaning.TheVariants as meanings
use Rattle.go_code_core.specs.fragments.Inside.{in_fragment}
use Rattle.go_code_core.specs.Code.{frame_in}
use Rattle.go_meaning_laws.specs.fitting_sources.Fitting.{signature_gives}
use Rattle.go_machine_core.specs.link.Functions.{all_functions, number_of}
use Rattle.go_session_core.specs.launches.Located.{place_declared}
use Rattle.go_emit_core.specs.meaning.Scenes.{decl_meaning}
use Rattle.go_emit_core.specs.meaning.Words.{sign_gives}
use Rattle.go_emit_core.specs.Emitted.{are_clean, code_scene_over, objects_of, told_to}
use Rattle.go_workspace_laws.specs.ConstantLaws.{code_names_of}
use Rattle.go_program_laws.specs.checked_sources.Statements.{AreOverEach}
use Rattle.go_program_laws.specs.types.Functions.{IsFunction, function_looks, known_types}
use Rattle.go_program_laws.specs.types.Written.{ShowTheirTypes}
use Rattle.go_program_laws.specs.faultless.Called.{IsFunctionOf}
use Rattle.go_program_laws.specs.references.Callers.{IsOwnFunction}
use Rattle.go_program_laws.specs.references.Headers.{signature_in}
use Rattle.go_program_laws.specs.references.Reached.{SeesPart}

-- a declaration is one that a part declares under a name of its package block, and a function of this signature there; the code of another part, which sees
-- that one, has for it what the signature gives
pub record IsFunctionOfPart (ps : List PartModel) (p : PartModel) (d : Declaration) (s : Sign) : Type 0 where
  pub part : PartModel
  pub there : Contains ps part
  pub seen : SeesPart p part
  pub decl : DeclRef
  pub is : d ≡ InFile (path_in part.input) (places.Declared decl)
  pub name : List ℕ
  pub named : in_block part.content.blocks.names name ≡ Some decl
  pub own : IsOwnFunction part.input part.content decl s
  pub meant : decl_meaning (code_scene_over (told_to p.input p.content) p.input p.content) (path_in part.input) decl ≡ meanings.Function (sign_gives (known_types p.input p.content) s)

-- what the check of a function of a workspace takes for a function is so
abbrev pub FunctionsAreOfParts : Type 0
FunctionsAreOfParts =
    (ws : List PackageModel) (parts : List (Option PartModel)) → IsWorkspace ws → AreParts ws parts → (p : PartModel) → Contains (somes parts) p
    → (n : ℕ) (t : FileTree) (f : FileOf) (g : FuncTree) (all : List (Local NameMeaning)) → IsFunction p.input p.content n t f g all
    → (d : Declaration) (s : Sign) → IsFunctionOf (function_looks p.input p.content n t all) d s → IsFunctionOfPart (somes parts) p d s

-- what the package block binds to a function has no receiver
abbrev pub NamesLeadToNoMethods : Type 0
NamesLeadToNoMethods =
    (i : InputModel) (c : ContentOf) → IsPart i c → (name : List ℕ) (d : DeclRef) → in_block c.blocks.names name ≡ Some d
    → (t : FileTree) → slice_get (trees_in i.source) d.file ≡ Some t → (decl : TopDeclTree) → Contains (top_decls t) decl → decl.number ≡ d.number → (g : FuncTree) → decl.form ≡ FuncForm g → g.receiver ≡ None

-- a function of a part of which nothing is reported has a number in the program
abbrev pub FunctionsHaveNumbers : Type 0
FunctionsHaveNumbers =
    (ps : List PartModel) (q : PartModel) → Contains ps q → IsPart q.input q.content → All IsPlaced (trees_in q.input.source) → are_clean q.content.files ≡ true
    → (d : DeclRef) (s : Sign) → IsOwnFunction q.input q.content d s → (number : ℕ) × (number_of place_declared (all_functions (objects_of ps)) (InFile (path_in q.input) (places.Declared d)) ≡ Some number)

-- what a call gives by the signature of a function of which code is made is what its header gives
abbrev pub HeadersGiveTheirResults : Type 0
HeadersGiveTheirResults =
    (i : InputModel) (c : ContentOf) (n : ℕ) (t : FileTree) (f : FileOf) (g : FuncTree) (all : List (Local NameMeaning)) → IsFunction i c n t f g all → ShowTheirTypes i c
    → in_fragment (frame_in (code_names_of i c n f g) g) g ≡ true → sign_gives (known_types i c) (signature_in i c n t g) ≡ signature_gives (code_names_of i c n f g) g.signature

-- a signature gives the same over what two parts know, and words that are over its parameters in one are so in the other
pub record IsSignAlike (p q : PartModel) (s : Sign) : Type 0 where
  pub gives : sign_gives (known_types q.input q.content) s ≡ sign_gives (known_types p.input p.content) s
  pub takes : (words : List Word) (m : ℕ) (u : FileTree) (more : List (Local NameMeaning)) (n : ℕ) (t : FileTree) (all : List (Local NameMeaning))
      → AreOverEach (function_looks q.input q.content m u more).types words ((function_looks q.input q.content m u more).params s)
      → AreOverEach (function_looks p.input p.content n t all).types words ((function_looks p.input p.content n t all).params s)

-- so it is of the signature of each function of a part, in each part of the workspace that sees it
abbrev pub SignaturesAreAlike : Type 0
SignaturesAreAlike =
    (ws : List PackageModel) (parts : List (Option PartModel)) → IsWorkspace ws → AreParts ws parts → (p q : PartModel) → Contains (somes parts) p → Contains (somes parts) q → SeesPart p q
    → (d : DeclRef) (s : Sign) → IsOwnFunction q.input q.content d s → IsSignAlike p q s
