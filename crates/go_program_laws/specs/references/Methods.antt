-- The methods that the check of a part selects of types over `int` and `bool`.
--
-- docs/RULES.md, "Stack code", "Names, selectors and calls in expressions". The Go specification, "Method declarations", "Selectors", "Calls".
use Rattle.std.specs.Prelude.{◌≡◌, ℕ, true, List, [], ◌∷◌, map, Option, Some, Contains, slice_get}
use Rattle.go_tree_nodes.specs.declared.files.Receiver.{Receiver}
use Rattle.go_tree_nodes.specs.Trees.{FileTree, FuncTree}
use Rattle.go_term_core.specs.decl_core.TopDecls.{FuncForm, TopDeclTree, top_decls}
use Rattle.go_term_core.specs.decl_core.declared.keys.DeclKey.{DeclKey}
use Rattle.go_term_core.specs.decl_core.declared.keys.DeclRef.{DeclRef}
use Rattle.go_names_core.specs.local_core.Binding.{Local}
use Rattle.go_term_core.specs.Terms.{Defined, Sign}
use Rattle.go_term_core.specs.declared.term.MemberPlace.TheVariants as places
use Rattle.go_meaning_laws.specs.handle_core.DecidingRules.{term_rules}
use Rattle.go_meaning_laws.specs.handle_core.Declarations.{Declaration, InFile}
use Rattle.go_body_core.specs.env_core.declared.meaning.Meaning.{Meaning as NameMeaning}
use Rattle.go_graph_core.specs.Workspaces.{IsReadWorkspace, PackageModel}
use Rattle.go_emit_core.specs.package_core.PreparePackages.{trees_in}
use Rattle.go_emit_core.specs.package_core.PackagePartInputs.{InputModel, path_in}
use Rattle.go_emit_core.specs.package_core.PackagePartParts.{ContentOf, FileOf, PartModel}
use Rattle.go_emit_core.specs.package_core.PackagePartSlots.{somes}
use Rattle.go_snap_core.specs.whole_workspace.Inputs.{AreParts}
use Rattle.go_object_core.specs.declared.instructions.letters.Word.{Word}
use Rattle.go_code_core.specs.fragments.Inside.{in_fragment}
use Rattle.go_code_core.specs.Code.{frame_in}
use Rattle.go_meaning_laws.specs.fitting_sources.Fitting.{receiver_over}
use Rattle.go_workspace_laws.specs.folding.Reading.{IsOver}
use Rattle.go_workspace_laws.specs.ConstantLaws.{code_names_of}
use Rattle.go_workspace_laws.specs.Standing.{stand_in_part}
use Rattle.go_program_laws.specs.types.Functions.{IsFunction, known_types}
use Rattle.go_program_laws.specs.types.Written.{ShowTheirTypes}
use Rattle.go_program_laws.specs.faultless.Called.{IsMethodDeclared}
use Rattle.go_program_laws.specs.references.Callers.{IsOwnFunction}
use Rattle.go_program_laws.specs.references.Reached.{SeesPart}

-- a function of the file of a number has a receiver, and the name of its base means, at the top of the file, a type that the package knows, over this
pub record IsReceivedOver (i : InputModel) (c : ContentOf) (n : ℕ) (t : FileTree) (g : FuncTree) (w : Word) : Type 0 where
  pub receiver : Receiver
  pub is : g.receiver ≡ Some receiver
  pub key : DeclKey
  pub base : (stand_in_part i c n t).top receiver.base ≡ Defined key
  pub over : IsOver (term_rules (known_types i c) (path_in i)) w (Some (Defined key))

-- so is each function that a package declares there
abbrev pub AreReceivedOver : InputModel → ContentOf → DeclRef → Word → Type 0
AreReceivedOver i c d w =
    (t : FileTree) → slice_get (trees_in i.source) d.file ≡ Some t → (decl : TopDeclTree) → Contains (top_decls t) decl → decl.number ≡ d.number → (g : FuncTree) → decl.form ≡ FuncForm g → IsReceivedOver i c d.file t g w

-- a declaration is that of a function of this signature, of a part which this one sees, and its receiver is over this there
pub record IsMethodOfPart (ps : List PartModel) (p : PartModel) (d : Declaration) (s : Sign) (w : Word) : Type 0 where
  pub part : PartModel
  pub there : Contains ps part
  pub seen : SeesPart p part
  pub decl : DeclRef
  pub is : d ≡ InFile (path_in part.input) (places.Declared decl)
  pub own : IsOwnFunction part.input part.content decl s
  pub received : AreReceivedOver part.input part.content decl w

-- so is each method of a type over `int` or `bool` that a part of a workspace knows, of its own types or another package's
abbrev pub MethodsAreOfParts : Type 0
MethodsAreOfParts =
    (ws : List PackageModel) (parts : List (Option PartModel)) → IsReadWorkspace ws → AreParts ws parts → (p : PartModel) → Contains (somes parts) p
    → (d : Declaration) (path : List ℕ) (s : Sign) (w : Word) → IsMethodDeclared p.input p.content d path s w → IsMethodOfPart (somes parts) p d s w

-- a function of which code is made takes one word over such a receiver
abbrev pub ReceiversTakeWords : Type 0
ReceiversTakeWords =
    (i : InputModel) (c : ContentOf) (n : ℕ) (t : FileTree) (f : FileOf) (g : FuncTree) (all : List (Local NameMeaning)) → IsFunction i c n t f g all → ShowTheirTypes i c
    → in_fragment (frame_in (code_names_of i c n f g) g) g ≡ true → (w : Word) → IsReceivedOver i c n t g w → receiver_over (code_names_of i c n f g) g.receiver ≡ map Some (w ∷ [])
