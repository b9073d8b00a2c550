-- The functions to which references lead: where they are declared, and what they take.
--
-- docs/RULES.md, "Stack code", "Programs". The Go specification, "Calls", "Function declarations", "Function types".
use Rattle.std.specs.Prelude.{◌≡◌, ℕ, true, List, ◌++◌, map, Option, Some, Contains, slice_get}
use Rattle.go_tree_nodes.specs.Trees.{FileTree, FuncTree, SignatureTree, Signed}
use Rattle.go_term_core.specs.decl_core.TopDecls.{FuncForm, TopDeclTree, top_decls}
use Rattle.go_term_core.specs.decl_core.declared.keys.DeclRef.{DeclRef}
use Rattle.go_names_core.specs.local_core.Binding.{Local}
use Rattle.go_term_core.specs.Terms.{Term}
use Rattle.go_term_core.specs.declared.term.MemberPlace.TheVariants as places
use Rattle.go_body_core.specs.stmt_core.PieceHeaders.{entry_types}
use Rattle.go_meaning_laws.specs.handle_core.Declarations.{InFile}
use Rattle.go_body_core.specs.env_core.declared.meaning.Meaning.{Meaning as NameMeaning}
use Rattle.go_body_core.specs.env_core.Looks.{TheLooks}
use Rattle.go_graph_core.specs.Workspaces.{IsReadWorkspace, PackageModel}
use Rattle.go_emit_core.specs.package_core.PackagePartInputs.{InputModel, path_in}
use Rattle.go_emit_core.specs.package_core.PackagePartParts.{ContentOf, FileOf, PartModel}
use Rattle.go_emit_core.specs.package_core.PackagePartSlots.{somes}
use Rattle.go_snap_core.specs.whole_workspace.Inputs.{AreParts}
use Rattle.go_object_core.specs.declared.instructions.letters.Word.{Word}
use Rattle.go_code_core.specs.declared.fragments.names.Gives.{Gives}
use Rattle.go_code_core.specs.fragments.Inside.{in_fragment}
use Rattle.go_code_core.specs.Code.{frame_in}
use Rattle.go_meaning_laws.specs.source_meaning.Meaning.{SourceOf}
use Rattle.go_meaning_laws.specs.fitting_sources.Fitting.{IsDeclared, receiver_over, signature_gives, taken_by}
use Rattle.go_meaning_laws.specs.fitting_sources.Laws.{IsReached}
use Rattle.go_machine_core.specs.link.Functions.{all_functions, number_of}
use Rattle.go_machine_core.specs.link.Linked.{IsRunnable, RunnableOf, program_of}
use Rattle.go_session_core.specs.launches.Located.{place_declared}
use Rattle.go_emit_core.specs.Emitted.{objects_of}
use Rattle.go_meaning_laws.specs.object_sources.Sources.{sources_of}
use Rattle.go_workspace_laws.specs.ConstantLaws.{code_names_of}
use Rattle.go_program_laws.specs.checked_sources.Statements.{AreOverEach}
use Rattle.go_program_laws.specs.calls.Places.{IsPlacing}
use Rattle.go_program_laws.specs.types.Functions.{IsFunction, function_looks, source_with}
use Rattle.go_program_laws.specs.types.Written.{ShowTheirTypes}
use Rattle.go_program_laws.specs.faultless.Runs.{callees_of}

-- each declaration outside functions is launched at the place of its identifier
abbrev pub DeclarationsArePlaced : Type 0
DeclarationsArePlaced = IsPlacing place_declared

-- a number is that of the function which the file of a number of the part of a path declares by the identifier of a number: nothing is reported of it, and
-- its names come to what they come to over what the part reaches
pub record IsFunctionAt (ps : List PartModel) (path : List ℕ) (d : DeclRef) (number : ℕ) : Type 0 where
  pub part : PartModel
  pub there : Contains ps part
  pub of_path : path_in part.input ≡ path
  pub tree : FileTree
  pub file : FileOf
  pub func : FuncTree
  pub all : List (Local NameMeaning)
  pub checked : IsFunction part.input part.content d.file tree file func all
  pub decl : TopDeclTree
  pub among : Contains (top_decls tree) decl
  pub declared : decl.number ≡ d.number
  pub form : decl.form ≡ FuncForm func
  pub is : slice_get (sources_of place_declared ps) number ≡ Some (source_with (code_names_of part.input part.content d.file file func) (callees_of place_declared ps file func) func)

-- the number to which a reference leads is so
abbrev pub ReferencesLeadToFunctions : Type 0
ReferencesLeadToFunctions =
    (ws : List PackageModel) (parts : List (Option PartModel)) → IsReadWorkspace ws → AreParts ws parts
    → (path : List ℕ) (d : DeclRef) (number : ℕ) → number_of place_declared (all_functions (objects_of (somes parts))) (InFile path (places.Declared d)) ≡ Some number
    → IsFunctionAt (somes parts) path d number

-- the types of the parameters of a header, one for each that it takes
abbrev pub types_taken : TheLooks → SignatureTree → List (Option Term)
types_taken looks (Signed first params last results) = entry_types looks true params

-- a function takes words over the types of its parameters, behind what its receiver is over
pub record TakesWords (i : InputModel) (c : ContentOf) (n : ℕ) (t : FileTree) (g : FuncTree) (all : List (Local NameMeaning)) (s : SourceOf) : Type 0 where
  pub words : List Word
  pub takes : taken_by s ≡ receiver_over s.looks s.tree.receiver ++ map Some words
  pub over : AreOverEach (function_looks i c n t all).types words (types_taken (function_looks i c n t all) g.signature)

-- so it is of each of which code is made
abbrev pub FunctionsTakeWords : Type 0
FunctionsTakeWords =
    (i : InputModel) (c : ContentOf) (n : ℕ) (t : FileTree) (f : FileOf) (g : FuncTree) (all : List (Local NameMeaning)) → IsFunction i c n t f g all → ShowTheirTypes i c
    → in_fragment (frame_in (code_names_of i c n f g) g) g ≡ true → (callees : List (Option ℕ)) → TakesWords i c n t g all (source_with (code_names_of i c n f g) callees g)

-- in a program of the objects of parts that can be run code is made of each function to which references lead
abbrev pub ReachedAreInside : Type 0
ReachedAreInside =
    (ps : List PartModel) (main : List ℕ) (r : RunnableOf) → IsRunnable (program_of place_declared (objects_of ps) main) r
    → (number : ℕ) (s : SourceOf) → IsReached (sources_of place_declared ps) r.starts number → slice_get (sources_of place_declared ps) number ≡ Some s → in_fragment (frame_in s.looks s.tree) s.tree ≡ true

-- a function gives this, and takes these words behind each one that its receiver is over, if it has one
abbrev pub IsDeclaredBehind : List SourceOf → ℕ → Gives → List (Option Word) → List Word → Type 0
IsDeclaredBehind program number g receiver words = (first : List Word) → receiver ≡ map Some first → IsDeclared program number g (first ++ words)

-- a function of a number takes words over the types of the parameters of its header, and gives what its own result gives
pub record IsDeclaredAt (ps : List PartModel) (path : List ℕ) (d : DeclRef) (number : ℕ) : Type 0 where
  pub at : IsFunctionAt ps path d number
  pub taken : (words : List Word)
      × IsDeclaredBehind (sources_of place_declared ps) number (signature_gives (code_names_of at.part.input at.part.content d.file at.file at.func) at.func.signature)
      (receiver_over (code_names_of at.part.input at.part.content d.file at.file at.func) at.func.receiver) words
      × AreOverEach (function_looks at.part.input at.part.content d.file at.tree at.all).types words (types_taken (function_looks at.part.input at.part.content d.file at.tree at.all) at.func.signature)

-- so it is of each function of a workspace to which a reference leads that is reached, where the program can be run
abbrev pub ReachedTakeWords : Type 0
ReachedTakeWords =
    (ws : List PackageModel) (parts : List (Option PartModel)) → IsReadWorkspace ws → AreParts ws parts → (main : List ℕ) (r : RunnableOf) → IsRunnable (program_of place_declared (objects_of (somes parts)) main) r
    → (path : List ℕ) (d : DeclRef) (number : ℕ) → IsReached (sources_of place_declared (somes parts)) r.starts number → number_of place_declared (all_functions (objects_of (somes parts))) (InFile path (places.Declared d)) ≡ Some number
    → IsDeclaredAt (somes parts) path d number
