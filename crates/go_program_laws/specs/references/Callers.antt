-- The functions that a package calls of its own: what they take is over what its calls are checked by.
--
-- docs/RULES.md, "Faces of declarations", "Stack code". The Go specification, "Calls", "Function declarations".
use Rattle.std.specs.Prelude.{◌≡◌, ℕ, All, List, Option, Some, Contains, slice_get}
use Rattle.go_tree_nodes.specs.Spelling.{IsPlaced}
use Rattle.go_tree_nodes.specs.Trees.{FileTree, FuncTree}
use Rattle.go_term_core.specs.decl_core.TopDecls.{FuncForm, TopDeclTree, top_decls}
use Rattle.go_term_core.specs.decl_core.declared.keys.DeclRef.{DeclRef}
use Rattle.go_names_core.specs.local_core.Binding.{Local}
use Rattle.go_term_core.specs.Terms.{Sign}
use Rattle.go_term_core.specs.declared.term.MemberPlace.TheVariants as places
use Rattle.go_meaning_laws.specs.handle_core.Declarations.{InFile}
use Rattle.go_emit_core.specs.declared_core.declared.face.Face.TheVariants as faces
use Rattle.go_body_core.specs.env_core.Found.{own_face}
use Rattle.go_body_core.specs.env_core.declared.meaning.Meaning.{Meaning as NameMeaning}
use Rattle.go_graph_core.specs.Workspaces.{IsReadWorkspace, IsWorkspace, PackageModel}
use Rattle.go_emit_core.specs.package_core.PreparePackages.{scene_in, trees_in}
use Rattle.go_emit_core.specs.package_core.PackagePartInputs.{InputModel, path_in}
use Rattle.go_emit_core.specs.package_core.PackagePartParts.{ContentOf, IsPart, PartModel, package_seen, seen_by}
use Rattle.go_emit_core.specs.package_core.PackagePartSlots.{somes}
use Rattle.go_snap_core.specs.whole_workspace.Inputs.{AreParts}
use Rattle.go_object_core.specs.declared.instructions.letters.Word.{Word}
use Rattle.go_meaning_laws.specs.fitting_sources.Fitting.{receiver_over, signature_gives}
use Rattle.go_meaning_laws.specs.fitting_sources.Laws.{IsReached}
use Rattle.go_machine_core.specs.link.Functions.{all_functions, number_of}
use Rattle.go_machine_core.specs.link.Linked.{IsRunnable, RunnableOf, program_of}
use Rattle.go_session_core.specs.launches.Located.{place_declared}
use Rattle.go_emit_core.specs.Emitted.{objects_of}
use Rattle.go_meaning_laws.specs.object_sources.Sources.{sources_of}
use Rattle.go_workspace_laws.specs.ConstantLaws.{code_names_of}
use Rattle.go_program_laws.specs.checked_sources.Statements.{AreOverEach}
use Rattle.go_program_laws.specs.types.Functions.{function_looks, known_types}
use Rattle.go_program_laws.specs.references.Callees.{IsDeclaredBehind, IsFunctionAt}
use Rattle.go_program_laws.specs.references.Headers.{signature_in}

-- a package has this signature for what is declared by the identifier of a number in the file of a number among its own
abbrev pub IsOwnFunction : InputModel → ContentOf → DeclRef → Sign → Type 0
IsOwnFunction i c d s = own_face (scene_in (package_seen i c.blocks (seen_by i)) (known_types i c)) c.declared d ≡ Some (faces.Func s)

-- it is the one that is written in the header of the function that the file declares there
abbrev pub OwnSignaturesAreTheirs : Type 0
OwnSignaturesAreTheirs =
    (i : InputModel) (c : ContentOf) → IsPart i c → All IsPlaced (trees_in i.source) → (d : DeclRef) (s : Sign) → IsOwnFunction i c d s
    → (t : FileTree) → slice_get (trees_in i.source) d.file ≡ Some t → (decl : TopDeclTree) → Contains (top_decls t) decl → decl.number ≡ d.number → (g : FuncTree) → decl.form ≡ FuncForm g
    → s ≡ signature_in i c d.file t g

-- so each function of a workspace that is reached takes words over the parameters of the signature by which calls in all functions of its own package are
-- checked, behind what its receiver is over, and gives what its own result gives
abbrev pub OwnCalleesTakeWords : Type 0
OwnCalleesTakeWords =
    (ws : List PackageModel) (parts : List (Option PartModel)) → IsReadWorkspace ws → AreParts ws parts → (main : List ℕ) (r : RunnableOf) → IsRunnable (program_of place_declared (objects_of (somes parts)) main) r
    → (path : List ℕ) (d : DeclRef) (number : ℕ) → IsReached (sources_of place_declared (somes parts)) r.starts number → (at : IsFunctionAt (somes parts) path d number)
    → (s : Sign) → IsOwnFunction at.part.input at.part.content d s → (n : ℕ) (t : FileTree) (all : List (Local NameMeaning))
    → (words : List Word)
    × IsDeclaredBehind (sources_of place_declared (somes parts)) number (signature_gives (code_names_of at.part.input at.part.content d.file at.file at.func) at.func.signature)
    (receiver_over (code_names_of at.part.input at.part.content d.file at.file at.func) at.func.receiver) words
    × AreOverEach (function_looks at.part.input at.part.content n t all).types words ((function_looks at.part.input at.part.content n t all).params s)

-- the parts of a workspace that are of one path are one part
abbrev pub PartsOfAPathAreOne : Type 0
PartsOfAPathAreOne =
    (ws : List PackageModel) (parts : List (Option PartModel)) → IsWorkspace ws → AreParts ws parts → (p q : PartModel) → Contains (somes parts) p → Contains (somes parts) q → path_in p.input ≡ path_in q.input → p ≡ q

-- a number is that of a function of this part, which takes words over the parameters of a signature as each function of the part sees it, behind what its
-- receiver is over
pub record IsOwnCallee (ps : List PartModel) (p : PartModel) (d : DeclRef) (number : ℕ) (s : Sign) : Type 0 where
  pub at : IsFunctionAt ps (path_in p.input) d number
  pub same : at.part ≡ p
  pub taken : (n : ℕ) (t : FileTree) (all : List (Local NameMeaning))
      → (words : List Word)
      × IsDeclaredBehind (sources_of place_declared ps) number (signature_gives (code_names_of at.part.input at.part.content d.file at.file at.func) at.func.signature)
      (receiver_over (code_names_of at.part.input at.part.content d.file at.file at.func) at.func.receiver) words
      × AreOverEach (function_looks p.input p.content n t all).types words ((function_looks p.input p.content n t all).params s)

-- so it is of each number of a part's own function that is reached
abbrev pub OwnReferencesTakeWords : Type 0
OwnReferencesTakeWords =
    (ws : List PackageModel) (parts : List (Option PartModel)) → IsReadWorkspace ws → AreParts ws parts → (main : List ℕ) (r : RunnableOf) → IsRunnable (program_of place_declared (objects_of (somes parts)) main) r
    → (p : PartModel) → Contains (somes parts) p → (d : DeclRef) (s : Sign) → IsOwnFunction p.input p.content d s
    → (number : ℕ) → number_of place_declared (all_functions (objects_of (somes parts))) (InFile (path_in p.input) (places.Declared d)) ≡ Some number → IsReached (sources_of place_declared (somes parts)) r.starts number
    → IsOwnCallee (somes parts) p d number s
