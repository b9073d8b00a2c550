-- Laws of code that is well formed.
--
-- docs/RULES.md, "Stack code". The Go specification, "Calls", "Function declarations", "Method declarations".
use Rattle.std.specs.Prelude.{◌≡◌, ◌⊎◌, ◌<◌, ◌≤◌, ℕ, suc, List, ◌∷◌, ◌++◌, length, map, filter, Option, Some, is_some, All, Contains, slice_get}
use Rattle.go_tree_nodes.specs.Rules.{Wf_file}
use Rattle.go_tree_nodes.specs.Trees.{FileTree, Func, FuncTree, TopTree}
use Rattle.go_tree_core.specs.declared.occurrence.Occ.{Occ}
use Rattle.go_tree_core.specs.declared.occurrence.Role.TheVariants as roles
use Rattle.go_tree_core.specs.Occurrences.{call_at, lines_occs}
use Rattle.go_graph_core.specs.Workspaces.{PackageModel, IsReadWorkspace}
use Rattle.govisd_resolve.specs.handle_core.Declarations.{Declaration}
use Rattle.go_body_core.specs.Notes.{TheUse}
use Rattle.go_emit_core.specs.package_core.PreparePackages.{trees_in}
use Rattle.go_report_core.specs.summary_core.Summaries.{SummaryModel}
use Rattle.go_emit_core.specs.package_core.PackagePartInputs.{InputModel, IsInput}
use Rattle.go_emit_core.specs.package_core.PackagePartParts.{ContentOf, FileOf, IsPart, PartModel}
use Rattle.go_object_core.specs.declared.instructions.instruction.Distance.TheVariants as distances
use Rattle.go_object_core.specs.declared.instructions.instruction.Instruction.{Instruction}
use Rattle.go_object_core.specs.declared.instructions.instruction.Instruction.TheVariants as instructions
use Rattle.go_code_core.specs.fragments.Names.{CodeLooks}
use Rattle.go_code_core.specs.Code.{code_of}
use Rattle.go_object_core.specs.Objects.{FunctionOf, ObjectOf}
use Rattle.go_emit_core.specs.Emitted.{object_over, objects_of, told_by}
use Rattle.go_emit_core.specs.Laws.{declaration_of, is_between}
use Rattle.go_snap_core.specs.declared.fault.PlacedFault.{PlacedFault}
use Rattle.go_snap_core.specs.Snapshots.{IsSnapshot}
use Rattle.go_workspace_laws.specs.Calls.{CallSite, IsCallOfSite, body_calls}
use Rattle.go_tree_nodes.specs.Spelling.{IsPlaced}
use Rattle.go_tree_nodes.specs.Counts.{item_count}
use Rattle.go_emit_core.specs.package_core.PackagePartSlots.{somes}

-- code of any function

-- a call of these, which is one of these occurrences, is called by this reference and with so many words
abbrev pub IsOfCall : CodeLooks → List Occ → List CallSite → ℕ → ℕ → Type 0
IsOfCall looks os calls reference words = (c : CallSite) × Contains os (call_at c.first) × Contains calls c × IsCallOfSite looks c reference words

-- what code calls is what a call of the function's body calls, which is an occurrence of the body
abbrev pub CallsAreOfTheBody : Type 0
CallsAreOfTheBody =
    (looks : CodeLooks) (func : FuncTree) (front rest : List Instruction) (reference words : ℕ)
    → code_of looks func ≡ front ++ instructions.Call reference words ∷ rest → IsOfCall looks (lines_occs func.body) (body_calls func) reference words

-- functions of objects

-- an instruction of a function, with so many instructions up to it, itself included, and so many behind it: a slot that it looks at is one of the
-- function's, what it calls is one of the function's references, and where it jumps is an instruction of the code, or its end
abbrev pub IsSound : {D : Type 0} → FunctionOf D → ℕ → ℕ → Instruction → Type 0
IsSound f before behind (instructions.Load slot) = slot < f.slots
IsSound f before behind (instructions.Store slot) = slot < f.slots
IsSound f before behind (instructions.Call reference arguments) = reference < length f.references
IsSound f before behind (instructions.Jump (distances.Forward n)) = n ≤ behind
IsSound f before behind (instructions.Jump (distances.Back n)) = n ≤ before
IsSound f before behind (instructions.JumpFalse n) = n ≤ behind
IsSound f before behind _ = Unit {0}

-- each instruction of its code is so
abbrev pub IsWellFormed : {D : Type 0} → FunctionOf D → Type 0
IsWellFormed f = (front rest : List Instruction) (i : Instruction) → f.code ≡ front ++ i ∷ rest → IsSound f (suc (length front)) (length rest) i

-- the files of a package are of the grammar, and their tokens follow one another
pub record AreOfGrammar (i : InputModel) : Type 0 where
  pub grammar : All Wf_file (trees_in i.source)
  pub placed : All IsPlaced (trees_in i.source)

-- each function of an object is well formed
abbrev pub ObjectsAreWellFormed : Type 0
ObjectsAreWellFormed =
    (all : List SummaryModel) (i : InputModel) (c : ContentOf) (o : ObjectOf Declaration) → IsInput i → IsPart i c → AreOfGrammar i → object_over all i c ≡ Some o
    → All (λ (f : FunctionOf Declaration). IsWellFormed f) o.functions

-- the occurrence of a number is that of a call of these, which has so many arguments, or one fewer where it is a call of a method
pub record IsCallWithWords (calls : List CallSite) (uses : List TheUse) (number words : ℕ) : Type 0 where
  pub call : CallSite
  pub among : Contains calls call
  pub use_of : TheUse
  pub there : slice_get uses number ≡ Some use_of
  pub role : use_of.role ≡ roles.Call
  pub offset : use_of.offset ≡ call.first.start
  pub handed : (words ≡ item_count call.items) ⊎ (words ≡ suc (item_count call.items))

-- a function of an object is one that a file of its package declares, by its name: its references are the declarations of the occurrences that stand between this
-- function's braces, one of each, in order of place; and what its code calls is the reference of an occurrence there that is a call, with a word for each
-- argument of the call, and one for a receiver
pub record RefersToItsBody (i : InputModel) (c : ContentOf) (f : FunctionOf Declaration) : Type 0 where
  pub number : ℕ
  pub tree : FileTree
  pub in_package : slice_get (trees_in i.source) number ≡ Some tree
  pub file : FileOf
  pub made : slice_get c.files number ≡ Some file
  pub func : FuncTree
  pub declared : (top : TopTree) × Contains tree.decls top × (top.decl ≡ Func func)
  pub name : f.name ≡ func.name.name
  pub has_receiver : f.has_receiver ≡ is_some func.receiver
  pub references : map Some f.references ≡ map (λ (u : TheUse). declaration_of u.outcome) (filter (is_between func) file.answers.uses)
  pub calls : (front rest : List Instruction) (reference words : ℕ) → f.code ≡ front ++ instructions.Call reference words ∷ rest → IsCallWithWords (body_calls func) (filter (is_between func) file.answers.uses) reference words

-- so does each function of an object
abbrev pub FunctionsReferToTheirBodies : Type 0
FunctionsReferToTheirBodies =
    (all : List SummaryModel) (i : InputModel) (c : ContentOf) (o : ObjectOf Declaration) → IsInput i → IsPart i c → AreOfGrammar i → object_over all i c ≡ Some o
    → All (RefersToItsBody i c) o.functions

-- objects of snapshots

-- the object of one of these parts, over what all of them tell, each function of which is well formed and refers to its body
pub record IsSoundObject (parts : List PartModel) (o : ObjectOf Declaration) : Type 0 where
  pub part : PartModel
  pub there : Contains parts part
  pub object : object_over (told_by parts) part.input part.content ≡ Some o
  pub formed : All (λ (f : FunctionOf Declaration). IsWellFormed f) o.functions
  pub refers : All (RefersToItsBody part.input part.content) o.functions

-- each object of a snapshot is so
abbrev pub SnapshotsHaveSoundObjects : Type 0
SnapshotsHaveSoundObjects =
    (ps : List PackageModel) (parts : List (Option PartModel)) (faults : List PlacedFault) → IsReadWorkspace ps → IsSnapshot ps parts faults → All (IsSoundObject (somes parts)) (objects_of (somes parts))
