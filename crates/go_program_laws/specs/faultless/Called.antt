-- The functions to which the calls of a function lead.
--
-- docs/RULES.md, "Stack code", "Names, selectors and calls in expressions". The Go specification, "Calls", "Function declarations".
use Rattle.std.specs.Prelude.{◌≡◌, ◌⊎◌, ℕ, Bool, List, [], ◌∷◌, map, Option, Some, Contains}
use Rattle.go_tree_nodes.specs.Trees.{FileTree, FuncTree}
use Rattle.go_names_core.specs.local_core.Binding.{Local}
use Rattle.go_term_core.specs.Terms.{Defined, Sign}
use Rattle.go_body_core.specs.table_core.Entries.{Entry, Member, find_entry}
use Rattle.go_meaning_laws.specs.handle_core.DecidingRules.{term_rules}
use Rattle.go_report_core.specs.denote_core.declared.things.Exported.TheVariants as exporteds
use Rattle.go_report_core.specs.denote_core.declared.things.Found.TheVariants as founds
use Rattle.go_report_core.specs.denote_core.declared.things.Outcome.TheVariants as outcomes
use Rattle.go_report_core.specs.denote_core.declared.things.Selection.TheVariants as selections
use Rattle.go_report_core.specs.expr_core.Looks.{Looks}
use Rattle.go_meaning_laws.specs.handle_core.Declarations.{Declaration, InFile}
use Rattle.go_body_core.specs.env_core.declared.meaning.Meaning.{Meaning as NameMeaning}
use Rattle.go_body_core.specs.env_core.Looks.{TheLooks}
use Rattle.go_graph_core.specs.Workspaces.{IsWorkspace, PackageModel}
use Rattle.go_emit_core.specs.package_core.PackagePartInputs.{InputModel, path_in}
use Rattle.go_emit_core.specs.package_core.PackagePartParts.{ContentOf, FileOf, PartModel}
use Rattle.go_emit_core.specs.package_core.PackagePartSlots.{somes}
use Rattle.go_snap_core.specs.whole_workspace.Inputs.{AreParts}
use Rattle.go_object_core.specs.declared.instructions.letters.Word.{Word}
use Rattle.go_emit_core.specs.meaning.Words.{sign_gives}
use Rattle.go_code_core.specs.declared.fragments.names.Gives.{Gives}
use Rattle.go_code_core.specs.declared.fragments.names.Meaning.TheVariants as meanings
use Rattle.go_meaning_laws.specs.source_meaning.Meaning.{SourceOf}
use Rattle.go_meaning_laws.specs.fitting_sources.Fitting.{IsDeclared}
use Rattle.go_emit_core.specs.Emitted.{body_uses, declarations_in}
use Rattle.go_workspace_laws.specs.folding.Reading.{IsOver}
use Rattle.go_program_laws.specs.checked_sources.Statements.{AreOverEach}
use Rattle.go_program_laws.specs.types.Functions.{IsFunction, function_looks, known_types, meaning_there}
use Rattle.go_program_laws.specs.faultless.Served.{AreCallsServed}

-- a declaration is a function of this signature to the check: by its name, or behind the name of a package
abbrev pub IsFunctionOf : {T S D P : Type 0} → Looks T S D P → D → S → Type 0
IsFunctionOf {T} {S} {D} {P} looks d s = ((name : List ℕ) × (offset : ℕ) × (looks.find name offset ≡ founds.Func d s)) ⊎ ((e : D) × (name : List ℕ) × (looks.exported e name ≡ exporteds.Func d s))

-- it is a function of the program, which takes words over the parameters of the signature, and gives this
pub record IsKept (program : List SourceOf) (number_of : Declaration → Option ℕ) (looks : TheLooks) (d : Declaration) (s : Sign) (g : Gives) : Type 0 where
  pub number : ℕ
  pub is : number_of d ≡ Some number
  pub words : List Word
  pub over : AreOverEach looks.types words (looks.params s)
  pub declared : IsDeclared program number g words

-- each function to which a function refers is so, by the signature that the check has for it and by what code has for it
abbrev pub AreReferencesKept : List SourceOf → (Declaration → Option ℕ) → InputModel → ContentOf → ℕ → FileTree → FileOf → FuncTree → List (Local NameMeaning) → Type 0
AreReferencesKept program number_of i c n t f g all =
    (d : Declaration) (s : Sign) (gives : Gives) → Contains (declarations_in (body_uses f.answers.uses g)) d → IsFunctionOf (function_looks i c n t all) d s → meaning_there i c n f (outcomes.Declared d) ≡ meanings.Function gives
    → IsKept program number_of (function_looks i c n t all) d s gives

-- a declaration is a method of this signature to the check, behind such embedded fields: the member of a type over this
abbrev pub IsMethodOf : {T S D P : Type 0} → Looks T S D P → D → P → S → Word → Type 0
IsMethodOf {T} {S} {D} {P} looks d path s receiver =
    (t : T) × (name : List ℕ) × IsOver looks.types receiver (Some t) × (needs_pointer : Bool) × (by_pointer : Bool) × (looks.select t name ≡ selections.Method d path s needs_pointer by_pointer)

-- a declaration is that of a method of this signature of a type that a package knows, over this, to which no embedded field leads
pub record IsMethodDeclared (i : InputModel) (c : ContentOf) (d : Declaration) (path : List ℕ) (s : Sign) (receiver : Word) : Type 0 where
  pub entry : Entry
  pub known : find_entry (known_types i c) entry.key ≡ Some entry
  pub over : IsOver (term_rules (known_types i c) (path_in i)) receiver (Some (Defined entry.key))
  pub member : Member
  pub there : Contains entry.methods member
  pub alone : path ≡ []
  pub declared : d ≡ InFile entry.key.path member.place
  pub sign : s ≡ member.sign

-- so is each method of a type over `int` or `bool`
abbrev pub MethodsAreDeclared : Type 0
MethodsAreDeclared =
    (i : InputModel) (c : ContentOf) (n : ℕ) (t : FileTree) (all : List (Local NameMeaning)) (d : Declaration) (path : List ℕ) (s : Sign) (receiver : Word) → IsMethodOf (function_looks i c n t all) d path s receiver
    → IsMethodDeclared i c d path s receiver

-- in a workspace what it comes to in code, where that is a method, gives what its signature gives
abbrev pub MethodsGiveTheirs : Type 0
MethodsGiveTheirs =
    (ws : List PackageModel) (parts : List (Option PartModel)) → IsWorkspace ws → AreParts ws parts → (p : PartModel) → Contains (somes parts) p
    → (n : ℕ) (f : FileOf) (d : Declaration) (path : List ℕ) (s : Sign) (receiver : Word) → IsMethodDeclared p.input p.content d path s receiver
    → (given : Gives) → meaning_there p.input p.content n f (outcomes.Selected d path) ≡ meanings.Method given → sign_gives (known_types p.input p.content) s ≡ given

-- it is a function of the program, which takes a word over the receiver and words over the parameters of the signature, and gives this
pub record IsMethodKept (program : List SourceOf) (number_of : Declaration → Option ℕ) (looks : TheLooks) (d : Declaration) (s : Sign) (receiver : Word) (g : Gives) : Type 0 where
  pub number : ℕ
  pub is : number_of d ≡ Some number
  pub words : List Word
  pub over : AreOverEach looks.types words (looks.params s)
  pub declared : IsDeclared program number g (receiver ∷ words)

-- each method of a type over `int` or `bool` to which a function refers is so, by the signature that the check has for it and by what code has for it
abbrev pub AreMethodsKept : List SourceOf → (Declaration → Option ℕ) → InputModel → ContentOf → ℕ → FileTree → FileOf → FuncTree → List (Local NameMeaning) → Type 0
AreMethodsKept program number_of i c n t f g all =
    (d : Declaration) (path : List ℕ) (s : Sign) (receiver : Word) (gives : Gives) → Contains (declarations_in (body_uses f.answers.uses g)) d → IsMethodOf (function_looks i c n t all) d path s receiver
    → meaning_there i c n f (outcomes.Selected d path) ≡ meanings.Method gives → IsMethodKept program number_of (function_looks i c n t all) d s receiver gives

-- then the calls of a function of a workspace lead to functions that take their arguments, and receivers
abbrev pub CallsAreServed : Type 0
CallsAreServed =
    (ws : List PackageModel) (parts : List (Option PartModel)) → IsWorkspace ws → AreParts ws parts → (p : PartModel) → Contains (somes parts) p
    → (n : ℕ) (t : FileTree) (f : FileOf) (g : FuncTree) (all : List (Local NameMeaning)) → IsFunction p.input p.content n t f g all
    → (program : List SourceOf) (number_of : Declaration → Option ℕ) → AreReferencesKept program number_of p.input p.content n t f g all → AreMethodsKept program number_of p.input p.content n t f g all
    → AreCallsServed program (map number_of (declarations_in (body_uses f.answers.uses g))) p.input p.content n f g
