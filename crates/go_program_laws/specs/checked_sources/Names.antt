-- Names alone are no methods.
--
-- docs/RULES.md, "Names, selectors and calls in expressions", "Stack code". The Go specification, "Uniqueness of identifiers", "Declarations and scope", "Selectors".
use Rattle.std.specs.Prelude.{◌≡◌, ℕ, true, List, [], Some, Contains, slice_get}
use Rattle.go_tree_nodes.specs.Rules.{Wf_file}
use Rattle.go_tree_nodes.specs.Spelling.{IsPlaced}
use Rattle.go_tree_nodes.specs.Trees.{FileTree, FuncTree, ExprTree, Named}
use Rattle.go_tree_nodes.specs.declared.names.Ident.{Ident}
use Rattle.go_names_core.specs.local_core.Binding.{Local}
use Rattle.go_names_core.specs.local_core.Steps.{Piece}
use Rattle.go_report_core.specs.denote_core.declared.things.Outcome.{Outcome}
use Rattle.go_report_core.specs.denote_core.declared.things.Stand.{Stand}
use Rattle.go_report_core.specs.denote_core.declared.things.Stand.TheVariants as stands
use Rattle.go_report_core.specs.expr_core.Faults.{faults}
use Rattle.go_report_core.specs.expr_core.Looks.{Looks}
use Rattle.go_report_core.specs.expr_core.Uses.{uses}
use Rattle.go_code_core.specs.declared.fragments.names.Gives.{Gives}
use Rattle.go_code_core.specs.declared.fragments.names.Meaning.{Meaning}
use Rattle.go_code_core.specs.declared.fragments.names.Meaning.TheVariants as meanings
use Rattle.go_code_core.specs.fragments.Names as code_names
use Rattle.go_workspace_laws.specs.folding.Laws.{AreMeant}
use Rattle.go_workspace_laws.specs.folding.Parts.{parts}
use Rattle.go_workspace_laws.specs.folding.Reading.{AreNamesRead}
use Rattle.go_body_core.specs.env_core.declared.meaning.Meaning.{Meaning as NameMeaning}
use Rattle.go_body_core.specs.function.Functions.{AreFuncDeclarations}
use Rattle.go_body_core.specs.file.Stands.{file_funcs}
use Rattle.go_emit_core.specs.package_core.PreparePackages.{trees_in}
use Rattle.go_emit_core.specs.package_core.PackagePartInputs.{InputModel, IsInput}
use Rattle.go_emit_core.specs.package_core.PackagePartParts.{ContentOf, FileOf, IsPart}
use Rattle.go_emit_core.specs.Emitted.{are_clean}
use Rattle.go_workspace_laws.specs.ConstantLaws.{ImportsAreOthers, code_names_of}
use Rattle.go_workspace_laws.specs.Standing.{piece_exprs, pieces_of, stand_in_part}

-- in an expression that breaks no rule, whose names are in code what they are to the check, each name that stands alone is no method
abbrev pub NamesAreNoMethods : (T S D P : Type 0) → Type 0
NamesAreNoMethods T S D P = (looks : Looks T S D P) (code : code_names.CodeLooks) (mean : Outcome D P → Meaning) (p : Stand) (e : ExprTree) → AreNamesRead T S D P looks mean → AreMeant code mean (uses looks p e) → faults looks p e ≡ []
    → (q : Stand) (x : Ident) → Contains (parts p e) (q, Named x) → (g : Gives) → code.meaning x.span.start ≡ meanings.Method g → ⊥

-- so it is in the functions of packages of which nothing is reported
abbrev pub FunctionsNameNoMethods : Type 0
FunctionsNameNoMethods =
    (i : InputModel) (c : ContentOf) → IsInput i → ImportsAreOthers i → IsPart i c → are_clean c.files ≡ true
    → (n : ℕ) (t : FileTree) (f : FileOf) → slice_get (trees_in i.source) n ≡ Some t → slice_get c.files n ≡ Some f → Wf_file t → IsPlaced t
    → (g : FuncTree) → Contains (file_funcs t) g → (all : List (Local NameMeaning)) → AreFuncDeclarations (stand_in_part i c n t) g all
    → (p : Piece) → Contains (pieces_of g) p → (e : ExprTree) → Contains (piece_exprs p) e → (q : Stand) (x : Ident) → Contains (parts stands.«Value» e) (q, Named x)
    → (given : Gives) → (code_names_of i c n f g).meaning x.span.start ≡ meanings.Method given → ⊥
