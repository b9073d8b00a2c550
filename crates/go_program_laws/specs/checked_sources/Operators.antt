-- Operators stand between what they take.
--
-- docs/RULES.md, "Operands and operators", "Stack code". The Go specification, "Operators", "Arithmetic operators", "Comparison operators", "Logical operators".
use Rattle.std.specs.Prelude.{◌≡◌, ℕ, true, List, [], Option}
use Rattle.std.specs.List.{Contains}
use Rattle.go_tree_nodes.specs.Trees.{ExprTree, Integer, Text, Named, Paren, Unary, Binary, Select, Call, Literal, StructLiteral}
use Rattle.go_code_core.specs.declared.fragments.names.Gives.TheVariants as gives
use Rattle.go_code_core.specs.declared.fragments.names.Meaning.{Meaning}
use Rattle.go_code_core.specs.fragments.Fragment.{expr_gives}
use Rattle.go_code_core.specs.fragments.Names as code_names
use Rattle.go_code_core.specs.fragments.Names.{Frame, frame_of}
use Rattle.go_object_core.specs.declared.instructions.letters.Word.{Word}
use Rattle.go_report_core.specs.operand_core.TypeRules.{TypeRules}
use Rattle.go_report_core.specs.operand_core.Values.{form_basic}
use Rattle.go_report_core.specs.denote_core.declared.things.Stand.{Stand}
use Rattle.go_report_core.specs.denote_core.declared.things.Outcome.{Outcome}
use Rattle.go_report_core.specs.expr_core.Looks.{Looks}
use Rattle.go_report_core.specs.expr_core.Uses.{uses}
use Rattle.go_report_core.specs.expr_core.Faults.{faults}
use Rattle.go_workspace_laws.specs.folding.Reading.{AreReadOver}
use Rattle.go_workspace_laws.specs.folding.Parts.{parts}
use Rattle.go_workspace_laws.specs.folding.Laws.{AreMeant}
use Rattle.go_workspace_laws.specs.folding.Typed.{AreTyped, KeepBasics}
use Rattle.go_meaning_laws.specs.fitting_sources.Fitting.{UnaryFits, BinaryFits}

-- an operator takes what its operands give
abbrev pub OperatorFits : Frame → ExprTree → Type 0
OperatorFits f (Unary op span e) = UnaryFits op (expr_gives f e)
OperatorFits f (Binary a op span b) = BinaryFits op (expr_gives f a) (expr_gives f b)
OperatorFits f (Integer n span) = Unit {0}
OperatorFits f (Text t) = Unit {0}
OperatorFits f (Named x) = Unit {0}
OperatorFits f (Paren first e last) = Unit {0}
OperatorFits f (Select e dot x) = Unit {0}
OperatorFits f (Call e first items last) = Unit {0}
OperatorFits f (Literal n first items last) = Unit {0}
OperatorFits f (StructLiteral t first items last) = Unit {0}

-- identical types are over the same
abbrev pub KeepIdentity : {T : Type 0} → TypeRules T → Type 0
KeepIdentity {T} rules = (s t : T) → rules.identical s t ≡ true → form_basic (rules.form s) ≡ form_basic (rules.form t)

-- an expression that the check finds no fault in, whose names are in code what they are to the check: each operator in it of which code is made takes what its
-- operands give
abbrev pub OperatorsFit : (T S D P : Type 0) → Type 0
OperatorsFit T S D P = (looks : Looks T S D P) (code : code_names.CodeLooks) (mean : Outcome D P → Meaning) (slots : List (Option ℕ)) (p : Stand) (e : ExprTree)
    → AreReadOver T S D P looks mean → AreTyped T S D P looks mean → KeepBasics looks.types → KeepIdentity looks.types → AreMeant code mean (uses looks p e) → faults looks p e ≡ []
    → (q : Stand) (x : ExprTree) → Contains (parts p e) (q, x) → (w : Word) → expr_gives (frame_of code slots) x ≡ gives.One w
    → OperatorFits (frame_of code slots) x
