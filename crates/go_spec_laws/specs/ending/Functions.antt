-- Functions whose results want a terminating statement, and calls of `panic`, in the words of the Go specification.
--
-- docs/RULES.md, "Bodies of functions". The Go specification, "Function declarations", "Handling panics".
use Rattle.std.specs.Prelude.{◌≡◌, ℕ, List, Option, Contains}
use Rattle.go_denote_core.specs.text_core.declared.span.Span.{Span}
use Rattle.go_denote_core.specs.text_core.declared.rule.Rule.TheVariants.{Y5}
use Rattle.go_universe_core.specs.declared.Predeclared.TheVariants as predeclared
use Rattle.go_tree_nodes.specs.declared.names.Ident.{Ident}
use Rattle.go_tree_nodes.specs.Trees.{Separated, TypeTree, SignatureTree, Signed, OneResult, Results, ParamTrees, Param, ExprTree, ItemTrees, Named, Paren, Call, FuncTree}
use Rattle.go_handle_core.specs.Declarations.{Universe}
use Rattle.go_denote_core.specs.declared.things.Outcome.TheVariants as outcomes
use Rattle.go_local_core.specs.declared.Fault.{Fault}
use Rattle.go_local_core.specs.Law.{Out}
use Rattle.go_body_core.specs.env_core.declared.meaning.Meaning.{Meaning}
use Rattle.go_body_core.specs.Notes.{TheUse, NoteOf, all_uses, noted_faults}
use Rattle.go_spec_laws.specs.ending.Ending.{EndTerminating}
use Rattle.go_spec_laws.specs.ending.Standing.{IsStray}

-- a signature declares results: a type, or at least one entry between parentheses
pub data DeclaresResults : SignatureTree → Type 0 where
  ASingleResult : {first last : Span} {params : ParamTrees} {t : TypeTree} → DeclaresResults (Signed first params last (OneResult t))
  ListedResults :
      {first last before behind : Span} {params : ParamTrees} {names : Option (Separated Ident)} {t : TypeTree} {comma : Option Span} {more : ParamTrees}
      → DeclaresResults (Signed first params last (Results before (Param names t comma more) behind))

-- an expression is the identifier at an offset, in parentheses or not
pub data IsNameAt (offset : ℕ) : ExprTree → Type 0 where
  TheName : {x : Ident} → x.span.start ≡ offset → IsNameAt offset (Named x)
  NameInParens : {first last : Span} {t : ExprTree} → IsNameAt offset t → IsNameAt offset (Paren first t last)

-- an expression is a call of the identifier at an offset, in parentheses or not
pub data IsCallAt (offset : ℕ) : ExprTree → Type 0 where
  TheCall : {t : ExprTree} {first last : Span} {items : ItemTrees} → IsNameAt offset t → IsCallAt offset (Call t first items last)
  CallInParens : {first last : Span} {t : ExprTree} → IsCallAt offset t → IsCallAt offset (Paren first t last)

-- by what the occurrences of a function have, the one at an offset denotes the predeclared `panic`
pub record DenotesPanic (uses : List TheUse) (offset : ℕ) : Type 0 where
  pub occurrence : TheUse
  pub there : Contains uses occurrence
  pub here : occurrence.offset ≡ offset
  pub denotes : occurrence.outcome ≡ outcomes.Declared (Universe predeclared.Panic)

-- "A call to the built-in function panic.": an expression is a call of an identifier that denotes it
pub record IsPanicCall (uses : List TheUse) (t : ExprTree) : Type 0 where
  pub callee : ℕ
  pub calls : IsCallAt callee t
  pub panics : DenotesPanic uses callee

-- "If the function's signature declares result parameters, the function body's statement list must end in a terminating statement."
pub record LacksReturn (uses : List TheUse) (f : FuncTree) : Type 0 where
  pub results : DeclaresResults f.signature
  pub unended : ¬ EndTerminating (IsPanicCall uses) f.body

-- its fault stands at the closing brace of the body
abbrev pub lack_at : Span → Fault
lack_at close = record { offset = close.start; rule = Y5 }

-- by what comes of the pieces of a function, a fault is one of its own: of a piece, of a name that a piece declares, of a `break` or a `continue` that
-- no `for` is around, or of its end
pub data IsFaultOf (f : FuncTree) (o : Out Meaning NoteOf) (fault : Fault) : Type 0 where
  OfAPiece : Contains (noted_faults o.notes) fault → IsFaultOf f o fault
  OfAName : Contains o.faults fault → IsFaultOf f o fault
  OfAJump : IsStray f.body fault → IsFaultOf f o fault
  OfItsEnd : LacksReturn (all_uses o.notes) f → fault ≡ lack_at f.close_brace → IsFaultOf f o fault
