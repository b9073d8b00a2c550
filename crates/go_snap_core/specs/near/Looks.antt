-- Look-ups that lead from what is near to what is near alone, and look-ups that have the same of it.
use Rattle.std.specs.Prelude.{◌≡◌, ℕ, List, Option}
use Rattle.go_tree_nodes.specs.declared.types.TypeName.{TypeName}
use Rattle.go_tree_nodes.specs.Trees.{TypeTree}
use Rattle.go_report_core.specs.operand_core.TypeRules.{TypeRules}
use Rattle.go_report_core.specs.expr_core.Looks.{Looks}
use Rattle.go_snap_core.specs.near.Near.{NearRest, IfAny, NearForm, NearField, NearFound, NearExported, NearSelection}
use Rattle.go_body_core.specs.stmt_core.StatementLocality.{Each}

-- the rules of types lead from near types to near ones, and the predeclared types are near
pub record AreRulesClosed {T : Type 0} (Near : T → Type 0) (rules : TypeRules T) : Type 0 where
  pub form : (t : T) → Near t → NearForm Near (rules.form t)
  pub pointer_to : (t : T) → Near t → Near (rules.pointer_to t)
  pub int : Near rules.int
  pub string : Near rules.string
  pub bool : Near rules.bool
  pub any : Near rules.any

-- names stand for near things, and what is asked of near things is near
pub record AreClosed {T S D P : Type 0} (Near : T → Type 0) (Rest : NearRest S D) (looks : Looks T S D P) : Type 0 where
  pub find : (name : List ℕ) (offset : ℕ) → NearFound Near Rest (looks.find name offset)
  pub exported : (d : D) (name : List ℕ) → Rest.decl d → NearExported Near Rest (looks.exported d name)
  pub select : (t : T) (name : List ℕ) → Near t → NearSelection Near Rest (looks.select t name)
  pub params : (s : S) → Rest.sign s → Each (IfAny Near) (looks.params s)
  pub results : (s : S) → Rest.sign s → Each (IfAny Near) (looks.results s)
  pub types : AreRulesClosed Near looks.types
  pub fields : (t : T) → Near t → Each (NearField Near) (looks.literals.fields t)
  pub type_of : (named : TypeName → Option T) (t : TypeTree) → IfAny Near (looks.written.type_of named t)

-- two rules of types say the same of near types
pub record RulesAgree {T : Type 0} (Near : T → Type 0) (rules others : TypeRules T) : Type 0 where
  pub form : (t : T) → Near t → rules.form t ≡ others.form t
  pub pointer_to : (t : T) → Near t → rules.pointer_to t ≡ others.pointer_to t
  pub int : rules.int ≡ others.int
  pub string : rules.string ≡ others.string
  pub bool : rules.bool ≡ others.bool
  pub any : rules.any ≡ others.any
  pub identical : (s t : T) → Near s → Near t → rules.identical s t ≡ others.identical s t
  pub assignable : (s t : T) → Near s → Near t → rules.assignable s t ≡ others.assignable s t
  pub convertible : (s t : T) → Near s → Near t → rules.convertible s t ≡ others.convertible s t

-- names stand for the same, written types are the same, and the same is known of what is near
pub record LooksAgree {T S D P : Type 0} (Near : T → Type 0) (Rest : NearRest S D) (looks others : Looks T S D P) : Type 0 where
  pub find : (name : List ℕ) (offset : ℕ) → looks.find name offset ≡ others.find name offset
  pub exported : (d : D) (name : List ℕ) → Rest.decl d → looks.exported d name ≡ others.exported d name
  pub select : (t : T) (name : List ℕ) → Near t → looks.select t name ≡ others.select t name
  pub params : (s : S) → Rest.sign s → looks.params s ≡ others.params s
  pub results : (s : S) → Rest.sign s → looks.results s ≡ others.results s
  pub types : RulesAgree Near looks.types others.types
  pub fields : (t : T) → Near t → looks.literals.fields t ≡ others.literals.fields t
  pub type_of : (named : TypeName → Option T) (t : TypeTree) → looks.written.type_of named t ≡ others.written.type_of named t
  pub faults_of : (named : TypeName → Option T) (t : TypeTree) → looks.written.faults_of named t ≡ others.written.faults_of named t
