-- Laws of imports that are used.
use Rattle.std.specs.Prelude.{◌≡◌, ◌↔◌, ◌⊎◌, ℕ, suc, true, List, Some, slice_get, Contains}
use Rattle.go_path_core.specs.text_core.declared.rule.Rule.{Rule}
use Rattle.go_tree_core.specs.declared.occurrence.Role.TheVariants as roles
use Rattle.go_tree_core.specs.declared.occurrence.Occ.{Occ}
use Rattle.go_term_core.specs.decl_core.declared.keys.DeclRef.{DeclRef}
use Rattle.go_term_core.specs.decl_core.declared.keys.DeclKey.{DeclKey}
use Rattle.go_term_core.specs.declared.term.MemberPlace.TheVariants as member
use Rattle.go_block_core.specs.declared.binding.Binding.{Binding}
use Rattle.go_block_core.specs.declared.binding.Target.TheVariants as targets
use Rattle.go_block_core.specs.Blocks.{BlocksModel, file_binding}
use Rattle.go_summary_core.specs.handle_core.Declarations.{Package, InFile}
use Rattle.go_expr_core.specs.denote_core.declared.things.Outcome.TheVariants as outcomes
use Rattle.go_expr_core.specs.local_core.declared.Fault.{Fault}
use Rattle.go_report_core.specs.Faults.{IsSaid}
use Rattle.go_summary_core.specs.declared_core.Written.{same_decl_place}
use Rattle.go_report_core.specs.usage.Reported.{IsReported}
use Rattle.go_report_core.specs.usage.Used.{FileUse, is_name_role, used_places}

-- the name of an occurrence is bound in the file by the import at this place
pub record IsBoundBy (b : BlocksModel) (file : ℕ) (os : List Occ) (us : List FileUse) (at number : ℕ) (o : Occ) (u : FileUse) (binding : Binding) : Type 0 where
  pub occurrence : slice_get os number ≡ Some o
  pub has : slice_get us number ≡ Some u
  pub bound : file_binding b file o.spelling ≡ Some binding
  pub place : binding.at ≡ at

-- a qualifier whose name the import binds is a package, and the selector behind it has a declaration
pub record IsQualified (b : BlocksModel) (file : ℕ) (os : List Occ) (us : List FileUse) (at : ℕ) : Type 0 where
  pub number : ℕ
  pub o : Occ
  pub u : FileUse
  pub binding : Binding
  pub there : IsBoundBy b file os us at number o u binding
  pub role : o.role ≡ roles.Qualifier
  pub path : List ℕ
  pub denotes : u.outcome ≡ outcomes.Declared (Package path)
  pub selector : FileUse
  pub behind : slice_get us (suc number) ≡ Some selector
  pub declared : (rule : Rule) → selector.outcome ≡ outcomes.Refused rule → ⊥

-- a name that the import binds by its dot has the declaration that it binds
pub record IsByDot (b : BlocksModel) (file : ℕ) (os : List Occ) (us : List FileUse) (at : ℕ) : Type 0 where
  pub number : ℕ
  pub o : Occ
  pub u : FileUse
  pub binding : Binding
  pub there : IsBoundBy b file os us at number o u binding
  pub role : is_name_role o.role ≡ true
  pub key : DeclKey
  pub dot : binding.target ≡ targets.Exported key
  pub decl : DeclRef
  pub outcome : u.outcome ≡ outcomes.Declared (InFile key.path (member.Declared decl))
  pub same : same_decl_place key.decl decl ≡ true

-- an import is used exactly where a selector of the file whose qualifier it binds has a declaration, or a name has one through its dot
abbrev pub UsedImportsAreThese : Type 0
UsedImportsAreThese =
    (b : BlocksModel) (file : ℕ) (os : List Occ) (us : List FileUse) (at : ℕ)
    → Contains (used_places b file os us) at ↔ (IsQualified b file os us at ⊎ IsByDot b file os us at)

-- what is reported of a file is one list, whatever the order of outcomes and faults: where the rules that outcomes say and the faults beside are
-- together the same, so are the reports
abbrev pub ReportsAreOne : Type 0
ReportsAreOne = (uses more : List FileUse) (faults others report again : List Fault)
    → ((f : Fault) → (IsSaid uses f ⊎ Contains faults f) ↔ (IsSaid more f ⊎ Contains others f))
    → IsReported uses faults report → IsReported more others again → report ≡ again
