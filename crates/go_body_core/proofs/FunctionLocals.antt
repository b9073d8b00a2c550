-- The locals of a function are its declarations.
use Rattle.std.proofs.Common.{◌≡◌, List, Contains, refl, sym, ap, subst, ◌∙◌, append-nil}
use Rattle.go_tree_nodes.specs.Trees.{FuncTree}
use Rattle.go_local_core.specs.Binding.{Local}
use Rattle.go_local_core.specs.Tables.{IsFuncPlaced}
use Rattle.go_stmt_core.specs.piece.Headers.{returned_types, returned_names}
use Rattle.go_stmt_core.specs.piece.Pieces.{piece_values}
use Rattle.go_env_core.specs.declared.meaning.Meaning.{Meaning}
use Rattle.go_body_core.specs.Body.{BodyOf}
use Rattle.go_body_core.specs.Rules.{value_at, local_at, piece_locals}
use Rattle.go_body_core.specs.function.Stands.{FileStand, looks_where, outer_meanings}
use Rattle.go_body_core.specs.function.Functions.{func_rules, walked_func, checked_func, AreFuncDeclarations}
use Rattle.go_body_core.specs.function.Locals.{declared_locals, OffsetsRise, LocalsAreDeclarations}
use Rattle.go_body_core.proofs.FunctionBodies.{functions_have_one_table}
use Rattle.go_body_core.proofs.FunctionDeclared.{locals_declared}
use Rattle.go_body_core.proofs.FunctionDenoted.{denoted_declared}
use Rattle.go_body_core.proofs.FunctionRegions.{none_outside}
use Rattle.go_body_core.proofs.FunctionRising.{locals_rise}

module _ (st : FileStand) (f : FuncTree) (placed : IsFuncPlaced f) (all : List (Local Meaning)) (right : AreFuncDeclarations st f all) where
  pub are_declared : (checked_func st f).locals ≡ declared_locals all
  are_declared =
      ap (λ (b : BodyOf). b.locals) (sym (functions_have_one_table.regions st f placed all right))
      ∙ locals_declared (func_rules st f) (λ look firsts p. append-nil (piece_locals firsts p (local_at p (piece_values (looks_where st look) firsts p)))) (outer_meanings st) all f right

pub locals_are_declarations : LocalsAreDeclarations
locals_are_declarations = record {
  declared = are_declared;
  denoted = λ st f placed all right name place at value e.
      subst (λ ls. Contains ls (record { offset = at; value = value })) (sym (are_declared st f placed all right))
      (denoted_declared all (outer_meanings st) name place at value (none_outside st.scene.blocks st.file.file name) e);
  rise = λ st f placed.
      let all : List (Local Meaning) = (walked_func st f).declares in
      let right : AreFuncDeclarations st f all = (functions_have_one_table.table st f placed all).1 refl in
      subst OffsetsRise (sym (are_declared st f placed all right))
      (locals_rise (func_rules st f) (λ look firsts p. (value_at (piece_values (looks_where st look) firsts p), refl)) (outer_meanings st) all f placed right);
}
