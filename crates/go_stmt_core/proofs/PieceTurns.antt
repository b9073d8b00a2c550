-- What a turn of a loop adds.
use Rattle.std.proofs.Common.{◌≡◌, ℕ, ◌+◌, ◌<◌, ◌≤◌, Bool, List, [], ◌∷◌, ◌++◌, length, get_or, drop, sym, ap, ◌∙◌, append_assoc, append-nil}
use Rattle.std.specs.Prelude.{Option}
use Rattle.std.proofs.lemmas.List.{drop_more, drop_all}
use Rattle.go_tree_nodes.specs.declared.names.NextIdent.{NextIdent}
use Rattle.go_tree_nodes.specs.Trees.{Separated, ExprTree}
use Rattle.go_expr_core.specs.scope_stack.Blocks.{list_name}
use Rattle.go_expr_core.specs.operand_core.TypeRules.{TypeRules}
use Rattle.go_expr_core.specs.denote_core.declared.things.Argument.{Argument}
use Rattle.go_stmt_core.specs.declared.statement.targets.Target.{Target}
use Rattle.go_stmt_core.specs.statement.Constants.{constant_answer}
use Rattle.go_expr_core.specs.local_core.declared.Fault.{Fault}
use Rattle.go_expr_core.specs.Looks.{Looks}
use Rattle.go_stmt_core.specs.piece.Values.{list_start, behind}
use Rattle.go_stmt_core.specs.piece.Targets.{short_target, flag_of, flags_behind, short_targets}
use Rattle.go_stmt_core.specs.piece.Specifications.{constant_fault, each_constant_faults}
use Rattle.go_stmt_core.specs.piece.mirrors.Later.{later_idents}

-- a name left of `:=`
pub short_turn : {T S D P : Type 0} (looks : Looks T S D P) (flags flags' : List Bool) (seen seen' : List (List ℕ)) (xs : List NextIdent) (i : ℕ) (x : NextIdent) (u0 u1 : List (Target T)) (t : Target T)
    → i < length xs → x ≡ get_or xs i x → t ≡ short_target looks (flag_of flags) seen x.ident → seen' ≡ list_name seen x.ident.name → flags' ≡ flags_behind flags → u1 ≡ u0 ++ t ∷ []
    → u1 ++ short_targets looks flags' seen' (later_idents (drop (i + 1) xs)) ≡ u0 ++ short_targets looks flags seen (later_idents (drop i xs))
short_turn looks flags flags' seen seen' xs i x u0 u1 t h is of_t of_seen of_flags e =
    let rest = later_idents (drop (i + 1) xs) in
    ap (λ l. l ++ short_targets looks flags' seen' rest) e
    ∙ (append_assoc u0 (t ∷ []) (short_targets looks flags' seen' rest)
    ∙ ap (λ l. u0 ++ l) (
    ap (λ y. y ∷ short_targets looks flags' seen' rest) of_t
    ∙ (ap (λ f. short_target looks (flag_of flags) seen x.ident ∷ short_targets looks f seen' rest) of_flags
    ∙ (ap (λ s. short_target looks (flag_of flags) seen x.ident ∷ short_targets looks (flags_behind flags) s rest) of_seen
    ∙ ap (λ l. short_targets looks flags seen (later_idents l)) (ap (λ y. y ∷ drop (i + 1) xs) is ∙ sym (drop_more xs i x h)))))
    )

-- no name is left
pub short_ends : {T S D P : Type 0} (looks : Looks T S D P) (flags : List Bool) (seen : List (List ℕ)) (xs : List NextIdent) (i : ℕ) → length xs ≤ i → (u all : List (Target T))
    → u ++ short_targets looks flags seen (later_idents (drop i xs)) ≡ all → u ≡ all
short_ends looks flags seen xs i h u all e = sym (append-nil u) ∙ (ap (λ l. u ++ short_targets looks flags seen (later_idents l)) (sym (drop_all i xs h)) ∙ e)

-- what a value of a list of constants breaks
pub constant_turn : {T : Type 0} (rules : TypeRules T) (written : Option (Option T)) (first place : ℕ) (es es' : Separated ExprTree) (xs : List (Argument T)) (i : ℕ) (x : Argument T) (u0 u1 : List Fault)
    → i < length xs → x ≡ get_or xs i x → place ≡ list_start es → es' ≡ behind es → u1 ≡ u0 ++ constant_fault first place (constant_answer rules written x).rule
    → u1 ++ each_constant_faults rules written first es' (drop (i + 1) xs) ≡ u0 ++ each_constant_faults rules written first es (drop i xs)
constant_turn rules written first place es es' xs i x u0 u1 h is at_place of_es e =
    let rest = drop (i + 1) xs in
    let rule = (constant_answer rules written x).rule in
    ap (λ l. l ++ each_constant_faults rules written first es' rest) (e ∙ ap (λ n. u0 ++ constant_fault first n rule) at_place)
    ∙ (append_assoc u0 (constant_fault first (list_start es) rule) (each_constant_faults rules written first es' rest)
    ∙ ap (λ l. u0 ++ l) (
    ap (λ s. constant_fault first (list_start es) rule ++ each_constant_faults rules written first s rest) of_es
    ∙ ap (each_constant_faults rules written first es) (ap (λ y. y ∷ rest) is ∙ sym (drop_more xs i x h))
    ))
