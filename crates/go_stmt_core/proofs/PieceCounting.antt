-- Each name that a piece declares stands for one thing.
use Rattle.std.proofs.Common.{◌≡◌, ℕ, suc, ◌+◌, Bool, false, ◌==◌, List, [], ◌∷◌, ◌++◌, length, map, refl, sym, ap, ◌∙◌, inl, inr}
use Rattle.std.specs.Prelude.{Option, Some, None, replicate, if◌then◌else◌}
use Rattle.std.proofs.lemmas.Bool.{cases_Bool, eqb-true}
use Rattle.std.proofs.lemmas.List.{length-map, length-append, length-replicate}
use Rattle.go_constant_core.specs.text_core.declared.span.Span.{Span}
use Rattle.go_tree_nodes.specs.declared.names.Ident.{Ident}
use Rattle.go_tree_nodes.specs.declared.decls.ValueKind.{ValueKind}
use Rattle.go_tree_nodes.specs.declared.decls.ValueKind.TheVariants as kinds
use Rattle.go_tree_nodes.specs.declared.files.Receiver.{Receiver}
use Rattle.go_tree_nodes.specs.Trees.{Separated, ExprTree, SignatureTree, ResultTree, ParamTrees, Signed, NoResult, OneResult, Results, NoParams, Param, Alone, Step, Assign, Update, Define}
use Rattle.go_expr_core.specs.scope_stack.Blocks.{list_name}
use Rattle.go_expr_core.specs.local_core.Steps.{Header, Spec, Act, Condition, Given}
use Rattle.go_expr_core.specs.local_core.Outline.{idents, some_idents, param_idents, result_idents, signature_idents, receiver_idents, header_idents, some_ident}
use Rattle.go_expr_core.specs.operand_core.TypeRules.{TypeRules}
use Rattle.go_expr_core.specs.denote_core.declared.things.Argument.{Argument}
use Rattle.go_expr_core.specs.denote_core.declared.things.Argument.TheVariants as arguments
use Rattle.go_stmt_core.specs.declared.statement.targets.Target.{Target}
use Rattle.go_stmt_core.specs.statement.Declarations.{declared_types, type_after, paired_types, short_types}
use Rattle.go_stmt_core.proofs.StatementTyping.{declared_count, paired_count}
use Rattle.go_expr_core.specs.Looks.{Looks}
use Rattle.go_stmt_core.specs.piece.Values.{variable}
use Rattle.go_stmt_core.specs.piece.Targets.{flags_behind, short_targets}
use Rattle.go_stmt_core.specs.piece.Specifications.{constant_value, constant_values, names_values}
use Rattle.go_stmt_core.specs.piece.Headers.{of_entry, entry_types, types_of_result, types_of_signature, named_receiver, receiver_types, header_types}
use Rattle.go_stmt_core.specs.piece.Laws.{NamesHaveValues}

-- a condition that holds or not
chosen : {A : Type 0} (n m : ℕ) (xs ys : List A) → (n ≡ m → length xs ≡ n) → length ys ≡ n → length (if n == m then xs else ys) ≡ n
chosen n m xs ys f e = elim (cases_Bool (n == m)) [
  | inl h ↦ ap (λ b. length (if b then xs else ys)) h ∙ f (eqb-true n m h)
  | inr h ↦ ap (λ b. length (if b then xs else ys)) h ∙ e
]

constant_count : {T : Type 0} (rules : TypeRules T) (written : Option (Option T)) (n : ℕ) (given : List (Argument T)) → length (constant_values rules written n given) ≡ n
constant_count rules written n given =
    chosen n (length given) (map (constant_value rules written) given) (replicate n (constant_value rules written arguments.Refused)) (λ e. length-map given (constant_value rules written) ∙ sym e)
    (length-replicate n (constant_value rules written arguments.Refused))

names_count : {T S D P : Type 0} (looks : Looks T S D P) (kind : ValueKind) (xs : Separated Ident) (written : Option (Option T)) (es : Option (Span × Separated ExprTree)) → length (names_values looks kind xs written es) ≡ length (idents xs)
names_count looks kinds.Const xs written es = constant_count looks.types written (length (idents xs)) _
names_count looks kinds.Var xs written es = length-map (declared_types looks.types written (length (idents xs)) _) variable ∙ declared_count looks.types written (length (idents xs)) _

-- short declarations

targets_count : {T S D P : Type 0} (looks : Looks T S D P) (firsts : List Bool) (before : List (List ℕ)) (xs : List Ident) → length (short_targets looks firsts before xs) ≡ length xs
targets_count looks firsts before [] = refl
targets_count looks firsts before (x ∷ xs) = ap suc (targets_count looks (flags_behind firsts) (list_name before x.name) xs)

short_count : {T : Type 0} (rules : TypeRules T) (ts : List (Target T)) (given : List (Argument T)) → length (short_types rules ts given) ≡ length ts
short_count rules ts given =
    chosen (length ts) (length given) (paired_types rules ts given) (map (λ target. type_after rules target arguments.Refused) ts) (paired_count rules ts given) (length-map ts (λ target. type_after rules target arguments.Refused))

-- headers

joined : {A B : Type 0} (xs ys : List A) (us vs : List B) → length xs ≡ length us → length ys ≡ length vs → length (xs ++ ys) ≡ length (us ++ vs)
joined xs ys us vs e f = length-append xs ys ∙ (ap (λ n. n + length ys) e ∙ (ap (λ n. length us + n) f ∙ sym (length-append us vs)))

entry_count : {T : Type 0} (xs : Option (Separated Ident)) (t : Option T) → length (of_entry false xs t) ≡ length (some_idents xs)
entry_count None t = refl
entry_count (Some xs) t = length-replicate (length (idents xs)) t

entries_count : {T S D P : Type 0} (looks : Looks T S D P) (ps : ParamTrees) → length (entry_types looks false ps) ≡ length (param_idents ps)
entries_count looks NoParams = refl
entries_count looks (Param xs t comma rest) = joined _ _ (some_idents xs) (param_idents rest) (entry_count xs _) (entries_count looks rest)

results_count : {T S D P : Type 0} (looks : Looks T S D P) (r : ResultTree) → length (types_of_result looks false r) ≡ length (result_idents r)
results_count looks NoResult = refl
results_count looks (OneResult t) = refl
results_count looks (Results first params last) = entries_count looks params

signature_count : {T S D P : Type 0} (looks : Looks T S D P) (s : SignatureTree) → length (types_of_signature looks s) ≡ length (signature_idents s)
signature_count looks (Signed first params last result) = joined _ _ (param_idents params) (result_idents result) (entries_count looks params) (results_count looks result)

named_count : {T : Type 0} (x : Option Ident) (t : Option T) → length (named_receiver x t) ≡ length (some_ident x)
named_count None t = refl
named_count (Some x) t = refl

receiver_count : {T S D P : Type 0} (looks : Looks T S D P) (r : Option Receiver) → length (receiver_types looks r) ≡ length (receiver_idents r)
receiver_count looks None = refl
receiver_count looks (Some r) = named_count r.name _

header_count : {T S D P : Type 0} (looks : Looks T S D P) (r : Option Receiver) (s : SignatureTree) → length (header_types looks r s) ≡ length (header_idents r s)
header_count looks r s = joined _ _ (receiver_idents r) (signature_idents s) (receiver_count looks r) (signature_count looks s)

pub names_have : (T S D P : Type 0) → NamesHaveValues T S D P
names_have T S D P looks firsts (Header r s) = length-map (header_types looks r s) variable ∙ header_count looks r s
names_have T S D P looks firsts (Spec kind v) = names_count looks kind v.names _ v.values
names_have T S D P looks firsts (Act (Alone e)) = refl
names_have T S D P looks firsts (Act (Step e op span)) = refl
names_have T S D P looks firsts (Act (Assign ts span es)) = refl
names_have T S D P looks firsts (Act (Update e op span v)) = refl
names_have T S D P looks firsts (Act (Define xs span es)) =
    length-map (short_types looks.types (short_targets looks firsts [] (idents xs)) _) variable ∙ (short_count looks.types (short_targets looks firsts [] (idents xs)) _ ∙ targets_count looks firsts [] (idents xs))
names_have T S D P looks firsts (Condition e) = refl
names_have T S D P looks firsts (Given place es) = refl
