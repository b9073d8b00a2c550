-- Slots that are added one behind another.
use Rattle.std.proofs.Common.{◌≡◌, ◌≤◌, ℕ, List, [], ◌∷◌, ◌++◌, length, drop, refl, sym, ap, ◌∙◌, append_assoc, append-nil, Result}
use Rattle.std.specs.Prelude.{Option}
use Rattle.std.specs.Result.{OnOk}
use Rattle.std.proofs.lemmas.List.{drop_all}
use Rattle.std.proofs.lemmas.Result.{on_ok_weaker}
use Rattle.go_tree_nodes.specs.declared.names.Ident.{Ident}
use Rattle.go_tree_nodes.specs.declared.names.NextIdent.{NextIdent}
use Rattle.go_tree_nodes.specs.declared.stmts.«Branch» as declared_branch
use Rattle.go_tree_nodes.specs.declared.stmts.Loop.{Loop, out-Loop}
use Rattle.go_tree_nodes.specs.Shapes.{lines_of, shape_branch, shape_else, shape_for, shape_if, shape_loop}
use Rattle.go_tree_nodes.specs.TypeShapes.{idents_from}
use Rattle.go_tree_nodes.proofs.ShapeLemmas.{branch_parts, loop_parts}
use Rattle.go_code_core.specs.fragments.Names.{CodeLooks}
use Rattle.go_code_core.specs.fragments.Slots.{branch_slots, define_slots, else_slots, head_slots, init_slots, lines_slots, local_slot, local_slots, new_slot, new_slots, param_names_slots, param_slot, stmt_slots}
use Rattle.go_code_core.specs.fragments.mirrors.Listing.{locals_more, new_more, param_names_more}

-- names behind the first

pub all_locals : (x : Ident) (ns : List NextIdent) → local_slots (idents_from x ns) ≡ local_slot x ++ locals_more ns
all_locals x [] = sym (append-nil (local_slot x))
all_locals x (n ∷ ns) = ap (λ l. local_slot x ++ l) (all_locals n.ident ns)

pub all_params : (x : Ident) (ns : List NextIdent) (first : Option ℕ) → first ≡ param_slot x → param_names_slots (idents_from x ns) ≡ (first ∷ []) ++ param_names_more ns
all_params x [] first h = ap (λ s. s ∷ []) (sym h)
all_params x (n ∷ ns) first h = ap (λ s. s ∷ param_names_slots (idents_from n.ident ns)) (sym h) ∙ ap (λ l. first ∷ l) (all_params n.ident ns (param_slot n.ident) refl)

pub all_new : (looks : CodeLooks) (x : Ident) (ns : List NextIdent) → new_slots looks (idents_from x ns) ≡ new_slot looks x ++ new_more looks ns
all_new looks x [] = sym (append-nil (new_slot looks x))
all_new looks x (n ∷ ns) = ap (λ l. new_slot looks x ++ l) (all_new looks n.ident ns)

-- all is added when nothing is left
pub ended : {A X : Type 0} (whole : List A → List X) → whole [] ≡ [] → (seen ns : List A) (i : ℕ) → seen ≡ ns → length seen ≤ i → (first old start now all : List X) → start ≡ old ++ first
    → start ++ whole seen ≡ now ++ whole (drop i seen) → all ≡ first ++ whole ns → now ≡ old ++ all
ended whole none seen ns i same h first old start now all e k a =
    let done : now ++ whole (drop i seen) ≡ now = ap (λ l. now ++ l) (ap whole (drop_all i seen h) ∙ none) ∙ append-nil now in
    let full : first ++ whole seen ≡ all = ap (λ l. first ++ whole l) same ∙ sym a in
    sym done ∙ (sym k ∙ (ap (λ l. l ++ whole seen) e ∙ (append_assoc old first (whole seen) ∙ ap (λ l. old ++ l) full)))

-- several names to the left of `:=`
pub defined : (looks : CodeLooks) (x : Ident) (ns : List NextIdent) (n : NextIdent) (more : List NextIdent) → ns ≡ n ∷ more → new_slots looks (idents_from x ns) ≡ define_slots looks (idents_from x ns)
defined looks x ns n more is = ap (λ l. new_slots looks (idents_from x l)) is ∙ sym (ap (λ l. define_slots looks (idents_from x l)) is)

-- statements

pub loop_slotted : {T E : Type 0} (r : Result T E) (looks : CodeLooks) (turns : Loop) (old now new : List (Option ℕ)) → now ≡ old ++ head_slots looks (shape_for (out-Loop turns).head)
    → OnOk r (new ≡ now ++ lines_slots looks (lines_of (out-Loop turns).body.items)) → OnOk r (new ≡ old ++ stmt_slots looks (shape_loop turns))
loop_slotted r looks turns old now new h p =
    let head = head_slots looks (shape_for (out-Loop turns).head) in
    let body = lines_slots looks (lines_of (out-Loop turns).body.items) in
    on_ok_weaker r (λ e. e ∙ (ap (λ l. l ++ body) h ∙ (append_assoc old head body ∙ ap (λ t. old ++ stmt_slots looks t) (sym (loop_parts turns))))) p

pub branch_slotted : {T E : Type 0} (r : Result T E) (looks : CodeLooks) (b : declared_branch.Branch) (old now after new : List (Option ℕ)) → now ≡ old ++ init_slots looks (shape_if (declared_branch.out-Branch b).head).init
    → after ≡ now ++ lines_slots looks (lines_of (declared_branch.out-Branch b).«then».items) → OnOk r (new ≡ after ++ else_slots looks (shape_else (declared_branch.out-Branch b).otherwise))
    → OnOk r (new ≡ old ++ branch_slots looks (shape_branch b))
branch_slotted r looks b old now after new h k p =
    let o = declared_branch.out-Branch b in
    let init = init_slots looks (shape_if o.head).init in
    let body = lines_slots looks (lines_of o.«then».items) in
    let other = else_slots looks (shape_else o.otherwise) in
    let both : after ≡ old ++ (init ++ body) = k ∙ (ap (λ l. l ++ body) h ∙ append_assoc old init body) in
    on_ok_weaker r (λ e. e ∙ (ap (λ l. l ++ other) both ∙ (append_assoc old (init ++ body) other
    ∙ (ap (λ l. old ++ l) (append_assoc init body other) ∙ ap (λ t. old ++ branch_slots looks t) (sym (branch_parts b)))))) p
