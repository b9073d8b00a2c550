-- What is noted of a piece.
use Rattle.std.proofs.Common.{◌≡◌, ◌<◌, ℕ, List, length, get_or, inl, inr, ap, sym, subst, ◌∙◌}
use Rattle.std.specs.Prelude.{Contains}
use Rattle.std.proofs.lemmas.List.Elements.{Contains-get_or}
use Rattle.go_tree_nodes.specs.text_core.declared.rule.Rule.{Rule}
use Rattle.go_names_core.specs.local_core.declared.Fault.{Fault}
use Rattle.go_stmt_core.specs.expr_core.declared.things.Use.{Use}
use Rattle.go_judge_core.specs.Breaking.{HasFault, HasRefusal, IsNoted, IsRefusedAt}

abbrev fault_with : ℕ → Rule → Fault
fault_with offset rule = record { offset = offset; rule = rule }

-- an item is among the items
pub item_among : {X : Type 0} (xs : List X) (i : ℕ) (x : X) → i < length xs → x ≡ get_or xs i x → Contains xs x
item_among {X = X} xs i x lt is = subst (λ (y : X). Contains xs y) (sym is) (Contains-get_or xs i x lt)

-- a fault of these parts is among the faults
pub fault_there : (fs : List Fault) (i : ℕ) (d : Fault) (offset : ℕ) (rule : Rule) → i < length fs → ((get_or fs i d).offset ≡ offset) × ((get_or fs i d).rule ≡ rule) → HasFault fs offset rule
fault_there fs i d offset rule lt same =
    subst (λ (y : Fault). Contains fs y) (ap (λ (o : ℕ). fault_with o (get_or fs i d).rule) same.0 ∙ ap (λ (r : Rule). fault_with offset r) same.1) (Contains-get_or fs i d lt)

-- an occurrence that is refused is among the occurrences
pub refusal_there : {D P : Type 0} (us : List (Use D P)) (i : ℕ) (u : Use D P) (offset : ℕ) (rule : Rule) → i < length us → u ≡ get_or us i u → IsRefusedAt u offset rule → HasRefusal us offset rule
refusal_there us i u offset rule lt is refused = (u, item_among us i u lt is, refused)

-- a rule is among the same faults and outcomes
pub noted_fault : {D P : Type 0} (us : List (Use D P)) (fs gs : List Fault) (offset : ℕ) (rule : Rule) → fs ≡ gs → HasFault fs offset rule → IsNoted us gs offset rule
noted_fault us fs gs offset rule same there = inl (subst (λ (y : List Fault). HasFault y offset rule) same there)

pub noted_refusal : {D P : Type 0} (us vs : List (Use D P)) (fs : List Fault) (offset : ℕ) (rule : Rule) → us ≡ vs → HasRefusal us offset rule → IsNoted vs fs offset rule
noted_refusal {D = D} {P = P} us vs fs offset rule same there = inr (subst (λ (y : List (Use D P)). HasRefusal y offset rule) same there)

pub noted_there : {D P : Type 0} (us vs : List (Use D P)) (fs gs : List Fault) (offset : ℕ) (rule : Rule) → us ≡ vs → fs ≡ gs → IsNoted us fs offset rule → IsNoted vs gs offset rule
noted_there us vs fs gs offset rule used faulty (inl there) = noted_fault vs fs gs offset rule faulty there
noted_there us vs fs gs offset rule used faulty (inr there) = noted_refusal us vs gs offset rule used there
