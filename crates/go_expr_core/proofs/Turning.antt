-- Loops over the elements of a literal and over the arguments of a call.
use Rattle.std.proofs.Common.{◌≡◌, ℕ, suc, ◌+◌, ◌<◌, Bool, List, [], ◌∷◌, ◌++◌, map, length, get_or, take, drop, refl, sym, ap, ◌∙◌, append_assoc, add-one, set}
use Rattle.std.specs.Prelude.{Option, Some, None}
use Rattle.std.proofs.lemmas.List.{map-append}
use Rattle.std.proofs.Math.Seq.{set-append_seam}
use Rattle.go_denote_core.specs.text_core.declared.span.Span.{Span}
use Rattle.go_tree_nodes.specs.declared.exprs.Key.{Key}
use Rattle.go_tree_nodes.specs.declared.exprs.«Item» as declared_item
use Rattle.go_tree_nodes.specs.Trees.{ExprTree, ItemTrees, Call}
use Rattle.go_tree_nodes.specs.Shapes.{shape, items_of, shape_key}
use Rattle.go_tree_core.specs.declared.occurrence.Role.TheVariants as roles
use Rattle.go_denote_core.specs.declared.things.Stand.{Stand}
use Rattle.go_denote_core.specs.declared.things.Stand.TheVariants as stands
use Rattle.go_denote_core.specs.declared.composite.things.Mode.{Mode}
use Rattle.go_expr_core.specs.declared.things.Use.{Use}
use Rattle.go_local_core.specs.declared.Fault.{Fault}
use Rattle.go_expr_core.specs.Looks.{Looks}
use Rattle.go_denote_core.specs.declared.composite.things.KeyAnswer.{KeyAnswer}
use Rattle.go_denote_core.specs.declared.composite.things.KeyMark.{KeyMark}
use Rattle.go_denote_core.specs.composite.Literals.{element_target}
use Rattle.go_denote_core.specs.composite.Repeats.{has_name}
use Rattle.go_denote_core.specs.composite.Marks.{type_fields}
use Rattle.go_denote_core.proofs.CompositeMarking.{marks_tell}
use Rattle.go_expr_core.specs.Places.{start, item_start}
use Rattle.go_expr_core.specs.Denoting.{denoted}
use Rattle.go_expr_core.specs.Elements.{key_names, all_keys, is_again, key_target_by, element_rule, element_type}
use Rattle.go_expr_core.specs.Looks.{literals_at}
use Rattle.go_expr_core.specs.Uses.{made_use, uses, use_of, spots, key_spots, key_uses, items_spots, items_uses, call_uses}
use Rattle.go_expr_core.specs.Faults.{fault_at, operand_faults, items_faults}
use Rattle.go_expr_core.specs.mirrors.Marked.{mark_of}
use Rattle.go_expr_core.specs.mirrors.Turns.{key_uses_marked, key_target_marked, turn_uses, turn_faults}
use Rattle.go_expr_core.proofs.Marks.{first_item, keys_more}

key_used : {T S D P : Type 0} (looks : Looks T S D P) (t : Option T) (m : Bool) (others : List (List ℕ)) (key : Option Key)
    → key_uses_marked looks t m (mark_of (type_fields looks.literals t) key others) key ≡ key_uses looks t m others key
key_used looks t m others None = refl
key_used {T} {S} {D} {P} looks t m others (Some k) =
    ap (λ (a : KeyAnswer T D P). made_use k.name.span.start roles.Key a.outcome ∷ []) (marks_tell (literals_at looks k.name.span.start) t m (has_name k.name.name others) k.name.name)

key_wanted : {T S D P : Type 0} (looks : Looks T S D P) (t : Option T) (m : Bool) (others : List (List ℕ)) (key : Option Key)
    → key_target_marked looks t m (mark_of (type_fields looks.literals t) key others) key ≡ key_target_by looks t m (is_again key others) key
key_wanted looks t m others None = refl
key_wanted {T} {S} {D} {P} looks t m others (Some k) =
    ap (λ (a : KeyAnswer T D P). a.target) (marks_tell (literals_at looks k.name.span.start) t m (has_name k.name.name others) k.name.name)

pub turn_used : {T S D P : Type 0} (looks : Looks T S D P) (t : Option T) (m : Bool) (mark : KeyMark) (xs : List declared_item.Item) (i : ℕ) (x : declared_item.Item) → i < length xs → x ≡ get_or xs i x
    → mark ≡ mark_of (type_fields looks.literals t) (shape_key x.key) (all_keys (items_of (take i xs)) ++ all_keys (items_of (drop (i + 1) xs)))
    → (u0 u1 : List (Use D P)) → u1 ≡ u0 ++ turn_uses looks t m mark (shape_key x.key) (shape x.value)
    → u1 ++ items_uses looks t m (all_keys (items_of (take (i + 1) xs))) (items_of (drop (i + 1) xs)) ≡ u0 ++ items_uses looks t m (all_keys (items_of (take i xs))) (items_of (drop i xs))
turn_used {T} {S} {D} {P} looks t m mark xs i x h is right u0 u1 e =
    let ks = all_keys (items_of (take i xs)) in
    let rest = items_of (drop (i + 1) xs) in
    let key = key_spots {T = T} {D = D} {P = P} t m (ks ++ all_keys rest) (shape_key x.key) in
    let mid = spots looks stands.«Value» (shape x.value) in
    let more = items_spots looks t m (ks ++ key_names (shape_key x.key)) rest in
    let here = map (use_of looks) key in
    let there = map (use_of looks) mid in
    let behind = map (use_of looks) more in
    ap (λ l. u1 ++ items_uses looks t m l rest) (sym (keys_more xs i x h is))
    ∙ (ap (λ l. l ++ behind) (e ∙ ap (λ l. u0 ++ (l ++ there)) (ap (λ b. key_uses_marked looks t m b (shape_key x.key)) right ∙ key_used looks t m (ks ++ all_keys rest) (shape_key x.key)))
    ∙ (append_assoc u0 (here ++ there) behind
    ∙ ap (λ l. u0 ++ l) (append_assoc here there behind
    ∙ (ap (λ l. here ++ l) (sym (map-append (use_of looks) mid more))
    ∙ (sym (map-append (use_of looks) key (mid ++ more))
    ∙ ap (items_uses looks t m ks) (sym (first_item xs i x h is)))))))

pub turn_noted : {T S D P : Type 0} (looks : Looks T S D P) (mode : Mode) (t : Option T) (m : Bool) (mark : KeyMark) (xs : List declared_item.Item) (i : ℕ) (x : declared_item.Item) → i < length xs → x ≡ get_or xs i x
    → mark ≡ mark_of (type_fields looks.literals t) (shape_key x.key) (all_keys (items_of (take i xs)) ++ all_keys (items_of (drop (i + 1) xs)))
    → (f0 f1 : List Fault) → f1 ≡ f0 ++ turn_faults looks t mode m i mark (shape_key x.key) (shape x.value)
    → f1 ++ items_faults looks t mode m (i + 1) (all_keys (items_of (take (i + 1) xs))) (items_of (drop (i + 1) xs)) ≡ f0 ++ items_faults looks t mode m i (all_keys (items_of (take i xs))) (items_of (drop i xs))
turn_noted {T} looks mode t m mark xs i x h is right f0 f1 e =
    let ks = all_keys (items_of (take i xs)) in
    let rest = items_of (drop (i + 1) xs) in
    let others = ks ++ all_keys rest in
    let value = shape x.value in
    let found : Option T → List Fault = λ w. operand_faults looks stands.«Value» value ++ fault_at (item_start (shape_key x.key) value) (element_rule looks (start value) (element_target (literals_at looks (start value)) t mode i w) (denoted looks stands.«Value» value)) in
    let one = found (key_target_by looks t m (is_again (shape_key x.key) others) (shape_key x.key)) in
    let more = items_faults looks t mode m (suc i) (ks ++ key_names (shape_key x.key)) rest in
    ap (λ l. f1 ++ items_faults looks t mode m (i + 1) l rest) (sym (keys_more xs i x h is))
    ∙ (ap (λ n. f1 ++ items_faults looks t mode m n (ks ++ key_names (shape_key x.key)) rest) (add-one i)
    ∙ (ap (λ l. l ++ more) (e ∙ (ap (λ b. f0 ++ turn_faults looks t mode m i b (shape_key x.key) (shape x.value)) right ∙ ap (λ w. f0 ++ found w) (key_wanted looks t m others (shape_key x.key))))
    ∙ (append_assoc f0 one more
    ∙ ap (λ l. f0 ++ l) (ap (items_faults looks t mode m i ks) (sym (first_item xs i x h is))))))

-- a place that was kept is filled
pub placed : {X : Type 0} (xs0 xs1 xs2 xs3 : List X) (n : ℕ) (y z : X) (head ys : List X) → xs1 ≡ xs0 ++ head → xs2 ≡ xs1 ++ y ∷ [] → xs3 ≡ xs2 ++ ys → n ≡ length xs1 → set xs3 n z ≡ xs0 ++ (head ++ z ∷ ys)
placed xs0 xs1 xs2 xs3 n y z head ys a b c d =
    ap (λ l. set l n z) (c ∙ (ap (λ l. l ++ ys) b ∙ append_assoc xs1 (y ∷ []) ys))
    ∙ (ap (λ k. set (xs1 ++ y ∷ ys) k z) d ∙ (set-append_seam xs1 y ys z ∙ (ap (λ l. l ++ z ∷ ys) a ∙ append_assoc xs0 head (z ∷ ys))))

pub call_used : {T S D P : Type 0} (looks : Looks T S D P) (p : Stand) (e : ExprTree) (first : Span) (items : ItemTrees) (last : Span) → uses looks p (Call e first items last) ≡ call_uses looks e first items
call_used looks p e first items last = map-append (use_of looks) (spots looks stands.Callee e) _
