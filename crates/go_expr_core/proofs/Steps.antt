-- What a call of the program hands on.
use Rattle.std.proofs.Common.{◌≡◌, ℕ, Bool, List, [], ◌∷◌, ◌++◌, refl, sym, ap, subst, ◌∙◌, append_assoc}
use Rattle.std.specs.Prelude.{Option, Some, Result, Ok, Err, IfOk, OnOk}
use Rattle.std.specs.Global.{Box}
use Rattle.std.proofs.lemmas.Result.{on_ok_weaker}
use Rattle.go_tree_nodes.specs.declared.names.Ident.{Ident}
use Rattle.go_tree_nodes.specs.declared.exprs.Key.{Key}
use Rattle.go_tree_nodes.specs.declared.exprs.«Item» as declared_item
use Rattle.go_tree_nodes.specs.declared.usage.Usage.{Usage}
use Rattle.go_tree_nodes.specs.Shapes.{items_of, shape_key}
use Rattle.go_tree_core.specs.declared.occurrence.Role.TheVariants as roles
use Rattle.go_denote_core.specs.declared.things.Answer.{Answer}
use Rattle.go_denote_core.specs.declared.things.Argument.{Argument}
use Rattle.go_denote_core.specs.declared.things.Denoted.{Denoted}
use Rattle.go_denote_core.specs.declared.things.Dot.{Dot}
use Rattle.go_denote_core.specs.Look.{Look}
use Rattle.go_denote_core.specs.Selectors.{selector_answer}
use Rattle.go_denote_core.specs.Calls.{call_answer}
use Rattle.go_denote_core.specs.declared.composite.things.KeyAnswer.{KeyAnswer}
use Rattle.go_denote_core.specs.declared.composite.things.KeyMark.{KeyMark}
use Rattle.go_denote_core.specs.composite.Marks.{marked_answer}
use Rattle.go_expr_core.specs.declared.things.Use.{Use}
use Rattle.go_expr_core.specs.Looks.{Looks, look_of_place, literals_at}
use Rattle.go_expr_core.specs.Places.{is_several, is_lone_call}
use Rattle.go_expr_core.specs.Uses.{made_use, behind_use}
use Rattle.go_tree_nodes.specs.Trees.{ExprTree}
use Rattle.go_tree_nodes.specs.Counts.{item_count}
use Rattle.go_denote_core.specs.text_core.declared.rule.Rule.{Rule}
use Rattle.go_denote_core.specs.declared.things.Stand.TheVariants as stands
use Rattle.go_denote_core.specs.declared.composite.things.Keys.{Keys}
use Rattle.go_denote_core.specs.declared.composite.things.Mode.{Mode}
use Rattle.go_denote_core.specs.composite.Literals.{literal_rule, literal_mode, element_target, keys_among}
use Rattle.go_local_core.specs.declared.Fault.{Fault}
use Rattle.go_expr_core.specs.Places.{start, item_start}
use Rattle.go_expr_core.specs.Denoting.{denoted}
use Rattle.go_expr_core.specs.Elements.{all_keys, keys_of, is_mixed, element_rule, whole_rule, whole_mode}
use Rattle.go_expr_core.specs.Faults.{fault_at, operand_faults, items_faults, literal_faults}
use Rattle.go_expr_core.specs.mirrors.Turns.{key_uses_marked, key_target_marked, turn_faults}
use Rattle.std.proofs.Common.{map}
use Rattle.std.proofs.lemmas.List.{length-map}
use Rattle.go_expr_core.proofs.Marks.{items_counted}
use Rattle.std.proofs.Common.{◌≤◌, ◌<◌, length, true, false, arith}

pub ok_adds : {T E A : Type 0} (r : Result T E) (u1 u0 xs ys : List A) → xs ≡ ys → OnOk r (u1 ≡ u0 ++ xs) → OnOk r (u1 ≡ u0 ++ ys)
ok_adds r u1 u0 xs ys q h = on_ok_weaker r (λ e. e ∙ ap (λ l. u0 ++ l) q) h

-- two pieces that are added in turn
pub ok_both : {T E A : Type 0} (r : Result T E) (u0 u1 u2 xs ys zs : List A) → u1 ≡ u0 ++ xs → xs ++ ys ≡ zs → OnOk r (u2 ≡ u1 ++ ys) → OnOk r (u2 ≡ u0 ++ zs)
ok_both r u0 u1 u2 xs ys zs first q h = on_ok_weaker r (λ e. e ∙ (ap (λ l. l ++ ys) first ∙ (append_assoc u0 xs ys ∙ ap (λ l. u0 ++ l) q))) h

pub ok_is : {T E : Type 0} (r : Result T E) (x y : T) → x ≡ y → IfOk r (λ d. d ≡ x) → IfOk r (λ d. d ≡ y)
ok_is r x y q h = subst (λ z. IfOk r (λ d. d ≡ z)) q h

pub both : {A : Type 0} (u0 u1 u2 xs ys zs : List A) → u1 ≡ u0 ++ xs → u2 ≡ u1 ++ ys → xs ++ ys ≡ zs → u2 ≡ u0 ++ zs
both u0 u1 u2 xs ys zs first second q = second ∙ (ap (λ l. l ++ ys) first ∙ (append_assoc u0 xs ys ∙ ap (λ l. u0 ++ l) q))

pub called_as : {T S D P E : Type 0} (r : Result (Answer T S D P) E) (look : Look T S D P) (callee : Denoted T S D) (b b2 : Bool) (l l2 : List (Argument T)) → b ≡ b2 → l ≡ l2
    → IfOk r (λ a. a ≡ call_answer look callee b l) → IfOk r (λ a. a ≡ call_answer look callee b2 l2)
called_as r look callee b b2 l l2 e f h = ok_is r (call_answer look callee b l) (call_answer look callee b2 l2) (ap (λ x. call_answer look callee x l) e ∙ ap (λ x. call_answer look callee b2 x) f) h

pub selector_noted : {T S D P X E : Type 0} (r : Result X E) (looks : Looks T S D P) (usage : Usage) (dot : Dot T D) (x : Ident) (name : List ℕ) (a : Answer T S D P) (u0 u1 : List (Use D P))
    → name ≡ x.name → a ≡ selector_answer (look_of_place looks x.span.start) usage dot name
    → OnOk r (u1 ≡ u0 ++ made_use x.span.start (roles.Selector usage) a.outcome ∷ []) → OnOk r (u1 ≡ u0 ++ behind_use looks usage dot x ∷ [])
selector_noted {T} {S} {D} {P} r looks usage dot x name a u0 u1 en ea h =
    ok_adds r u1 u0 _ _ (ap (λ (b : Answer T S D P). made_use x.span.start (roles.Selector usage) b.outcome ∷ []) (ea ∙ ap (λ n. selector_answer (look_of_place looks x.span.start) usage dot n) en)) h

pub key_noted : {T S D P : Type 0} (looks : Looks T S D P) (t : Option T) (m : Bool) (mark : KeyMark) (key : Option (Box Key)) (k : Box Key) (k2 : Key) (name : List ℕ) (a : KeyAnswer T D P) (u0 u1 : List (Use D P))
    → key ≡ Some k → name ≡ k.value.name.name → k2 ≡ k.value → a ≡ marked_answer (literals_at looks k.value.name.span.start) t m mark name
    → u1 ≡ u0 ++ made_use k2.name.span.start roles.Key a.outcome ∷ [] → u1 ≡ u0 ++ key_uses_marked looks t m mark (shape_key key)
key_noted {T} {S} {D} {P} looks t m mark key k k2 name a u0 u1 is en e2 ea h =
    h ∙ (ap (λ (x : Key). u0 ++ made_use x.name.span.start roles.Key a.outcome ∷ []) e2
    ∙ (ap (λ (b : KeyAnswer T D P). u0 ++ made_use k.value.name.span.start roles.Key b.outcome ∷ []) (ea ∙ ap (λ n. marked_answer (literals_at looks k.value.name.span.start) t m mark n) en)
    ∙ ap (λ o. u0 ++ key_uses_marked looks t m mark (shape_key o)) (sym is)))

pub not_several : (xs : List declared_item.Item) → length xs < 2 → is_several (items_of xs) ≡ false
not_several [] h = refl
not_several (x ∷ []) h = refl
not_several (x ∷ y ∷ xs) h = absurd (omega (arith, h))

pub several : (xs : List declared_item.Item) → 2 ≤ length xs → is_several (items_of xs) ≡ true
several [] h = absurd (omega (arith, h))
several (x ∷ []) h = absurd (omega (arith, h))
several (x ∷ y ∷ xs) h = refl

pub not_lone : (xs : List declared_item.Item) → 2 ≤ length xs → is_lone_call (items_of xs) ≡ false
not_lone [] h = absurd (omega (arith, h))
not_lone (x ∷ []) h = absurd (omega (arith, h))
not_lone (x ∷ y ∷ xs) h = refl

pub keys_marked : {Y : Type 0} (f : Y → List ℕ) (names : List Y) (xs : List declared_item.Item) (n m : ℕ) → n ≡ length xs → m ≡ length names → map f names ≡ all_keys (items_of xs) → keys_among n m ≡ keys_of (items_of xs)
keys_marked f names xs n m a b e =
    ap (λ x. keys_among x m) (a ∙ sym (items_counted xs)) ∙ ap (keys_among (item_count (items_of xs))) (b ∙ (sym (length-map names f) ∙ ap length e))

pub element_noted : {T S D P X E : Type 0} (r : Result X E) (looks : Looks T S D P) (t : Option T) (mode : Mode) (m : Bool) (number : ℕ) (mark : KeyMark) (key : Option Key) (e : ExprTree)
    (offset : ℕ) (wanted by_key : Option T) (d : Denoted T S D) (f0 f1 f2 : List Fault)
    → f1 ≡ f0 ++ operand_faults looks stands.«Value» e → offset ≡ item_start key e → by_key ≡ key_target_marked looks t m mark key
    → wanted ≡ element_target (literals_at looks (start e)) t mode number by_key → d ≡ denoted looks stands.«Value» e
    → OnOk r (f2 ≡ f1 ++ fault_at offset (element_rule looks (start e) wanted d)) → OnOk r (f2 ≡ f0 ++ turn_faults looks t mode m number mark key e)
element_noted r looks t mode m number mark key e offset wanted by_key d f0 f1 f2 a at_key of_key want has h =
    ok_both r f0 f1 f2 _ _ _ a
    (ap (λ l. operand_faults looks stands.«Value» e ++ l)
    (ap (λ n. fault_at n (element_rule looks (start e) wanted d)) at_key
    ∙ (ap (λ w. fault_at (item_start key e) (element_rule looks (start e) w d)) (want ∙ ap (element_target (literals_at looks (start e)) t mode number) of_key)
    ∙ ap (λ x. fault_at (item_start key e) (element_rule looks (start e) (element_target (literals_at looks (start e)) t mode number (key_target_marked looks t m mark key)) x)) has)))
    h

pub elements_noted : {T S D P : Type 0} (looks : Looks T S D P) (t : Option T) (offset : ℕ) (xs : List declared_item.Item) (rule : Option Rule) (mode : Mode) (m : Bool) (ks : Keys) (n1 n2 : ℕ) (f0 f1 f2 : List Fault)
    → ks ≡ keys_of (items_of xs) → n1 ≡ length xs → n2 ≡ length xs → rule ≡ literal_rule (literals_at looks offset) t ks n1 → mode ≡ literal_mode (literals_at looks offset) t ks n2 → m ≡ is_mixed ks
    → f1 ≡ f0 ++ fault_at offset rule → f2 ≡ f1 ++ items_faults looks t mode m 0 [] (items_of xs) → f2 ≡ f0 ++ literal_faults looks offset t (items_of xs)
elements_noted looks t offset xs rule mode m ks n1 n2 f0 f1 f2 of_keys c1 c2 of_rule of_mode of_mixed a b =
    let items = items_of xs in
    let right_rule : rule ≡ whole_rule looks offset t items = of_rule ∙ (ap (λ k. literal_rule (literals_at looks offset) t k n1) of_keys ∙ ap (literal_rule (literals_at looks offset) t (keys_of items)) (c1 ∙ sym (items_counted xs))) in
    let right_mode : mode ≡ whole_mode looks offset t items = of_mode ∙ (ap (λ k. literal_mode (literals_at looks offset) t k n2) of_keys ∙ ap (literal_mode (literals_at looks offset) t (keys_of items)) (c2 ∙ sym (items_counted xs))) in
    let right_mixed : m ≡ is_mixed (keys_of items) = of_mixed ∙ ap is_mixed of_keys in
    both f0 f1 f2 _ _ _ a b
    (ap (λ x. fault_at offset x ++ items_faults looks t mode m 0 [] items) right_rule
    ∙ (ap (λ x. fault_at offset (whole_rule looks offset t items) ++ items_faults looks t x m 0 [] items) right_mode
    ∙ ap (λ x. fault_at offset (whole_rule looks offset t items) ++ items_faults looks t (whole_mode looks offset t items) x 0 [] items) right_mixed))

pub ok_any : {T E P : Type 0} (r : Result T E) → P → OnOk r P
ok_any (Ok x) p = p
ok_any (Err e) p = tt
