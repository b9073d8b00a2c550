-- Which rules literals break as a whole, and which of their elements have keys.
use Rattle.std.proofs.Common.{◌≡◌, ℕ, zero, suc, ◌+◌, ◌<◌, ◌≤◌, Bool, true, false, not, ◌&&◌, ◌||◌, cond, List, [], ◌∷◌, length, take, ◌⊎◌, inl, inr, if◌then◌else◌, refl, sym, ap, ◌∙◌, subst, arith}
use Rattle.std.specs.Prelude.{◌↔◌, ◌≢◌, ◌==◌, Option, Some, None, slice_get}
use Rattle.std.specs.List.{list_all, list_any, count_by}
use Rattle.std.proofs.lemmas.Option.{none-some, same_Some}
use Rattle.std.proofs.lemmas.Bool.{true≢false}
use Rattle.std.proofs.lemmas.Bool.Decides.{eqb_tells}
use Rattle.std.proofs.lemmas.List.Sums.{sum_by-cons}
use Rattle.go_text_core.specs.declared.rule.Rule.{Rule}
use Rattle.go_text_core.specs.declared.rule.Rule.TheVariants.{F5, F6, F7, F8}
use Rattle.go_operand_core.specs.declared.types.TypeForm.{TypeForm}
use Rattle.go_operand_core.specs.declared.types.TypeForm.TheVariants as forms
use Rattle.go_denote_core.specs.Rules.{breaks, first_of}
use Rattle.go_denote_core.specs.declared.composite.things.Keys.{Keys}
use Rattle.go_denote_core.specs.declared.composite.things.Keys.TheVariants as keys
use Rattle.go_denote_core.specs.composite.Look.{FieldOf, LiteralLook}
use Rattle.go_denote_core.specs.composite.Literals.{keys_among, is_struct, is_visible_field, unkeyed_rule, struct_rule, literal_rule}
use Rattle.go_denote_core.specs.composite.Rules.{has_no_key, has_some_keys}
use Rattle.go_denote_core.specs.composite.Laws.{KeysOfElements, FirstRuleOfLiteral, HasFields, RulesOfLiterals}

-- which elements have keys

any_keyed : (flags : List Bool) → ((list_any (λ b. b) flags ≡ false) × (count_by (λ b. b) flags ≡ 0)) ⊎ ((list_any (λ b. b) flags ≡ true) × (0 < count_by (λ b. b) flags))
any_keyed [] = inl (refl, refl)
any_keyed (b ∷ bs) = by b (any_keyed bs) (sum_by-cons (λ x. cond x 1 0) b bs)
  where
    by : (b : Bool) → ((list_any (λ x. x) bs ≡ false) × (count_by (λ x. x) bs ≡ 0)) ⊎ ((list_any (λ x. x) bs ≡ true) × (0 < count_by (λ x. x) bs))
        → count_by (λ x. x) (b ∷ bs) ≡ cond b 1 0 + count_by (λ x. x) bs
        → ((list_any (λ x. x) (b ∷ bs) ≡ false) × (count_by (λ x. x) (b ∷ bs) ≡ 0)) ⊎ ((list_any (λ x. x) (b ∷ bs) ≡ true) × (0 < count_by (λ x. x) (b ∷ bs)))
    by true rest e = let e' : count_by (λ x. x) (true ∷ bs) ≡ 1 + count_by (λ x. x) bs = e in inr (refl, omega arith)
    by false (inl rest) e = let e' : count_by (λ x. x) (false ∷ bs) ≡ 0 + count_by (λ x. x) bs = e in let r : count_by (λ x. x) bs ≡ 0 = rest.1 in inl (rest.0, omega arith)
    by false (inr rest) e = let e' : count_by (λ x. x) (false ∷ bs) ≡ 0 + count_by (λ x. x) bs = e in let r : 0 < count_by (λ x. x) bs = rest.1 in inr (rest.0, omega arith)

all_keyed : (flags : List Bool) → count_by (λ b. b) flags ≤ length flags
    × (((list_all (λ b. b) flags ≡ true) × (count_by (λ b. b) flags ≡ length flags)) ⊎ ((list_all (λ b. b) flags ≡ false) × (count_by (λ b. b) flags < length flags)))
all_keyed [] = (omega arith, inl (refl, refl))
all_keyed (b ∷ bs) = let rest = all_keyed bs in by b rest.0 rest.1 (sum_by-cons (λ x. cond x 1 0) b bs)
  where
    by : (b : Bool) → count_by (λ x. x) bs ≤ length bs
        → ((list_all (λ x. x) bs ≡ true) × (count_by (λ x. x) bs ≡ length bs)) ⊎ ((list_all (λ x. x) bs ≡ false) × (count_by (λ x. x) bs < length bs))
        → count_by (λ x. x) (b ∷ bs) ≡ cond b 1 0 + count_by (λ x. x) bs
        → (count_by (λ x. x) (b ∷ bs) ≤ suc (length bs)) × (((list_all (λ x. x) (b ∷ bs) ≡ true) × (count_by (λ x. x) (b ∷ bs) ≡ suc (length bs))) ⊎ ((list_all (λ x. x) (b ∷ bs) ≡ false) × (count_by (λ x. x) (b ∷ bs) < suc (length bs))))
    by true le (inl rest) e = let e' : count_by (λ x. x) (true ∷ bs) ≡ 1 + count_by (λ x. x) bs = e in let r : count_by (λ x. x) bs ≡ length bs = rest.1 in (omega arith, inl (rest.0, omega arith))
    by true le (inr rest) e = let e' : count_by (λ x. x) (true ∷ bs) ≡ 1 + count_by (λ x. x) bs = e in let r : count_by (λ x. x) bs < length bs = rest.1 in (omega arith, inr (rest.0, omega arith))
    by false le rest e = let e' : count_by (λ x. x) (false ∷ bs) ≡ 0 + count_by (λ x. x) bs = e in (omega arith, inr (refl, omega arith))

abbrev keys_by : Bool → Bool → Keys
keys_by false all = keys.None
keys_by true true = keys.All
keys_by true false = keys.Some

among_by : (count keyed : ℕ) (any all : Bool) → ((any ≡ false) × (keyed ≡ 0)) ⊎ ((any ≡ true) × (0 < keyed))
    → ((all ≡ true) × (keyed ≡ count)) ⊎ ((all ≡ false) × (keyed < count)) → keys_among count keyed ≡ keys_by any all
among_by count keyed any all (inl n) a =
    ap (λ b. if b then keys.None else (if keyed == count then keys.All else keys.Some)) (is_zero (eqb_tells keyed 0)) ∙ sym (ap (λ b. keys_by b all) n.0)
  where
    is_zero : (((keyed == 0) ≡ true) × (keyed ≡ 0)) ⊎ (((keyed == 0) ≡ false) × (keyed ≢ 0)) → (keyed == 0) ≡ true
    is_zero (inl t) = t.0
    is_zero (inr t) = absurd (t.1 n.1)
among_by count keyed any all (inr n) a =
    ap (λ b. if b then keys.None else (if keyed == count then keys.All else keys.Some)) (not_zero (eqb_tells keyed 0)) ∙ (by a (eqb_tells keyed count) ∙ sym (ap (λ b. keys_by b all) n.0))
  where
    not_zero : (((keyed == 0) ≡ true) × (keyed ≡ 0)) ⊎ (((keyed == 0) ≡ false) × (keyed ≢ 0)) → (keyed == 0) ≡ false
    not_zero (inl t) = let z : keyed ≡ 0 = t.1 in let m : 0 < keyed = n.1 in absurd (omega arith)
    not_zero (inr t) = t.0

    by : ((all ≡ true) × (keyed ≡ count)) ⊎ ((all ≡ false) × (keyed < count)) → (((keyed == count) ≡ true) × (keyed ≡ count)) ⊎ (((keyed == count) ≡ false) × (keyed ≢ count))
        → (if keyed == count then keys.All else keys.Some) ≡ keys_by true all
    by (inl h) (inl t) = ap (λ b. if b then keys.All else keys.Some) t.0 ∙ sym (ap (keys_by true) h.0)
    by (inl h) (inr t) = absurd (t.1 h.1)
    by (inr h) (inl t) = let e : keyed ≡ count = t.1 in let l : keyed < count = h.1 in absurd (omega arith)
    by (inr h) (inr t) = ap (λ b. if b then keys.All else keys.Some) t.0 ∙ sym (ap (keys_by true) h.0)

keys_are : (flags : List Bool) → keys_among (length flags) (count_by (λ b. b) flags) ≡ keys_by (list_any (λ b. b) flags) (list_all (λ b. b) flags)
keys_are flags = let all = all_keyed flags in among_by (length flags) (count_by (λ b. b) flags) (list_any (λ b. b) flags) (list_all (λ b. b) flags) (any_keyed flags) all.1

none_by : (any all : Bool) → (keys_by any all ≡ keys.None) ↔ (any ≡ false)
none_by false all = (λ h. refl, λ h. refl)
none_by true true = (λ h. ap has_no_key (sym h), λ h. absurd (true≢false h))
none_by true false = (λ h. ap has_no_key (sym h), λ h. absurd (true≢false h))

some_by : (any all : Bool) → (keys_by any all ≡ keys.Some) ↔ ((any ≡ true) × (all ≡ false))
some_by false all = (λ h. absurd (true≢false (ap has_some_keys (sym h))), λ h. absurd (true≢false (sym h.0)))
some_by true true = (λ h. absurd (true≢false (ap has_some_keys (sym h))), λ h. absurd (true≢false h.1))
some_by true false = (λ h. (refl, refl), λ h. refl)

abbrev has_all_keys : Keys → Bool
has_all_keys keys.None = false
has_all_keys keys.All = true
has_all_keys keys.Some = false

all_by : (any all : Bool) → (keys_by any all ≡ keys.All) ↔ ((any ≡ true) × (all ≡ true))
all_by false all = (λ h. absurd (true≢false (ap has_all_keys (sym h))), λ h. absurd (true≢false (sym h.0)))
all_by true true = (λ h. (refl, refl), λ h. refl)
all_by true false = (λ h. absurd (true≢false (ap has_all_keys (sym h))), λ h. absurd (true≢false (sym h.1)))

moved : {P : Type 0} (k l m : Keys) → k ≡ l → (l ≡ m) ↔ P → (k ≡ m) ↔ P
moved k l m same h = (λ e. h.0 (sym same ∙ e), λ p. same ∙ h.1 p)

pub keys_of_elements : KeysOfElements
keys_of_elements = record {
  none = λ flags. let any = list_any (λ b. b) flags in let all = list_all (λ b. b) flags in moved (keys_among (length flags) (count_by (λ b. b) flags)) (keys_by any all) keys.None (keys_are flags) (none_by any all);
  all = λ flags. let any = list_any (λ b. b) flags in let all = list_all (λ b. b) flags in moved (keys_among (length flags) (count_by (λ b. b) flags)) (keys_by any all) keys.All (keys_are flags) (all_by any all);
  some = λ flags. let any = list_any (λ b. b) flags in let all = list_all (λ b. b) flags in moved (keys_among (length flags) (count_by (λ b. b) flags)) (keys_by any all) keys.Some (keys_are flags) (some_by any all);
}

-- the first rule of the table

take_all : {X : Type 0} (xs : List X) (n : ℕ) → n ≡ length xs → take n xs ≡ xs
take_all xs n e = ap (λ m. take m xs) e ∙ whole xs
  where
    whole : {X : Type 0} (ys : List X) → take (length ys) ys ≡ ys
    whole [] = refl
    whole (y ∷ ys) = ap (λ l. y ∷ l) (whole ys)

any_not : {X : Type 0} (p : X → Bool) (xs : List X) → list_any (λ x. not (p x)) xs ≡ not (list_all p xs)
any_not p [] = refl
any_not p (x ∷ xs) = by (p x) (any_not p xs)
  where
    by : (b : Bool) → list_any (λ y. not (p y)) xs ≡ not (list_all p xs) → (not b || list_any (λ y. not (p y)) xs) ≡ not (b && list_all p xs)
    by true h = h
    by false h = refl

-- whether there are as many elements as fields
unkeyed_table : {T D : Type 0} (count : ℕ) (fields : List (FieldOf T D))
    → unkeyed_rule count fields ≡ first_of (None ∷ (None ∷ (breaks F6 (not (count == 0) && not (count == length fields)) ∷ (breaks F7 (list_any (λ f. not (is_visible_field f)) (take count fields)) ∷ []))))
unkeyed_table {T} {D} count fields = by (count == 0) (count == length fields) (eqb_tells count 0) (eqb_tells count (length fields))
  where
    shown : (b : Bool) → (if b then None else Some F7) ≡ first_of (breaks F7 (not b) ∷ [])
    shown true = refl
    shown false = refl

    by : (z e : Bool) → ((z ≡ true) × (count ≡ 0)) ⊎ ((z ≡ false) × (count ≢ 0)) → ((e ≡ true) × (count ≡ length fields)) ⊎ ((e ≡ false) × (count ≢ length fields))
        → (if z then None else (if e then (if list_all is_visible_field fields then None else Some F7) else Some F6))
        ≡ first_of (breaks F6 (not z && not e) ∷ (breaks F7 (list_any (λ f. not (is_visible_field f)) (take count fields)) ∷ []))
    by true e (inl h) k = sym (ap (λ n. first_of (breaks F7 (list_any (λ f. not (is_visible_field f)) (take n fields)) ∷ [])) h.1)
    by true e (inr h) k = absurd (true≢false h.0)
    by false true h (inl k) =
        shown (list_all is_visible_field fields)
        ∙ (ap (λ b. first_of (breaks F7 b ∷ [])) (sym (any_not is_visible_field fields)) ∙ ap (λ l. first_of (breaks F7 (list_any (λ f. not (is_visible_field f)) l) ∷ [])) (sym (take_all fields count k.1)))
    by false true h (inr k) = absurd (true≢false k.0)
    by false false h k = refl

struct_table : {T D : Type 0} (ks : Keys) (count : ℕ) (fields : List (FieldOf T D))
    → struct_rule ks count fields
    ≡ first_of (None ∷ (breaks F5 (has_some_keys ks) ∷ (breaks F6 (has_no_key ks && (not (count == 0) && not (count == length fields))) ∷ (breaks F7 (has_no_key ks && list_any (λ f. not (is_visible_field f)) (take count fields)) ∷ []))))
struct_table keys.None count fields = unkeyed_table count fields
struct_table keys.All count fields = refl
struct_table keys.Some count fields = refl

pub first_of_literal : {T S D P : Type 0} → FirstRuleOfLiteral T S D P
first_of_literal look None ks count = refl
first_of_literal look (Some t) ks count = by (is_struct (look.types.form t)) (struct_table ks count (look.literals.fields t))
  where
    by : (b : Bool)
        → struct_rule ks count (look.literals.fields t)
        ≡ first_of (None ∷ (breaks F5 (has_some_keys ks) ∷ (breaks F6 (has_no_key ks && (not (count == 0) && not (count == length (look.literals.fields t)))) ∷ (breaks F7 (has_no_key ks && list_any (λ f. not (is_visible_field f)) (take count (look.literals.fields t))) ∷ []))))
        → (if b then struct_rule ks count (look.literals.fields t) else Some F8)
        ≡ first_of (breaks F8 (not b) ∷ (breaks F5 (has_some_keys ks) ∷ (breaks F6 (has_no_key ks && (not (count == 0) && not (count == length (look.literals.fields t)))) ∷ (breaks F7 (has_no_key ks && list_any (λ f. not (is_visible_field f)) (take count (look.literals.fields t))) ∷ []))))
    by true h = h
    by false h = refl

-- the rules, each both ways

all_visible_at : {T D : Type 0} (fields : List (FieldOf T D)) → list_all is_visible_field fields ≡ true → (at : ℕ) (f : FieldOf T D) → slice_get fields at ≡ Some f → is_visible_field f ≡ true
all_visible_at [] h at f there = absurd (none-some f there)
all_visible_at (x ∷ xs) h at f there = by (is_visible_field x) refl (λ h n there. all_visible_at xs h n f there) h at there
  where
    by : (b : Bool) → is_visible_field x ≡ b → (list_all is_visible_field xs ≡ true → (n : ℕ) → slice_get xs n ≡ Some f → is_visible_field f ≡ true)
        → (b && list_all is_visible_field xs) ≡ true → (n : ℕ) → slice_get (x ∷ xs) n ≡ Some f → is_visible_field f ≡ true
    by false e later h n there = absurd (true≢false (sym h))
    by true e later h zero there = ap is_visible_field (sym (same_Some x f there)) ∙ e
    by true e later h (suc n) there = later h n there

visible_at_all : {T D : Type 0} (fields : List (FieldOf T D)) → ((at : ℕ) (f : FieldOf T D) → slice_get fields at ≡ Some f → is_visible_field f ≡ true) → list_all is_visible_field fields ≡ true
visible_at_all [] h = refl
visible_at_all (x ∷ xs) h = ap (λ b. b && list_all is_visible_field xs) (h 0 x refl) ∙ visible_at_all xs (λ at f there. h (suc at) f there)

hidden_at : {T D : Type 0} (fields : List (FieldOf T D)) → list_all is_visible_field fields ≡ false → (at : ℕ) × (f : FieldOf T D) × (slice_get fields at ≡ Some f) × (is_visible_field f ≡ false)
hidden_at [] h = absurd (true≢false h)
hidden_at {T} {D} (x ∷ xs) h = by (is_visible_field x) refl (hidden_at xs) h
  where
    by : (b : Bool) → is_visible_field x ≡ b → (list_all is_visible_field xs ≡ false → (at : ℕ) × (f : FieldOf T D) × (slice_get xs at ≡ Some f) × (is_visible_field f ≡ false))
        → (b && list_all is_visible_field xs) ≡ false → (at : ℕ) × (f : FieldOf T D) × (slice_get (x ∷ xs) at ≡ Some f) × (is_visible_field f ≡ false)
    by false e later h = (zero, x, refl, e)
    by true e later h = let it = later h in (suc it.0, it.1, it.2, it.3)

at_hidden : {T D : Type 0} (fields : List (FieldOf T D)) (at : ℕ) (f : FieldOf T D) → slice_get fields at ≡ Some f → is_visible_field f ≡ false → list_all is_visible_field fields ≡ false
at_hidden fields at f there hidden = by (list_all is_visible_field fields) refl
  where
    by : (b : Bool) → list_all is_visible_field fields ≡ b → b ≡ false
    by true h = absurd (true≢false (sym (all_visible_at fields h at f there) ∙ hidden))
    by false h = refl

-- what each answer says
abbrev Says : (T S D P : Type 0) → LiteralLook T S D P → Option T → Keys → ℕ → Option Rule → Type 0
Says T S D P look t ks count None =
    (fields : List (FieldOf T D)) × HasFields T S D P look t fields
    × ((ks ≡ keys.All) ⊎ ((ks ≡ keys.None) × ((count ≡ 0) ⊎ ((count ≡ length fields) × ((at : ℕ) (f : FieldOf T D) → slice_get fields at ≡ Some f → is_visible_field f ≡ true)))))
Says T S D P look t ks count (Some F8) = (fields : List (FieldOf T D)) → HasFields T S D P look t fields → ⊥
Says T S D P look t ks count (Some F5) = (fields : List (FieldOf T D)) × HasFields T S D P look t fields × (ks ≡ keys.Some)
Says T S D P look t ks count (Some F6) = (fields : List (FieldOf T D)) × HasFields T S D P look t fields × (ks ≡ keys.None) × (count ≢ 0) × (count ≢ length fields)
Says T S D P look t ks count (Some F7) =
    (fields : List (FieldOf T D)) × HasFields T S D P look t fields × (ks ≡ keys.None) × (count ≡ length fields)
    × (at : ℕ) × (f : FieldOf T D) × (slice_get fields at ≡ Some f) × (is_visible_field f ≡ false)
Says T S D P look t ks count (Some other) = ⊥

struct_form : {T : Type 0} (form : TypeForm T) → is_struct form ≡ true → form ≡ forms.Struct
struct_form forms.Struct h = refl
struct_form forms.Nothing h = absurd (true≢false (sym h))
struct_form (forms.Basic b) h = absurd (true≢false (sym h))
struct_form (forms.Pointer t) h = absurd (true≢false (sym h))
struct_form forms.Interface h = absurd (true≢false (sym h))

says_unkeyed : (T S D P : Type 0) (look : LiteralLook T S D P) (t : Option T) (count : ℕ) (fields : List (FieldOf T D)) → HasFields T S D P look t fields
    → Says T S D P look t keys.None count (unkeyed_rule count fields)
says_unkeyed T S D P look t count fields has = by (count == 0) (count == length fields) (list_all is_visible_field fields) refl (eqb_tells count 0) (eqb_tells count (length fields))
  where
    by : (z e v : Bool) → list_all is_visible_field fields ≡ v → ((z ≡ true) × (count ≡ 0)) ⊎ ((z ≡ false) × (count ≢ 0)) → ((e ≡ true) × (count ≡ length fields)) ⊎ ((e ≡ false) × (count ≢ length fields))
        → Says T S D P look t keys.None count (if z then None else (if e then (if v then None else Some F7) else Some F6))
    by true e v shown (inl h) k = (fields, has, inr (refl, inl h.1))
    by true e v shown (inr h) k = absurd (true≢false h.0)
    by false true true shown h (inl k) = (fields, has, inr (refl, inr (k.1, all_visible_at fields shown)))
    by false true false shown h (inl k) = let it = hidden_at fields shown in (fields, has, refl, k.1, it.0, it.1, it.2, it.3)
    by false true v shown h (inr k) = absurd (true≢false k.0)
    by false false v shown (inl h) k = absurd (true≢false (sym h.0))
    by false false v shown (inr h) (inl k) = absurd (true≢false (sym k.0))
    by false false v shown (inr h) (inr k) = (fields, has, refl, h.1, k.1)

says_struct : (T S D P : Type 0) (look : LiteralLook T S D P) (t : Option T) (ks : Keys) (count : ℕ) (fields : List (FieldOf T D)) → HasFields T S D P look t fields
    → Says T S D P look t ks count (struct_rule ks count fields)
says_struct T S D P look t keys.None count fields has = says_unkeyed T S D P look t count fields has
says_struct T S D P look t keys.All count fields has = (fields, has, inl refl)
says_struct T S D P look t keys.Some count fields has = (fields, has, refl)

says_rule : (T S D P : Type 0) (look : LiteralLook T S D P) (t : Option T) (ks : Keys) (count : ℕ) → Says T S D P look t ks count (literal_rule look t ks count)
says_rule T S D P look None ks count = λ fields has. none-some has.of has.is
says_rule T S D P look (Some t) ks count = by (is_struct (look.types.form t)) refl
  where
    by : (b : Bool) → is_struct (look.types.form t) ≡ b → Says T S D P look (Some t) ks count (if b then struct_rule ks count (look.literals.fields t) else Some F8)
    by true struct = says_struct T S D P look (Some t) ks count (look.literals.fields t) (record { of = t; is = refl; form = struct_form (look.types.form t) struct; has = refl })
    by false other = λ fields has. true≢false (sym (ap is_struct has.form) ∙ (ap (λ u. is_struct (look.types.form u)) (sym (same_Some t has.of has.is)) ∙ other))

-- and back

of_struct : (T S D P : Type 0) (look : LiteralLook T S D P) (t : Option T) (ks : Keys) (count : ℕ) (fields : List (FieldOf T D)) → HasFields T S D P look t fields
    → literal_rule look t ks count ≡ struct_rule ks count fields
of_struct T S D P look t ks count fields has =
    ap (λ u. literal_rule look u ks count) has.is
    ∙ (ap (λ form. if is_struct form then struct_rule ks count (look.literals.fields has.of) else Some F8) has.form ∙ ap (struct_rule ks count) has.has)

of_none : (T S D P : Type 0) (look : LiteralLook T S D P) (t : Option T) (ks : Keys) (count : ℕ) → ((fields : List (FieldOf T D)) → HasFields T S D P look t fields → ⊥)
    → literal_rule look t ks count ≡ Some F8
of_none T S D P look None ks count gone = refl
of_none T S D P look (Some t) ks count gone = by (is_struct (look.types.form t)) refl
  where
    by : (b : Bool) → is_struct (look.types.form t) ≡ b → (if b then struct_rule ks count (look.literals.fields t) else Some F8) ≡ Some F8
    by true struct = absurd (gone (look.literals.fields t) (record { of = t; is = refl; form = struct_form (look.types.form t) struct; has = refl }))
    by false other = refl

count_is : (a b : ℕ) → a ≡ b → (a == b) ≡ true
count_is a b e = by (eqb_tells a b)
  where
    by : (((a == b) ≡ true) × (a ≡ b)) ⊎ (((a == b) ≡ false) × (a ≢ b)) → (a == b) ≡ true
    by (inl h) = h.0
    by (inr h) = absurd (h.1 e)

count_differs : (a b : ℕ) → a ≢ b → (a == b) ≡ false
count_differs a b e = by (eqb_tells a b)
  where
    by : (((a == b) ≡ true) × (a ≡ b)) ⊎ (((a == b) ≡ false) × (a ≢ b)) → (a == b) ≡ false
    by (inl h) = absurd (e h.1)
    by (inr h) = h.0

-- the rule of a literal without keys, by how it is counted
abbrev counted : Bool → Bool → Bool → Option Rule
counted z e v = if z then None else (if e then (if v then None else Some F7) else Some F6)

unkeyed_by : {T D : Type 0} (count : ℕ) (fields : List (FieldOf T D)) (z e v : Bool) → (count == 0) ≡ z → (count == length fields) ≡ e → list_all is_visible_field fields ≡ v
    → unkeyed_rule count fields ≡ counted z e v
unkeyed_by count fields z e v hz he hv =
    ap (λ b. counted b (count == length fields) (list_all is_visible_field fields)) hz ∙ (ap (λ b. counted z b (list_all is_visible_field fields)) he ∙ ap (counted z e) hv)

none_empty : {T D : Type 0} (count : ℕ) (fields : List (FieldOf T D)) → count ≡ 0 → unkeyed_rule count fields ≡ None
none_empty count fields e = ap (λ b. counted b (count == length fields) (list_all is_visible_field fields)) (count_is count 0 e)

none_counted : {T D : Type 0} (count : ℕ) (fields : List (FieldOf T D)) → count ≡ length fields → list_all is_visible_field fields ≡ true → unkeyed_rule count fields ≡ None
none_counted count fields e v = unkeyed_by count fields (count == 0) true true refl (count_is count (length fields) e) v ∙ by (count == 0)
  where
    by : (z : Bool) → counted z true true ≡ None
    by true = refl
    by false = refl

has_some : {X : Type 0} (xs : List X) (at : ℕ) (x : X) (count : ℕ) → slice_get xs at ≡ Some x → count ≡ length xs → count ≢ 0
has_some [] at x count there e = absurd (none-some x there)
has_some (y ∷ ys) at x count there e = λ z. absurd (omega arith)

of_fine : (T S D P : Type 0) (look : LiteralLook T S D P) (t : Option T) (ks : Keys) (count : ℕ) → Says T S D P look t ks count None → literal_rule look t ks count ≡ None
of_fine T S D P look t ks count h = of_struct T S D P look t ks count h.0 h.1 ∙ by h.2
  where
    by : (ks ≡ keys.All) ⊎ ((ks ≡ keys.None) × ((count ≡ 0) ⊎ ((count ≡ length h.0) × ((at : ℕ) (f : FieldOf T D) → slice_get h.0 at ≡ Some f → is_visible_field f ≡ true)))) → struct_rule ks count h.0 ≡ None
    by (inl k) = ap (λ l. struct_rule l count h.0) k
    by (inr k) = ap (λ l. struct_rule l count h.0) k.0 ∙ at_last k.1
      where
        at_last : (count ≡ 0) ⊎ ((count ≡ length h.0) × ((at : ℕ) (f : FieldOf T D) → slice_get h.0 at ≡ Some f → is_visible_field f ≡ true)) → unkeyed_rule count h.0 ≡ None
        at_last (inl e) = none_empty count h.0 e
        at_last (inr e) = none_counted count h.0 e.0 (visible_at_all h.0 e.1)

of_hidden : (T S D P : Type 0) (look : LiteralLook T S D P) (t : Option T) (ks : Keys) (count : ℕ) → Says T S D P look t ks count (Some F7) → literal_rule look t ks count ≡ Some F7
of_hidden T S D P look t ks count h =
    of_struct T S D P look t ks count h.0 h.1
    ∙ (ap (λ l. struct_rule l count h.0) h.2
    ∙ unkeyed_by count h.0 false true false (count_differs count 0 (has_some h.0 h.4 h.5 count h.6 h.3)) (count_is count (length h.0) h.3) (at_hidden h.0 h.4 h.5 h.6 h.7))

of_miscounted : (T S D P : Type 0) (look : LiteralLook T S D P) (t : Option T) (ks : Keys) (count : ℕ) → Says T S D P look t ks count (Some F6) → literal_rule look t ks count ≡ Some F6
of_miscounted T S D P look t ks count h =
    of_struct T S D P look t ks count h.0 h.1
    ∙ (ap (λ l. struct_rule l count h.0) h.2
    ∙ unkeyed_by count h.0 false false (list_all is_visible_field h.0) (count_differs count 0 h.3) (count_differs count (length h.0) h.4) refl)

of_mixed : (T S D P : Type 0) (look : LiteralLook T S D P) (t : Option T) (ks : Keys) (count : ℕ) → Says T S D P look t ks count (Some F5) → literal_rule look t ks count ≡ Some F5
of_mixed T S D P look t ks count h = of_struct T S D P look t ks count h.0 h.1 ∙ ap (λ l. struct_rule l count h.0) h.2

said : (T S D P : Type 0) (look : LiteralLook T S D P) (t : Option T) (ks : Keys) (count : ℕ) (r : Option Rule) → literal_rule look t ks count ≡ r → Says T S D P look t ks count r
said T S D P look t ks count r h = subst (λ o. Says T S D P look t ks count o) h (says_rule T S D P look t ks count)

pub rules_of_literals : {T S D P : Type 0} → RulesOfLiterals T S D P
rules_of_literals {T} {S} {D} {P} = record {
  no_struct = λ look t ks count. (said T S D P look t ks count (Some F8), of_none T S D P look t ks count);
  mixed = λ look t ks count. (said T S D P look t ks count (Some F5), of_mixed T S D P look t ks count);
  miscounted = λ look t ks count. (said T S D P look t ks count (Some F6), of_miscounted T S D P look t ks count);
  hidden = λ look t ks count. (said T S D P look t ks count (Some F7), of_hidden T S D P look t ks count);
  fine = λ look t ks count. (said T S D P look t ks count None, of_fine T S D P look t ks count);
}
