-- Names of methods, gathered, and the fields that have them.
use Rattle.std.proofs.Common.{◌≡◌, ℕ, ◌+◌, ◌<◌, ◌≤◌, Bool, true, false, not, ◌||◌, List, [], ◌∷◌, ◌++◌, map, length, drop, get_or, if◌then◌else◌, refl, sym, ap, ◌∙◌}
use Rattle.std.specs.Str.{bytes_eq}
use Rattle.std.proofs.lemmas.Bool.{true≢false, and_from, or_left, or_parts, or_right}
use Rattle.std.proofs.lemmas.List.{drop_more, drop_all}
use Rattle.std.proofs.lemmas.Slice.Eq.{bytes_eq-Decides}
use Rattle.go_collections_core.specs.text_core.declared.rule.Rule.TheVariants as rules
use Rattle.go_collections_core.specs.text_core.Each.{or_false}
use Rattle.go_term_core.specs.declared.term.Field.{Field}
use Rattle.go_term_core.specs.Terms.{Term, NoType, Predeclared, ErrorType, Defined, PointerTo, StructOf, InterfaceOf, Fields, NoField, AField}
use Rattle.go_term_core.specs.Shapes.{Line, fields_in}
use Rattle.go_term_core.specs.settling.Settled.{is_among_names}
use Rattle.go_type_core.specs.table_core.declared.entry.DeclaredMethod.{DeclaredMethod}
use Rattle.go_type_core.specs.table_core.Entries.{Member}
use Rattle.go_type_core.specs.table_core.Methods.{field_spelled, term_fields}
use Rattle.go_type_core.specs.table_core.Shown.{member_shown}
use Rattle.go_embed_core.specs.declared.faults.MemberFault.{MemberFault}
use Rattle.go_embed_core.specs.Faults.{member_fault_if, is_left_out, own_names, named_faults, hidden_faults}
use Rattle.go_embed_core.specs.mirrors.Passing.{SameNames, is_hiding, is_one_hiding, names_with}
use Rattle.go_embed_core.proofs.Noting.{step}

-- names so far, and those of the methods that are left
abbrev Together : List ℕ → Term → List (List ℕ) → List Member → List ℕ → Bool
Together path u names ms n = is_among_names names n || is_among_names (own_names path u ms) n

taken : (path : List ℕ) (u : Term) (m : Member) (ms : List Member) (names : List (List ℕ)) (n : List ℕ)
    → (is_among_names (names_with path u m names) n || is_among_names (own_names path u ms) n) ≡ (is_among_names names n || is_among_names (own_names path u (m ∷ ms)) n)
taken path u m ms names n = by (is_left_out path u m)
  where
    add : (a b c : Bool) → ((if a then true else b) || c) ≡ (b || (if a then true else c))
    add true true c = refl
    add true false c = refl
    add false b c = refl

    by : (b : Bool) → (is_among_names (if b then names else m.name ∷ names) n || is_among_names (own_names path u ms) n) ≡ (is_among_names names n || is_among_names (if b then own_names path u ms else m.name ∷ own_names path u ms) n)
    by true = refl
    by false = add (bytes_eq m.name n) (is_among_names names n) (is_among_names (own_names path u ms) n)

pub names_step : (path : List ℕ) (u : Term) (ms : List DeclaredMethod) (i : ℕ) (m : DeclaredMethod) (names more : List (List ℕ)) → i < length ms → m ≡ get_or ms i m
    → SameNames more (names_with path u (member_shown m) names)
    → ((n : List ℕ) → (is_among_names names n || is_among_names (own_names path u (map member_shown (drop i ms))) n) ≡ is_among_names (own_names path u (map member_shown ms)) n)
    → (n : List ℕ) → (is_among_names more n || is_among_names (own_names path u (map member_shown (drop (i + 1) ms))) n) ≡ is_among_names (own_names path u (map member_shown ms)) n
names_step path u ms i m names more lt is same before n =
    let rest = drop (i + 1) ms in
    ap (λ b. b || is_among_names (own_names path u (map member_shown rest)) n) (same n)
    ∙ (taken path u (member_shown m) (map member_shown rest) names n
    ∙ (ap (λ l. is_among_names names n || is_among_names (own_names path u (map member_shown l)) n) (ap (λ y. y ∷ rest) is ∙ sym (drop_more ms i m lt)) ∙ before n))

pub names_end : (path : List ℕ) (u : Term) (ms : List DeclaredMethod) (i : ℕ) (names : List (List ℕ)) → length ms ≤ i
    → ((n : List ℕ) → (is_among_names names n || is_among_names (own_names path u (map member_shown (drop i ms))) n) ≡ is_among_names (own_names path u (map member_shown ms)) n)
    → SameNames names (own_names path u (map member_shown ms))
names_end path u ms i names le before n =
    sym (or_false (is_among_names names n)) ∙ (ap (λ l. is_among_names names n || is_among_names (own_names path u (map member_shown l)) n) (sym (drop_all i ms le)) ∙ before n)

pub same_named : (ls : List Line) (a b : List (List ℕ)) (fs : List Field) → SameNames a b → named_faults a (fields_in ls fs) ≡ named_faults b (fields_in ls fs)
same_named ls a b [] h = refl
same_named ls a b (f ∷ fs) h =
    ap (λ v. member_fault_if v f.place rules.B5 ++ named_faults a (fields_in ls fs)) (h f.name) ∙ ap (λ l. member_fault_if (is_among_names b f.name) f.place rules.B5 ++ l) (same_named ls a b fs h)

pub named_step : (ls : List Line) (names : List (List ℕ)) (fs : List Field) (i : ℕ) (f : Field) (first last all : List MemberFault) → i < length fs → f ≡ get_or fs i f
    → last ≡ first ++ member_fault_if (is_among_names names f.name) f.place rules.B5 → first ++ named_faults names (fields_in ls (drop i fs)) ≡ all → last ++ named_faults names (fields_in ls (drop (i + 1) fs)) ≡ all
named_step ls names fs i f first last all lt is more before =
    step (λ s l. named_faults s (fields_in ls l)) (member_fault_if (is_among_names names f.name) f.place rules.B5) names names names fs i f first last all lt is refl refl more before

-- the faults of a struct type that is written in the package of a path
pub hidden_struct : (ls : List Line) (path home : List ℕ) (fs : List Field) (u : Term) (ms : List Member) → u ≡ StructOf home (fields_in ls fs) → bytes_eq home path ≡ true
    → named_faults (own_names path u ms) (fields_in ls fs) ≡ hidden_faults path u ms
hidden_struct ls path home fs u ms is same =
    ap (λ t. named_faults (own_names path t ms) (fields_in ls fs)) is
    ∙ (sym (ap (λ b. if b then named_faults (own_names path (StructOf home (fields_in ls fs)) ms) (fields_in ls fs) else []) same) ∙ ap (λ t. hidden_faults path t ms) (sym is))

-- where no method is spelled as a field, no field stands behind a method

no_own : (path : List ℕ) (u : Term) (ms : List Member) (n : List ℕ) → field_spelled (term_fields u) n ≡ true → is_one_hiding path u ms ≡ false → is_among_names (own_names path u ms) n ≡ false
no_own path u [] n there h = refl
no_own path u (m ∷ ms) n there h =
    let parts = or_parts (is_hiding path u m) (is_one_hiding path u ms) h in
    by (is_left_out path u m) refl (bytes_eq m.name n) refl parts.0 (no_own path u ms n there parts.1)
  where
    hiding : is_left_out path u m ≡ false → bytes_eq m.name n ≡ true → is_hiding path u m ≡ true
    hiding own same =
        and_from (field_spelled (term_fields u) m.name) (not (is_left_out path u m)) (ap (field_spelled (term_fields u)) ((bytes_eq-Decides m.name n).0 same) ∙ there) (ap not own)

    by : (left : Bool) → is_left_out path u m ≡ left → (same : Bool) → bytes_eq m.name n ≡ same → is_hiding path u m ≡ false → is_among_names (own_names path u ms) n ≡ false
        → is_among_names (if left then own_names path u ms else m.name ∷ own_names path u ms) n ≡ false
    by true own same is off rest = rest
    by false own true is off rest = absurd (true≢false (sym (hiding own is) ∙ off))
    by false own false is off rest = ap (λ b. if b then true else is_among_names (own_names path u ms) n) is ∙ rest

none_named : (names : List (List ℕ)) (fs : Fields) → ((n : List ℕ) → field_spelled fs n ≡ true → is_among_names names n ≡ false) → named_faults names fs ≡ []
none_named names NoField off = refl
none_named names (AField n place embedded t tag fs) off =
    ap (λ b. member_fault_if b place rules.B5 ++ named_faults names fs) (off n (or_left (bytes_eq n n) (field_spelled fs n) ((bytes_eq-Decides n n).1 refl)))
    ∙ none_named names fs (λ k h. off k (or_right (bytes_eq k n) (field_spelled fs k) h))

pub none_hidden : (path : List ℕ) (u : Term) (ms : List Member) → is_one_hiding path u ms ≡ false → hidden_faults path u ms ≡ []
none_hidden path NoType ms h = refl
none_hidden path (Predeclared b) ms h = refl
none_hidden path ErrorType ms h = refl
none_hidden path (Defined k) ms h = refl
none_hidden path (PointerTo t) ms h = refl
none_hidden path (StructOf home fs) ms h = by (bytes_eq home path)
  where
    by : (b : Bool) → (if b then named_faults (own_names path (StructOf home fs) ms) fs else []) ≡ []
    by true = none_named (own_names path (StructOf home fs) ms) fs (λ n there. no_own path (StructOf home fs) ms n there h)
    by false = refl
none_hidden path (InterfaceOf home methods) ms h = refl

module _ (path : List ℕ) (u : Term) (ms : List DeclaredMethod) (i : ℕ) (m : DeclaredMethod) (all : Bool) (lt : i < length ms) (is : m ≡ get_or ms i m) (was : is_one_hiding path u (map member_shown (drop i ms)) ≡ all) where
  one_off : is_hiding path u (member_shown m) || is_one_hiding path u (map member_shown (drop (i + 1) ms)) ≡ all
  one_off =
      let split : drop i ms ≡ m ∷ drop (i + 1) ms = drop_more ms i m lt ∙ ap (λ x. x ∷ drop (i + 1) ms) (sym is) in
      ap (λ l. is_one_hiding path u (map member_shown l)) (sym split) ∙ was

  pub hiding_step : is_hiding path u (member_shown m) ≡ false → is_one_hiding path u (map member_shown (drop (i + 1) ms)) ≡ all
  hiding_step off = sym (ap (λ b. b || is_one_hiding path u (map member_shown (drop (i + 1) ms))) off) ∙ one_off

  pub hiding_found : is_hiding path u (member_shown m) ≡ true → true ≡ all
  hiding_found found = sym (ap (λ b. b || is_one_hiding path u (map member_shown (drop (i + 1) ms))) found) ∙ one_off

pub hiding_end : (path : List ℕ) (u : Term) (ms : List DeclaredMethod) (i : ℕ) (all : Bool) → length ms ≤ i → is_one_hiding path u (map member_shown (drop i ms)) ≡ all → false ≡ all
hiding_end path u ms i all past was = ap (λ l. is_one_hiding path u (map member_shown l)) (sym (drop_all i ms past)) ∙ was
