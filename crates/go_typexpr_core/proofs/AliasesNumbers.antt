-- Numbers of aliases, and what stands at them.
use Rattle.std.proofs.Common.{◌≡◌, ℕ, zero, suc, ◌<◌, ◌⊎◌, inl, inr, Bool, true, false, List, [], ◌∷◌, Option, Some, None, option_map, refl, sym, ap, ◌∙◌, subst, arith}
use Rattle.std.specs.Prelude.{slice_get, if◌then◌else◌}
use Rattle.std.specs.Str.{bytes_eq}
use Rattle.std.proofs.lemmas.Bool.{false_from_ne_true}
use Rattle.go_term_core.specs.decl_core.declared.keys.DeclKey.{DeclKey}
use Rattle.go_term_core.specs.decl_core.declared.keys.DeclRef.{DeclRef}
use Rattle.go_term_core.specs.Terms.{Term, NoType, Predeclared, ErrorType, Defined, PointerTo, StructOf, InterfaceOf}
use Rattle.go_type_core.specs.table_core.Entries.{same_decl}
use Rattle.go_type_core.specs.table_core.Keys.{same_key_true, same_key_itself}
use Rattle.go_typexpr_core.specs.aliases.Aliases.{alias_in, own_alias, aliased, decls_of}
use Rattle.go_typexpr_core.specs.aliases.mirrors.Numbered.{decl_number, own_number, named_number}

abbrev key : DeclRef → DeclKey
key d = record { path = []; decl = d }

pub same_decl_true : (a b : DeclRef) → same_decl a b ≡ true → a ≡ b
same_decl_true a b h = ap (λ (k : DeclKey). k.decl) (same_key_true (key a) (key b) h)

pub same_decl_from : (a b : DeclRef) → a ≡ b → same_decl a b ≡ true
same_decl_from a b e = subst (λ (x : DeclRef). same_decl a x ≡ true) e (same_key_itself (key a))

-- numbers

abbrev number_by : List DeclRef → DeclRef → Bool → Option ℕ
number_by ds d b = if b then Some 0 else option_map suc (decl_number ds d)

abbrev alias_by : DeclRef × Term → List (DeclRef × Term) → DeclRef → Bool → Option Term
alias_by a xs d b = if b then Some a.1 else alias_in xs d

pub number_first : (ds : List DeclRef) (d : DeclRef) (i : ℕ) → slice_get ds i ≡ Some d → ((m : ℕ) (x : DeclRef) → m < i → slice_get ds m ≡ Some x → x ≡ d → ⊥) → decl_number ds d ≡ Some i
number_first [] d i at below = absurd (cc)
number_first (x ∷ ds) d zero at below = (let xd : x ≡ d = cc in ap (number_by ds d) (same_decl_from x d xd))
number_first (x ∷ ds) d (suc i) at below =
    let rest : decl_number ds d ≡ Some i = number_first ds d i at (λ m y lt at' e. below (suc m) y (omega (arith, lt)) at' e) in
    let other : same_decl x d ≡ false = false_from_ne_true (same_decl x d) (λ yes. below zero x (omega arith) refl (same_decl_true x d yes)) in
    ap (number_by ds d) other ∙ ap (option_map suc) rest

pub number_none : (ds : List DeclRef) (d : DeclRef) → ((m : ℕ) (x : DeclRef) → slice_get ds m ≡ Some x → x ≡ d → ⊥) → decl_number ds d ≡ None
number_none [] d gone = refl
number_none (x ∷ ds) d gone =
    let rest : decl_number ds d ≡ None = number_none ds d (λ m y at e. gone (suc m) y at e) in
    let other : same_decl x d ≡ false = false_from_ne_true (same_decl x d) (λ yes. gone zero x refl (same_decl_true x d yes)) in
    ap (number_by ds d) other ∙ ap (option_map suc) rest

no_some : {X : Type 0} (x : X) → Some x ≡ None → ⊥
no_some x h = (cc)

-- what stands at the number of a declaration

abbrev Stands : List (DeclRef × Term) → DeclRef → ℕ → Type 0
Stands xs d i = (a : DeclRef × Term) × (slice_get xs i ≡ Some a) × (alias_in xs d ≡ Some a.1)

stands_later : (a : DeclRef × Term) (xs : List (DeclRef × Term)) (d : DeclRef) (i : ℕ) (o : Option ℕ) → decl_number (decls_of xs) d ≡ o → same_decl a.0 d ≡ false
    → ((j : ℕ) → decl_number (decls_of xs) d ≡ Some j → Stands xs d j) → option_map suc o ≡ Some i → Stands (a ∷ xs) d i
stands_later a xs d i None n t more h = absurd (cc)
stands_later a xs d i (Some j) n t more h =
    let ji : suc j ≡ i = cc in
    let r = more j n in
    (r.0, ap (slice_get (a ∷ xs)) (sym ji) ∙ r.1, ap (alias_by a xs d) t ∙ r.2)

stands_by : (a : DeclRef × Term) (xs : List (DeclRef × Term)) (d : DeclRef) (i : ℕ) (b : Bool) → same_decl a.0 d ≡ b
    → ((j : ℕ) → decl_number (decls_of xs) d ≡ Some j → Stands xs d j) → decl_number (decls_of (a ∷ xs)) d ≡ Some i → Stands (a ∷ xs) d i
stands_by a xs d i true t more h =
    let same : Some 0 ≡ Some i = sym (ap (number_by (decls_of xs) d) t) ∙ h in
    let zi : 0 ≡ i = cc in
    (a, ap (slice_get (a ∷ xs)) (sym zi), ap (alias_by a xs d) t)
stands_by a xs d i false t more h = stands_later a xs d i (decl_number (decls_of xs) d) refl t more (sym (ap (number_by (decls_of xs) d) t) ∙ h)

pub stands : (xs : List (DeclRef × Term)) (d : DeclRef) (i : ℕ) → decl_number (decls_of xs) d ≡ Some i → Stands xs d i
stands [] d i h = absurd (cc)
stands (a ∷ xs) d i h = stands_by a xs d i (same_decl a.0 d) refl (stands xs d) h

gone_by : (a : DeclRef × Term) (xs : List (DeclRef × Term)) (d : DeclRef) (b : Bool) (o : Option ℕ) → same_decl a.0 d ≡ b → decl_number (decls_of xs) d ≡ o
    → (decl_number (decls_of xs) d ≡ None → alias_in xs d ≡ None) → decl_number (decls_of (a ∷ xs)) d ≡ None → alias_in (a ∷ xs) d ≡ None
gone_by a xs d true o t n more h = absurd (no_some 0 (sym (ap (number_by (decls_of xs) d) t) ∙ h))
gone_by a xs d false None t n more h = ap (alias_by a xs d) t ∙ more n
gone_by a xs d false (Some j) t n more h = absurd (no_some (suc j) (sym (ap (number_by (decls_of xs) d) t ∙ ap (option_map suc) n) ∙ h))

pub gone : (xs : List (DeclRef × Term)) (d : DeclRef) → decl_number (decls_of xs) d ≡ None → alias_in xs d ≡ None
gone [] d h = refl
gone (a ∷ xs) d h = gone_by a xs d (same_decl a.0 d) (decl_number (decls_of xs) d) refl refl (gone xs d) h

pub option_cases : {X : Type 0} (o : Option X) → (o ≡ None) ⊎ ((x : X) × (o ≡ Some x))
option_cases None = inl refl
option_cases (Some x) = inr (x, refl)

-- an alias stands at its number
pub numbered : (xs : List (DeclRef × Term)) (d : DeclRef) (w : Term) → alias_in xs d ≡ Some w → (i : ℕ) × (a : DeclRef × Term) × (decl_number (decls_of xs) d ≡ Some i) × (slice_get xs i ≡ Some a) × (a.1 ≡ w)
numbered xs d w h = elim (option_cases (decl_number (decls_of xs) d)) [
  | inl n ↦ (let both : None ≡ Some w = sym (gone xs d n) ∙ h in absurd (cc))
  | inr i ↦
      (let s = stands xs d i.0 i.1 in
      let both : Some s.0.1 ≡ Some w = sym s.2 ∙ h in
      let same : s.0.1 ≡ w = cc in
      (i.0, s.0, i.1, s.1, same))
]

-- declarations of any package

abbrev own_number_by : List DeclRef → DeclKey → Bool → Option ℕ
own_number_by ds k b = if b then decl_number ds k.decl else None

abbrev pub own_alias_by : List (DeclRef × Term) → DeclKey → Bool → Option Term
own_alias_by xs k b = if b then alias_in xs k.decl else None

module _ (xs : List (DeclRef × Term)) (path : List ℕ) where
  own_by : (k : DeclKey) (i : ℕ) (b : Bool) → bytes_eq path k.path ≡ b → own_number path (decls_of xs) k ≡ Some i → (a : DeclRef × Term) × (slice_get xs i ≡ Some a) × (own_alias xs path k ≡ Some a.1)
  own_by k i true t h = (let s = stands xs k.decl i (sym (ap (own_number_by (decls_of xs) k) t) ∙ h) in (s.0, s.1, ap (own_alias_by xs k) t ∙ s.2))
  own_by k i false t h = (let both : None ≡ Some i = sym (ap (own_number_by (decls_of xs) k) t) ∙ h in absurd (cc))

  own_gone_by : (k : DeclKey) (b : Bool) → bytes_eq path k.path ≡ b → own_number path (decls_of xs) k ≡ None → own_alias xs path k ≡ None
  own_gone_by k true t h = ap (own_alias_by xs k) t ∙ gone xs k.decl (sym (ap (own_number_by (decls_of xs) k) t) ∙ h)
  own_gone_by k false t h = ap (own_alias_by xs k) t

  -- what a type names by number, it names
  pub named_stands : (t : Term) (i : ℕ) → named_number path (decls_of xs) t ≡ Some i → (a : DeclRef × Term) × (slice_get xs i ≡ Some a) × (aliased xs path t ≡ Some a.1)
  named_stands NoType i h = absurd (cc)
  named_stands (Predeclared b) i h = absurd (cc)
  named_stands ErrorType i h = absurd (cc)
  named_stands (Defined k) i h = own_by k i (bytes_eq path k.path) refl h
  named_stands (PointerTo t) i h = absurd (cc)
  named_stands (StructOf p fs) i h = absurd (cc)
  named_stands (InterfaceOf p ms) i h = absurd (cc)

  pub named_gone : (t : Term) → named_number path (decls_of xs) t ≡ None → aliased xs path t ≡ None
  named_gone NoType h = refl
  named_gone (Predeclared b) h = refl
  named_gone ErrorType h = refl
  named_gone (Defined k) h = own_gone_by k (bytes_eq path k.path) refl h
  named_gone (PointerTo t) h = refl
  named_gone (StructOf p fs) h = refl
  named_gone (InterfaceOf p ms) h = refl

  -- and the other way round
  pub not_named : (t : Term) → aliased xs path t ≡ None → named_number path (decls_of xs) t ≡ None
  not_named t h = elim (option_cases (named_number path (decls_of xs) t)) [
    | inl n ↦ n
    | inr i ↦ (let s = named_stands t i.0 i.1 in let both : None ≡ Some s.0.1 = sym h ∙ s.2 in absurd (cc))
  ]

  pub named_at : (t w : Term) → aliased xs path t ≡ Some w → (i : ℕ) × (a : DeclRef × Term) × (named_number path (decls_of xs) t ≡ Some i) × (slice_get xs i ≡ Some a) × (a.1 ≡ w)
  named_at t w h = elim (option_cases (named_number path (decls_of xs) t)) [
    | inl n ↦ (let both : None ≡ Some w = sym (named_gone t n) ∙ h in absurd (cc))
    | inr i ↦
        (let s = named_stands t i.0 i.1 in
        let both : Some s.0.1 ≡ Some w = sym s.2 ∙ h in
        let same : s.0.1 ≡ w = cc in
        (i.0, s.0, i.1, s.1, same))
  ]

  -- only a name names an alias
  pub is_name : (t w : Term) → aliased xs path t ≡ Some w → (k : DeclKey) × (t ≡ Defined k) × (own_alias xs path k ≡ Some w)
  is_name NoType w h = absurd (cc)
  is_name (Predeclared b) w h = absurd (cc)
  is_name ErrorType w h = absurd (cc)
  is_name (Defined k) w h = (k, refl, h)
  is_name (PointerTo t) w h = absurd (cc)
  is_name (StructOf p fs) w h = absurd (cc)
  is_name (InterfaceOf p ms) w h = absurd (cc)
