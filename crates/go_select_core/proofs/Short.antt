-- A path can be cut until it meets no type of the table twice.
use Rattle.std.proofs.Common.{◌≡◌, ℕ, zero, suc, ◌≤◌, Bool, true, false, ◌||◌, List, [], ◌∷◌, length, Option, Some, None, cond, refl, sym, ap, ◌∙◌, subst, arith, ◌⊎◌, inl, inr, if◌then◌else◌}
use Rattle.std.specs.Prelude.{nat_eq}
use Rattle.std.specs.Map.{lookup}
use Rattle.std.proofs.lemmas.Cmp.{nat_eq_equiv}
use Rattle.go_term_core.specs.decl_core.declared.keys.DeclKey.{DeclKey}
use Rattle.go_term_core.specs.Terms.{Term, NoType, Predeclared, ErrorType, Defined, PointerTo, StructOf, InterfaceOf, Fields}
use Rattle.go_term_core.proofs.Members.{In}
use Rattle.go_embed_core.specs.table_core.Entries.{Entry, find_entry, same_key, term_in, underlying_in}
use Rattle.go_embed_core.specs.table_core.Keys.{same_key_itself, same_key_true}
use Rattle.go_embed_core.specs.Owners.{EmbeddedEdge, Found, owner_in, term_embedded, embedded_in}
use Rattle.go_select_core.specs.levels.Paths.{Step, FieldsLead, Hit}
use Rattle.go_select_core.specs.Laws.{ShortPathsSuffice}
use Rattle.go_select_core.specs.levels.mirrors.Ways.{At, IsNumbered, Noted}
use Rattle.go_select_core.specs.levels.mirrors.Levels.{left_below, left}
use Rattle.go_select_core.proofs.LevelsEdges.{step_edge}
use Rattle.go_select_core.proofs.LevelsWeights.{lookup_more, lookup_new, left_falls}
use Rattle.go_select_core.proofs.LevelsGrowing.{numbered_same}

-- whether a type is that defined type
same_node : (w : Term) (j : DeclKey) → (w ≡ Defined j) ⊎ (w ≡ Defined j → ⊥)
same_node NoType j = inr (λ e. cc)
same_node (Predeclared b) j = inr (λ e. cc)
same_node ErrorType j = inr (λ e. cc)
same_node (Defined k) j = by (same_key k j) refl
  where
    by : (b : Bool) → same_key k j ≡ b → (Defined k ≡ Defined j) ⊎ (Defined k ≡ Defined j → ⊥)
    by true e = inl (ap Defined (same_key_true k j e))
    by false e = inr (λ s. let kj : k ≡ j = (cc) in let t : same_key k j ≡ true = subst (λ x. same_key k x ≡ true) kj (same_key_itself k) in let z : true ≡ false = sym t ∙ e in (cc))
same_node (PointerTo t) j = inr (λ e. cc)
same_node (StructOf path fs) j = inr (λ e. cc)
same_node (InterfaceOf path ms) j = inr (λ e. cc)

-- what is found stands at a place

found_step : (b : Bool) (x e : Entry) (rest : Option Entry) (k : DeclKey) (es : List Entry) → same_key x.key k ≡ b → (rest ≡ Some e → (n : ℕ) × At es n e × (e.key ≡ k)) → (if b then Some x else rest) ≡ Some e → (n : ℕ) × At (x ∷ es) n e × (e.key ≡ k)
found_step true x e rest k es is more h = let s : x ≡ e = (cc) in (0, ap Some s, ap (λ (y : Entry). y.key) (sym s) ∙ same_key_true x.key k is)
found_step false x e rest k es is more h = let r = more h in (suc r.0, r.1, r.2)

found_at : (es : List Entry) (k : DeclKey) (e : Entry) → find_entry es k ≡ Some e → (n : ℕ) × At es n e × (e.key ≡ k)
found_at [] k e h = cc
found_at (x ∷ es) k e h = found_step (same_key x.key k) x e (find_entry es k) k es refl (λ r. found_at es k e r) h

pub numbered : (es : List Entry) (k : DeclKey) (e : Entry) → find_entry es k ≡ Some e → (n : ℕ) × IsNumbered es n (Defined k)
numbered es k e h =
    let r = found_at es k e h in
    (r.0, record { entry = e; at = r.1; is = ap Defined (sym r.2); found = ap (find_entry es) r.2 ∙ h })

-- no path from a type leads to a struct type as it is written
abbrev Clean : List Entry → Term → Type 0
Clean es v = (q : List ℕ) (b : Bool) (p : List ℕ) (fs : Fields) → FieldsLead (find_entry es) v q b (StructOf p fs) → ⊥

clean_step : (es : List Entry) (t : Term) (i : ℕ) (p : Bool) (v : Term) → Clean es t → Step (find_entry es) t i p v → Clean es v
clean_step es t i p v clean s q b path fs h = clean (i ∷ q) (p || b) path fs (v, p, b, s, h, refl)

-- a type with an edge is of the table
step_numbered : (es : List Entry) (t : Term) (i : ℕ) (p : Bool) (v : Term) → Clean es t → Step (find_entry es) t i p v → (n : ℕ) × IsNumbered es n t
step_numbered es t i p v clean s = by t refl (let x = step_edge (find_entry es) t i p v s in (x.0, x.2))
  where
    defined : (k : DeclKey) (r : Option Entry) → find_entry es k ≡ r → (e : EmbeddedEdge) × In (embedded_in (owner_in (find_entry es) (Defined k))) e → (n : ℕ) × IsNumbered es n (Defined k)
    defined k None is e = let u : underlying_in (find_entry es) (Defined k) ≡ NoType = ap term_in is in absurd (subst (λ w. In (term_embedded (owner_in (find_entry es) (Defined k)) w) e.0) u e.1)
    defined k (Some x) is e = numbered es k x is

    by : (w : Term) → t ≡ w → (e : EmbeddedEdge) × In (embedded_in (owner_in (find_entry es) t)) e → (n : ℕ) × IsNumbered es n t
    by NoType same e = absurd (subst (λ w. In (embedded_in (owner_in (find_entry es) w)) e.0) same e.1)
    by (Predeclared b) same e = absurd (subst (λ w. In (embedded_in (owner_in (find_entry es) w)) e.0) same e.1)
    by ErrorType same e = absurd (subst (λ w. In (embedded_in (owner_in (find_entry es) w)) e.0) same e.1)
    by (Defined k) same e = let r = defined k (find_entry es k) refl (e.0, subst (λ w. In (embedded_in (owner_in (find_entry es) w)) e.0) same e.1) in (r.0, subst (λ w. IsNumbered es r.0 w) (sym same) r.1)
    by (PointerTo u) same e = absurd (subst (λ w. In (embedded_in (owner_in (find_entry es) w)) e.0) same e.1)
    by (StructOf path fs) same e = absurd (clean [] false path fs (same, refl))
    by (InterfaceOf path ms) same e = absurd (subst (λ w. In (embedded_in (owner_in (find_entry es) w)) e.0) same e.1)

-- paths that meet no type that is marked

abbrev pub Free : List Entry → List (ℕ × ℕ) → Term → Type 0
Free es met u = (n : ℕ) → IsNumbered es n u → lookup (nat_eq n) met ≡ None

abbrev pub Avoids : List Entry → List (ℕ × ℕ) → Term → List ℕ → Term → Type 0
Avoids es met t [] u = Free es met t × (t ≡ u)
Avoids es met t (i ∷ q) u = Free es met t × ((v : Term) × (p : Bool) × Step (find_entry es) t i p v × Avoids es met v q u)

pub avoids_none : (es : List Entry) (t : Term) (q : List ℕ) (p : Bool) (u : Term) → FieldsLead (find_entry es) t q p u → Avoids es [] t q u
avoids_none es t [] p u h = (λ n num. refl, h.0)
avoids_none es t (i ∷ q) p u h = (λ n num. refl, (h.0, h.1, h.3, avoids_none es h.0 q h.2 u h.4))

noted_first : (n : ℕ) (met : List (ℕ × ℕ)) → Noted n 0 met ((n, 0) ∷ met)
noted_first n met m = ap (λ b. cond b (Some 0) (lookup (nat_eq m) met)) (nat_eq_equiv.symm m n)

free_more : (es : List Entry) (met : List (ℕ × ℕ)) (n : ℕ) (w : Term) → Free es met w → (IsNumbered es n w → ⊥) → Free es ((n, 0) ∷ met) w
free_more es met n w free other m num = lookup_more met ((n, 0) ∷ met) n 0 m (noted_first n met) (λ e. other (subst (λ k. IsNumbered es k w) e num)) ∙ free m num

-- the last time that a path is at t: it never is, or the rest of it never comes back
abbrev pub Rest : List Entry → List (ℕ × ℕ) → Term → Term → Type 0
Rest es met t u = (t ≡ u) ⊎ ((i : ℕ) × (p : Bool) × (v : Term) × (q : List ℕ) × Step (find_entry es) t i p v × Avoids es met v q u)

same_as : (es : List Entry) (n : ℕ) (t : Term) (num : IsNumbered es n t) (w : Term) → (w ≡ t) ⊎ (w ≡ t → ⊥)
same_as es n t num w = elim (same_node w num.entry.key) [ inl e ↦ inl (e ∙ sym num.is) | inr d ↦ inr (λ e. d (e ∙ num.is)) ]

pub last_visit : (es : List Entry) (met : List (ℕ × ℕ)) (n : ℕ) (t : Term) (num : IsNumbered es n t) (w : Term) (q : List ℕ) (u : Term) → Avoids es met w q u → Avoids es ((n, 0) ∷ met) w q u ⊎ Rest es ((n, 0) ∷ met) t u
last_visit es met n t num w [] u h =
    elim (same_as es n t num w) [
      | inl z ↦ inr (inl (sym z ∙ h.1))
      | inr d ↦ inl (free_more es met n w h.0 (λ m. d (numbered_same es n w t m num)), h.1)
    ]
last_visit es met n t num w (i ∷ q) u h =
    elim (last_visit es met n t num h.1.0 q u h.1.3) [
      | inr r ↦ inr r
      | inl a ↦ elim (same_as es n t num w) [
        | inl z ↦ inr (inr (i, h.1.1, h.1.0, q, subst (λ k. Step (find_entry es) k i h.1.1 h.1.0) z h.1.2, a))
        | inr d ↦ inl (free_more es met n w h.0 (λ m. d (numbered_same es n w t m num)), (h.1.0, h.1.1, h.1.2, a))
      ]
    ]

pub starts : (es : List Entry) (met : List (ℕ × ℕ)) (t : Term) (q : List ℕ) (u : Term) → Avoids es met t q u → Free es met t
starts es met t [] u h = h.0
starts es met t (i ∷ q) u h = h.0

pub marked : (es : List Entry) (met : List (ℕ × ℕ)) (n : ℕ) (t : Term) (q : List ℕ) (u : Term) → IsNumbered es n t → Avoids es ((n, 0) ∷ met) t q u → ⊥
marked es met n t q u num a =
    let x = starts es ((n, 0) ∷ met) t q u a n num in
    let y = lookup_new met ((n, 0) ∷ met) n 0 (noted_first n met) in
    some_none 0 (sym y ∙ x)
  where
    some_none : (p : ℕ) → Some p ≡ None → ⊥
    some_none p z = cc

short : (b : ℕ) (es : List Entry) (met : List (ℕ × ℕ)) (t : Term) (q : List ℕ) (u : Term) → left es met ≤ b → Clean es t → Avoids es met t q u → (r : List ℕ) × (p : Bool) × FieldsLead (find_entry es) t r p u × (length r ≤ b)
short b es met t [] u l clean h = ([], false, (h.1, refl), omega arith)
short zero es met t (i ∷ q) u l clean h =
    let num = step_numbered es t i h.1.1 h.1.0 clean h.1.2 in
    let f = left_falls es met ((num.0, 0) ∷ met) num.0 0 t num.1 (h.0 num.0 num.1) (noted_first num.0 met) in
    absurd (omega (arith, f, l))
short (suc b) es met t (i ∷ q) u l clean h =
    let num = step_numbered es t i h.1.1 h.1.0 clean h.1.2 in
    let none = h.0 num.0 num.1 in
    let f = left_falls es met ((num.0, 0) ∷ met) num.0 0 t num.1 none (noted_first num.0 met) in
    elim (last_visit es met num.0 t num.1 t (i ∷ q) u h) [
      | inl a ↦ absurd (marked es met num.0 t (i ∷ q) u num.1 a)
      | inr r ↦ elim r [
        | inl e ↦ ([], false, (e, refl), omega arith)
        | inr x ↦
            let s = short b es ((num.0, 0) ∷ met) x.2 x.3 u (omega (arith, f, l)) (clean_step es t x.0 x.1 x.2 clean x.4) x.5 in
            (x.0 ∷ s.0, x.1 || s.1, (x.2, x.1, s.1, x.4, s.2, refl), omega (arith, s.3))
      ]
    ]

pub left_none : (n : ℕ) → left_below n [] ≤ n
left_none zero = omega arith
left_none (suc n) = let l = left_none n in omega (arith, l)

pub short_paths : ShortPathsSuffice
short_paths es t name from names h = by h.0 h.1 h.4
  where
    by : (q : List ℕ) (p : Bool) (g : Hit (find_entry es) t name from q p h.2 h.3)
        → (path : List ℕ) × (pointer : Bool) × (number : ℕ) × (f : Found) × Hit (find_entry es) t name from path pointer number f × (length path ≤ suc (length es))
    by [] p g = ([], p, h.2, h.3, g, omega arith)
    by (i ∷ q) p g =
        let s = g.leads in
        let clean : Clean es s.0 = λ r b path fs l. names i r (s.1 || b) path fs (s.0, s.1, b, s.3, l, refl) in
        let r = short (left es []) es [] s.0 q g.at (omega arith) clean (avoids_none es s.0 q s.2 g.at s.4) in
        let n = left_none (length es) in
        (i ∷ r.0, s.1 || r.1, h.2, h.3, record { at = g.at; leads = (s.0, s.1, r.1, s.3, r.2, refl); has = g.has }, omega (arith, r.3, n))
