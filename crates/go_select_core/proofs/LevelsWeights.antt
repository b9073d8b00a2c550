-- What falls from level to level.
use Rattle.std.proofs.Common.{◌≡◌, ℕ, zero, suc, ◌+◌, ◌*◌, ◌<◌, ◌≤◌, Bool, true, false, not, ◌&&◌, List, [], ◌∷◌, length, Option, Some, None, cond, max, refl, sym, ap, ◌∙◌, subst, arith, ◌⊎◌, inl, inr, if◌then◌else◌, eq-eqb}
use Rattle.std.specs.Prelude.{nat_eq}
use Rattle.std.specs.Map.{lookup}
use Rattle.go_term_core.specs.decl_core.declared.keys.DeclKey.{DeclKey}
use Rattle.go_term_core.specs.Terms.{Term, NoType, Predeclared, ErrorType, Defined, PointerTo, StructOf, InterfaceOf, Fields, NoField, AField}
use Rattle.go_term_core.proofs.Members.{In}
use Rattle.go_embed_core.specs.table_core.Entries.{Entry, find_entry, same_key, term_in, underlying_in, has_method}
use Rattle.go_embed_core.specs.Owners.{OwnerModel, EmbeddedEdge, embedded_edge, off, owner_in, embedded_edges, term_embedded, embedded_in}
use Rattle.go_select_core.specs.levels.Paths.{Step}
use Rattle.go_select_core.specs.levels.mirrors.Ways.{At, Way, IsNumber, IsNumbered, Noted}
use Rattle.go_select_core.specs.levels.mirrors.Levels.{entry_weight, weight, is_free, left_below, left, peak, bound, height, IsLighter}
use Rattle.go_select_core.proofs.LevelsListLemmas.{not_same, same_or_not, at_some}
use Rattle.go_select_core.proofs.LevelsEdges.{step_edge}
use Rattle.go_embed_core.specs.table_core.Nesting.{nesting, fields_nesting, deepest}

-- each entry of a table is as deep as the deepest at most
deep_step : (b : Bool) (x e : Entry) (n : ℕ) (rest : Option Entry) → (rest ≡ Some e → nesting e.term ≤ n) → (if b then Some x else rest) ≡ Some e → nesting e.term ≤ max (nesting x.term) n
deep_step true x e n rest more h = let s : x ≡ e = (cc) in let d : nesting x.term ≡ nesting e.term = ap (λ (y : Entry). nesting y.term) s in omega (arith, d)
deep_step false x e n rest more h = let l = more h in omega (arith, l)

pub find_deep : (es : List Entry) (k : DeclKey) (e : Entry) → find_entry es k ≡ Some e → nesting e.term ≤ deepest es
find_deep [] k e h = cc
find_deep (x ∷ es) k e h = deep_step (same_key x.key k) x e (deepest es) (find_entry es k) (λ r. find_deep es k e r) h

off_depth : (t : Term) → nesting (off t) ≤ nesting t
off_depth NoType = omega arith
off_depth (Predeclared b) = omega arith
off_depth ErrorType = omega arith
off_depth (Defined k) = omega arith
off_depth (PointerTo t) = omega arith
off_depth (StructOf path fs) = omega arith
off_depth (InterfaceOf path ms) = omega arith

field_step : (b : Bool) (i : ℕ) (t : Term) (n : ℕ) (rest : List EmbeddedEdge) (e : EmbeddedEdge) → (In rest e → nesting e.target ≤ n) → In (if b then embedded_edge i t ∷ rest else rest) e → nesting e.target ≤ max (nesting t) n
field_step true i t n rest e more (inl s) =
    let d : nesting (off t) ≡ nesting e.target = ap (λ (y : EmbeddedEdge). nesting y.target) s in
    let l = off_depth t in omega (arith, d, l)
field_step true i t n rest e more (inr r) = let l = more r in omega (arith, l)
field_step false i t n rest e more r = let l = more r in omega (arith, l)

fields_deep : (o : OwnerModel) (path : List ℕ) (i : ℕ) (fs : Fields) (e : EmbeddedEdge) → In (embedded_edges o path i fs) e → nesting e.target ≤ fields_nesting fs
fields_deep o path i NoField e h = absurd h
fields_deep o path i (AField name place embedded t tag fs) e h =
    field_step (embedded && not (has_method o.path o.methods name path)) i t (fields_nesting fs) (embedded_edges o path (suc i) fs) e (λ r. fields_deep o path (suc i) fs e r) h

pub term_deep : (o : OwnerModel) (u : Term) (e : EmbeddedEdge) → In (term_embedded o u) e → nesting e.target < nesting u
term_deep o NoType e h = absurd h
term_deep o (Predeclared b) e h = absurd h
term_deep o ErrorType e h = absurd h
term_deep o (Defined k) e h = absurd h
term_deep o (PointerTo t) e h = absurd h
term_deep o (StructOf path fs) e h = let l = fields_deep o path 0 fs e h in omega (arith, l)
term_deep o (InterfaceOf path ms) e h = absurd h

-- a type that is none of the table weighs what its nesting says
loose_weight : (es : List Entry) (u : Term) → IsNumber es u None → weight es u ≤ suc (nesting u)
loose_weight es NoType h = omega arith
loose_weight es (Predeclared b) h = omega arith
loose_weight es ErrorType h = omega arith
loose_weight es (Defined k) h = let w : entry_weight (deepest es) (find_entry es k) ≡ 1 = ap (entry_weight (deepest es)) (h k refl) in omega (arith, w)
loose_weight es (PointerTo t) h = omega arith
loose_weight es (StructOf path fs) h = omega arith
loose_weight es (InterfaceOf path ms) h = omega arith

-- a type with an edge weighs more than the edge's end is deep
heavy : (es : List Entry) (u : Term) (e : EmbeddedEdge) → In (embedded_in (owner_in (find_entry es) u)) e → suc (nesting e.target) < weight es u
heavy es NoType e h = absurd h
heavy es (Predeclared b) e h = absurd h
heavy es ErrorType e h = absurd h
heavy es (Defined k) e h = pick (find_entry es k) refl
  where
    none : find_entry es k ≡ None → suc (nesting e.target) < weight es (Defined k)
    none is = let u : (underlying_in (find_entry es) (Defined k)) ≡ NoType = ap term_in is in absurd (subst (λ w. In (term_embedded (owner_in (find_entry es) (Defined k)) w) e) u h)

    some : (x : Entry) → find_entry es k ≡ Some x → suc (nesting e.target) < weight es (Defined k)
    some x is =
        let u : (underlying_in (find_entry es) (Defined k)) ≡ x.term = ap term_in is in
        let d = term_deep (owner_in (find_entry es) (Defined k)) x.term e (subst (λ w. In (term_embedded (owner_in (find_entry es) (Defined k)) w) e) u h) in
        let l = find_deep es k x is in
        let w : weight es (Defined k) ≡ suc (suc (deepest es)) = ap (entry_weight (deepest es)) is in
        omega (arith, d, l, w)

    pick : (r : Option Entry) → find_entry es k ≡ r → suc (nesting e.target) < weight es (Defined k)
    pick None is = none is
    pick (Some x) is = some x is
heavy es (PointerTo t) e h = absurd h
heavy es (StructOf path fs) e h = let d = term_deep (owner_in (find_entry es) (StructOf path fs)) (StructOf path fs) e h in omega (arith, d)
heavy es (InterfaceOf path ms) e h = absurd h

-- an embedded type that is none of the table is lighter
pub step_lighter : (es : List Entry) (u : Term) (i : ℕ) (p : Bool) (v : Term) → Step (find_entry es) u i p v → IsNumber es v None → weight es v < weight es u
step_lighter es u i p v s loose =
    let x = step_edge (find_entry es) u i p v s in
    let h = heavy es u x.0 x.2 in
    let d : nesting x.0.target ≡ nesting v = ap nesting x.5 in
    let w = loose_weight es v loose in
    omega (arith, h, d, w)

pub numbered_weight : (es : List Entry) (n : ℕ) (u : Term) → IsNumbered es n u → weight es u ≡ suc (suc (deepest es))
numbered_weight es n u h = ap (weight es) h.is ∙ ap (entry_weight (deepest es)) h.found

-- each type has a number or none
pub number_or_none : (es : List Entry) (u : Term) (i : ℕ) (p : Bool) (v : Term) (b : ℕ) → Step (find_entry es) u i p v → weight es u ≤ b → suc (suc (deepest es)) ≤ b → weight es v ≤ b
number_or_none es u i p v b s wu low = by v refl
  where
    x : (e : EmbeddedEdge) × In (embedded_in (owner_in (find_entry es) u)) e × (e.target ≡ v)
    x = let r = step_edge (find_entry es) u i p v s in (r.0, r.2, r.5)

    lighter : weight es v ≤ suc (nesting v) → weight es v ≤ b
    lighter w =
        let h = heavy es u x.0 x.1 in
        let d : nesting x.0.target ≡ nesting v = ap nesting x.2 in
        omega (arith, h, d, w, wu)

    named : (k : DeclKey) (r : Option Entry) → find_entry es k ≡ r → v ≡ Defined k → weight es v ≤ b
    named k None is e = let w : weight es v ≡ 1 = ap (weight es) e ∙ ap (entry_weight (deepest es)) is in omega (arith, w, low)
    named k (Some y) is e = let w : weight es v ≡ suc (suc (deepest es)) = ap (weight es) e ∙ ap (entry_weight (deepest es)) is in omega (arith, w, low)

    plain : (w : Term) → v ≡ w → weight es w ≤ suc (nesting w) → weight es v ≤ b
    plain w e l = lighter (subst (λ z. weight es z ≤ suc (nesting z)) (sym e) l)

    by : (w : Term) → v ≡ w → weight es v ≤ b
    by NoType e = plain NoType e (omega arith)
    by (Predeclared c) e = plain (Predeclared c) e (omega arith)
    by ErrorType e = plain ErrorType e (omega arith)
    by (Defined k) e = named k (find_entry es k) refl e
    by (PointerTo t) e = plain (PointerTo t) e (omega arith)
    by (StructOf path fs) e = plain (StructOf path fs) e (omega arith)
    by (InterfaceOf path ms) e = plain (InterfaceOf path ms) e (omega arith)

-- numbers that are not met

pub lookup_more : (met met' : List (ℕ × ℕ)) (n p m : ℕ) → Noted n p met met' → (m ≡ n → ⊥) → lookup (nat_eq m) met' ≡ lookup (nat_eq m) met
lookup_more met met' n p m noted d = noted m ∙ ap (λ b. cond b (Some p) (lookup (nat_eq m) met)) (not_same n m (λ e. d (sym e)))

pub lookup_new : (met met' : List (ℕ × ℕ)) (n p : ℕ) → Noted n p met met' → lookup (nat_eq n) met' ≡ Some p
lookup_new met met' n p noted = noted n ∙ ap (λ b. cond b (Some p) (lookup (nat_eq n) met)) (eq-eqb n n refl)

-- what is looked up where a number more is noted
pub lookup_cases : (met met' : List (ℕ × ℕ)) (n p m q : ℕ) → Noted n p met met' → lookup (nat_eq m) met' ≡ Some q → ((m ≡ n) × (q ≡ p)) ⊎ (lookup (nat_eq m) met ≡ Some q)
lookup_cases met met' n p m q noted h =
    elim (same_or_not m n) [
      | inl e ↦ inl (e, let a = lookup_new met met' n p noted in let b : lookup (nat_eq n) met' ≡ Some q = subst (λ k. lookup (nat_eq k) met' ≡ Some q) e h in (cc))
      | inr d ↦ inr (sym (lookup_more met met' n p m noted d) ∙ h)
    ]

left_same : (b : ℕ) (met met' : List (ℕ × ℕ)) (n p : ℕ) → Noted n p met met' → b ≤ n → left_below b met' ≡ left_below b met
left_same zero met met' n p noted l = refl
left_same (suc b) met met' n p noted l =
    let r = left_same b met met' n p noted (omega (arith, l)) in
    let s : is_free (lookup (nat_eq b) met') ≡ is_free (lookup (nat_eq b) met) = ap is_free (lookup_more met met' n p b noted (λ e. omega (arith, e, l))) in
    omega (arith, r, s)

left_less : (b : ℕ) (met met' : List (ℕ × ℕ)) (n p : ℕ) → Noted n p met met' → lookup (nat_eq n) met ≡ None → n < b → left_below b met' < left_below b met
left_less zero met met' n p noted none l = absurd (omega (arith, l))
left_less (suc b) met met' n p noted none l =
    elim (same_or_not b n) [
      | inl e ↦
          let s : is_free (lookup (nat_eq b) met') ≡ 0 = ap is_free (ap (λ k. lookup (nat_eq k) met') e ∙ lookup_new met met' n p noted) in
          let o : is_free (lookup (nat_eq b) met) ≡ 1 = ap is_free (ap (λ k. lookup (nat_eq k) met) e ∙ none) in
          let r = left_same b met met' n p noted (omega (arith, e)) in
          omega (arith, r, s, o)
      | inr d ↦
          let s : is_free (lookup (nat_eq b) met') ≡ is_free (lookup (nat_eq b) met) = ap is_free (lookup_more met met' n p b noted d) in
          let r = left_less b met met' n p noted none (omega (arith, l, d)) in
          omega (arith, r, s)
    ]

pub left_falls : (es : List Entry) (met met' : List (ℕ × ℕ)) (n p : ℕ) (u : Term) → IsNumbered es n u → lookup (nat_eq n) met ≡ None → Noted n p met met' → left es met' < left es met
left_falls es met met' n p u h none noted = left_less (length es) met met' n p noted none (within es n h.entry h.at)
  where
    within : (xs : List Entry) (i : ℕ) (x : Entry) → At xs i x → i < length xs
    within [] i x a = cc
    within (y ∷ xs) zero x a = omega arith
    within (y ∷ xs) (suc i) x a = let r = within xs i x a in omega (arith, r)

-- peaks

pub peak_above : (es : List Entry) (first : ℕ) (ws : List Way) (n : ℕ) (x : Way) → At ws n x → first ≤ n → weight es x.node ≤ peak es first ws
peak_above es first [] n x at l = cc
peak_above es zero (w ∷ ws) zero x at l = let e : w ≡ x = (cc) in let s : weight es w.node ≡ weight es x.node = ap (λ (y : Way). weight es y.node) e in omega (arith, s)
peak_above es zero (w ∷ ws) (suc n) x at l = let r = peak_above es zero ws n x at (omega arith) in omega (arith, r)
peak_above es (suc first) (w ∷ ws) zero x at l = absurd (omega (arith, l))
peak_above es (suc first) (w ∷ ws) (suc n) x at l = peak_above es first ws n x at (omega (arith, l))

pub peak_below : (es : List Entry) (first : ℕ) (ws : List Way) (b : ℕ) → ((n : ℕ) (x : Way) → At ws n x → first ≤ n → weight es x.node ≤ b) → peak es first ws ≤ b
peak_below es first [] b h = omega arith
peak_below es zero (w ∷ ws) b h =
    let l = h 0 w refl (omega arith) in
    let r = peak_below es zero ws b (λ n x at k. h (suc n) x at (omega arith)) in
    omega (arith, l, r)
peak_below es (suc first) (w ∷ ws) b h = peak_below es first ws b (λ n x at k. h (suc n) x at (omega (arith, k)))

weight_some : (es : List Entry) (u : Term) → 0 < weight es u
weight_some es NoType = omega arith
weight_some es (Predeclared b) = omega arith
weight_some es ErrorType = omega arith
weight_some es (Defined k) = by (find_entry es k)
  where
    by : (r : Option Entry) → 0 < entry_weight (deepest es) r
    by None = omega arith
    by (Some e) = omega arith
weight_some es (PointerTo t) = omega arith
weight_some es (StructOf path fs) = omega arith
weight_some es (InterfaceOf path ms) = omega arith

-- a lighter level is lower
pub peak_falls : (es : List Entry) (first : ℕ) (level ws : List Way) → first < length level → IsLighter es first level ws → peak es (length level) ws < peak es first level
peak_falls es first level ws some lighter =
    let x = at_some level first some in
    let high = peak_above es first level first x.0 x.1 (omega arith) in
    let pos = weight_some es x.0.node in
    let low : peak es (length level) ws + 1 ≤ peak es first level = below (peak es first level) (omega (arith, high, pos)) (λ n z at l. let y = lighter n z at l in let p = peak_above es first level y.0 y.1 y.2 y.3 in omega (arith, y.4, p)) in
    omega (arith, low)
  where
    below : (b : ℕ) → 0 < b → ((n : ℕ) (z : Way) → At ws n z → length level ≤ n → weight es z.node < b) → peak es (length level) ws + 1 ≤ b
    below zero pos h = absurd (omega (arith, pos))
    below (suc b) pos h = let r = peak_below es (length level) ws b (λ n z at l. let w = h n z at l in omega (arith, w)) in omega (arith, r)

product_falls : (c l m p q : ℕ) → l < m → p ≤ c → suc c * l + p < suc c * m + q
product_falls c l zero p q less low = absurd (omega (arith, less))
product_falls c l (suc m) p q less low =
    let e = mul_more c m in
    let k = mul_grows c l m (omega (arith, less)) in
    omega (arith, e, k, low)
  where
    mul_more : (c m : ℕ) → suc c * suc m ≡ suc c * m + suc c
    mul_more c m = grind arith

    mul_grows : (c l m : ℕ) → l ≤ m → suc c * l ≤ suc c * m
    mul_grows c l m h = grind arith

pub height_falls : (es : List Entry) (t : Term) (first : ℕ) (level ws : List Way) (met met' : List (ℕ × ℕ)) → first < length level
    → ((n : ℕ) (x : Way) → At ws n x → length level ≤ n → weight es x.node ≤ bound es t)
    → (left es met' < left es met) ⊎ ((left es met' ≡ left es met) × IsLighter es first level ws) → height es t (length level) ws met' < height es t first level met
height_falls es t first level ws met met' some low (inl l) =
    product_falls (bound es t) (left es met') (left es met) (peak es (length level) ws) (peak es first level) l (peak_below es (length level) ws (bound es t) low)
height_falls es t first level ws met met' some low (inr r) =
    let p = peak_falls es first level ws some r.1 in
    let e : suc (bound es t) * left es met' ≡ suc (bound es t) * left es met = ap (λ k. suc (bound es t) * k) r.0 in
    omega (arith, p, e)
