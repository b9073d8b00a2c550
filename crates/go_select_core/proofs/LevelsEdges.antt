-- Embedded fields by their places.
use Rattle.std.proofs.Common.{◌≡◌, ℕ, suc, ◌+◌, ◌<◌, ◌≤◌, Bool, true, false, not, ◌&&◌, List, [], ◌∷◌, Some, refl, sym, ap, ◌∙◌, subst, arith, inl, inr, if◌then◌else◌, eq-eqb}
use Rattle.std.proofs.lemmas.Bool.Decides.{eqb_tells}
use Rattle.go_term_core.specs.Terms.{Term, NoType, Predeclared, ErrorType, Defined, PointerTo, StructOf, InterfaceOf, Fields, NoField, AField}
use Rattle.go_embed_core.specs.table_core.Entries.{EntryLook, has_method}
use Rattle.go_embed_core.specs.Owners.{OwnerModel, EmbeddedEdge, embedded_edge, owner_in, embedded_edges, term_embedded, embedded_in, edge_at, embeds_at, term_field_count, owner_field_count}
use Rattle.go_select_core.specs.levels.Paths.{Step}
use Rattle.go_select_core.proofs.LevelsListLemmas.{not_same}
use Rattle.go_term_core.specs.Forms.{field_count}
use Rattle.go_term_core.proofs.Members.{In, contained_in, in_contained}

at_here : (x : EmbeddedEdge) (es : List EmbeddedEdge) (i : ℕ) → x.position ≡ i → edge_at (x ∷ es) i ≡ Some x
at_here x es i h = ap (λ b. if b then Some x else edge_at es i) (eq-eqb x.position i h)

at_later : (x : EmbeddedEdge) (es : List EmbeddedEdge) (i : ℕ) → (x.position ≡ i → ⊥) → edge_at (x ∷ es) i ≡ edge_at es i
at_later x es i d = ap (λ b. if b then Some x else edge_at es i) (not_same x.position i d)

-- the edge that is found at a place is one, and stands there
edge_found : (es : List EmbeddedEdge) (i : ℕ) (e : EmbeddedEdge) → edge_at es i ≡ Some e → In es e × (e.position ≡ i)
edge_found [] i e h = cc
edge_found (x ∷ es) i e h =
    elim (eqb_tells x.position i) [
      | inl p ↦ let s : x ≡ e = (let a = at_here x es i p.1 in (cc)) in (inl s, ap (λ (y : EmbeddedEdge). y.position) (sym s) ∙ p.1)
      | inr p ↦ let r = edge_found es i e (sym (at_later x es i p.1) ∙ h) in (inr r.0, r.1)
    ]

-- an embedded field or none, before others that stand behind it
above_step : (b : Bool) (i : ℕ) (t : Term) (rest : List EmbeddedEdge) (e : EmbeddedEdge) → (In rest e → suc i ≤ e.position) → In (if b then embedded_edge i t ∷ rest else rest) e → i ≤ e.position
above_step true i t rest e more (inl s) = let p : i ≡ e.position = ap (λ (y : EmbeddedEdge). y.position) s in omega (arith, p)
above_step true i t rest e more (inr r) = let l = more r in omega (arith, l)
above_step false i t rest e more r = let l = more r in omega (arith, l)

pub above : (o : OwnerModel) (path : List ℕ) (i : ℕ) (fs : Fields) (e : EmbeddedEdge) → In (embedded_edges o path i fs) e → i ≤ e.position
above o path i NoField e h = absurd h
above o path i (AField name place embedded t tag fs) e h =
    above_step (embedded && not (has_method o.path o.methods name path)) i t (embedded_edges o path (suc i) fs) e (λ r. above o path (suc i) fs e r) h

below_step : (b : Bool) (i n : ℕ) (t : Term) (rest : List EmbeddedEdge) (e : EmbeddedEdge) → (In rest e → e.position < suc i + n) → In (if b then embedded_edge i t ∷ rest else rest) e → e.position < i + suc n
below_step true i n t rest e more (inl s) = let p : i ≡ e.position = ap (λ (y : EmbeddedEdge). y.position) s in omega (arith, p)
below_step true i n t rest e more (inr r) = let l = more r in omega (arith, l)
below_step false i n t rest e more r = let l = more r in omega (arith, l)

below : (o : OwnerModel) (path : List ℕ) (i : ℕ) (fs : Fields) (e : EmbeddedEdge) → In (embedded_edges o path i fs) e → e.position < i + field_count fs
below o path i NoField e h = absurd h
below o path i (AField name place embedded t tag fs) e h =
    below_step (embedded && not (has_method o.path o.methods name path)) i (field_count fs) t (embedded_edges o path (suc i) fs) e (λ r. below o path (suc i) fs e r) h

first_step : (b : Bool) (i : ℕ) (t : Term) (rest : List EmbeddedEdge) (e : EmbeddedEdge) → (In rest e → suc i ≤ e.position) → (In rest e → edge_at rest e.position ≡ Some e)
    → In (if b then embedded_edge i t ∷ rest else rest) e → edge_at (if b then embedded_edge i t ∷ rest else rest) e.position ≡ Some e
first_step true i t rest e higher more (inl s) = at_here (embedded_edge i t) rest e.position (ap (λ (y : EmbeddedEdge). y.position) s) ∙ ap Some s
first_step true i t rest e higher more (inr r) =
    let l = higher r in
    at_later (embedded_edge i t) rest e.position (λ p. omega (arith, p, l)) ∙ more r
first_step false i t rest e higher more r = more r

first_edge : (o : OwnerModel) (path : List ℕ) (i : ℕ) (fs : Fields) (e : EmbeddedEdge) → In (embedded_edges o path i fs) e → edge_at (embedded_edges o path i fs) e.position ≡ Some e
first_edge o path i NoField e h = absurd h
first_edge o path i (AField name place embedded t tag fs) e h =
    first_step (embedded && not (has_method o.path o.methods name path)) i t (embedded_edges o path (suc i) fs) e (λ r. above o path (suc i) fs e r) (λ r. first_edge o path (suc i) fs e r) h

term_edge : (o : OwnerModel) (u : Term) (e : EmbeddedEdge) → In (term_embedded o u) e → edge_at (term_embedded o u) e.position ≡ Some e
term_edge o NoType e h = absurd h
term_edge o (Predeclared b) e h = absurd h
term_edge o ErrorType e h = absurd h
term_edge o (Defined k) e h = absurd h
term_edge o (PointerTo t) e h = absurd h
term_edge o (StructOf path fs) e h = first_edge o path 0 fs e h
term_edge o (InterfaceOf path ms) e h = absurd h

term_within : (o : OwnerModel) (u : Term) (e : EmbeddedEdge) → In (term_embedded o u) e → e.position < term_field_count u
term_within o NoType e h = absurd h
term_within o (Predeclared b) e h = absurd h
term_within o ErrorType e h = absurd h
term_within o (Defined k) e h = absurd h
term_within o (PointerTo t) e h = absurd h
term_within o (StructOf path fs) e h = let l = below o path 0 fs e h in omega (arith, l)
term_within o (InterfaceOf path ms) e h = absurd h

-- the embedded field at a place is a step
pub step_at : (look : EntryLook) (t : Term) (i : ℕ) (e : EmbeddedEdge) → embeds_at (owner_in look t) i ≡ Some e → Step look t i e.pointer e.target
unfolding Step
step_at look t i e h =
    let r = edge_found (embedded_in (owner_in look t)) i e h in
    (e, contained_in (embedded_in (owner_in look t)) e r.0, r.1, refl, refl)

-- and a step is the embedded field at its place
pub step_edge : (look : EntryLook) (t : Term) (i : ℕ) (p : Bool) (u : Term) → Step look t i p u → (e : EmbeddedEdge) × (embeds_at (owner_in look t) i ≡ Some e) × In (embedded_in (owner_in look t)) e × (e.position ≡ i) × (e.pointer ≡ p) × (e.target ≡ u)
unfolding Step
step_edge look t i p u s =
    let r = in_contained (embedded_in (owner_in look t)) s.0 s.1 in
    (s.0, subst (λ k. embeds_at (owner_in look t) k ≡ Some s.0) s.2 (term_edge (owner_in look t) (owner_in look t).underlying s.0 r), r, s.2, s.3, s.4)

pub step_same : (look : EntryLook) (t : Term) (i : ℕ) (p q : Bool) (u v : Term) → Step look t i p u → Step look t i q v → (p ≡ q) × (u ≡ v)
step_same look t i p q u v a b =
    let x = step_edge look t i p u a in
    let y = step_edge look t i q v b in
    let same : x.0 ≡ y.0 = (let l = x.1 in let r = y.1 in (cc)) in
    (sym x.4 ∙ ap (λ (e : EmbeddedEdge). e.pointer) same ∙ y.4, sym x.5 ∙ ap (λ (e : EmbeddedEdge). e.target) same ∙ y.5)

pub step_within : (look : EntryLook) (t : Term) (i : ℕ) (p : Bool) (u : Term) → Step look t i p u → i < owner_field_count (owner_in look t)
step_within look t i p u s =
    let x = step_edge look t i p u s in
    subst (λ k. k < owner_field_count (owner_in look t)) x.3 (term_within (owner_in look t) (owner_in look t).underlying x.0 x.2)

pub edge_place : (o : OwnerModel) (i : ℕ) (e : EmbeddedEdge) → embeds_at o i ≡ Some e → e.position ≡ i
edge_place o i e h = (edge_found (embedded_in o) i e h).1
