-- A path can be cut until it comes to no type of the table twice, whatever types are embedded.
use Rattle.std.proofs.Common.{◌≡◌, ℕ, zero, suc, ◌+◌, ◌*◌, ◌<◌, ◌≤◌, Bool, false, ◌||◌, List, [], ◌∷◌, length, Option, Some, None, cond, refl, ap, subst, arith, ◌⊎◌, inl, inr}
use Rattle.std.specs.Prelude.{nat_eq}
use Rattle.std.specs.Map.{lookup}
use Rattle.std.proofs.lemmas.Cmp.{nat_eq_equiv}
use Rattle.go_term_core.specs.Terms.{Term, NoType, Predeclared, ErrorType, Defined, PointerTo, StructOf, InterfaceOf}
use Rattle.go_term_core.proofs.Members.{In}
use Rattle.go_table_core.specs.Entries.{Entry, find_entry, term_in, underlying_in}
use Rattle.go_mset_core.specs.embed_core.Owners.{EmbeddedEdge, owner_in, term_embedded, embedded_in}
use Rattle.go_mset_core.specs.select_core.LevelsPaths.{Step, FieldsLead}
use Rattle.go_mset_core.specs.select_core.LevelsMirrors.Ways.{IsNumbered}
use Rattle.go_mset_core.specs.select_core.LevelsMirrors.Levels.{left}
use Rattle.go_mset_core.specs.select_core.LevelsEdges.{step_edge}
use Rattle.go_mset_core.specs.select_core.LevelsWeights.{find_deep, left_falls, term_deep}
use Rattle.go_mset_core.specs.select_core.Short.{Avoids, avoids_none, last_visit, left_none, marked, numbered, starts}
use Rattle.go_handle_core.specs.deciding.Selecting.{last_depth}
use Rattle.go_table_core.specs.Nesting.{nesting, deepest}

-- a type that embeds one is of the table, or the one stands within it
abbrev Falls : List Entry → Term → Term → Type 0
Falls es t v = (((n : ℕ) × IsNumbered es n t) × (nesting v ≤ deepest es)) ⊎ (nesting v < nesting t)

edge_falls : (es : List Entry) (t : Term) (e : EmbeddedEdge) → In (embedded_in (owner_in (find_entry es) t)) e → Falls es t e.target
edge_falls es NoType e h = absurd h
edge_falls es (Predeclared b) e h = absurd h
edge_falls es ErrorType e h = absurd h
edge_falls es (Defined k) e h = by (find_entry es k) refl
  where
    by : (r : Option Entry) → find_entry es k ≡ r → Falls es (Defined k) e.target
    by None is = let u : underlying_in (find_entry es) (Defined k) ≡ NoType = ap term_in is in absurd (subst (λ w. In (term_embedded (owner_in (find_entry es) (Defined k)) w) e) u h)
    by (Some x) is =
        let u : underlying_in (find_entry es) (Defined k) ≡ x.term = ap term_in is in
        let d = term_deep (owner_in (find_entry es) (Defined k)) x.term e (subst (λ w. In (term_embedded (owner_in (find_entry es) (Defined k)) w) e) u h) in
        let l = find_deep es k x is in
        inl (numbered es k x is, omega (arith, d, l))
edge_falls es (PointerTo t) e h = absurd h
edge_falls es (StructOf path fs) e h = inr (term_deep (owner_in (find_entry es) (StructOf path fs)) (StructOf path fs) e h)
edge_falls es (InterfaceOf path ms) e h = absurd h

step_falls : (es : List Entry) (t : Term) (i : ℕ) (p : Bool) (v : Term) → Step (find_entry es) t i p v → Falls es t v
step_falls es t i p v s = let x = step_edge (find_entry es) t i p v s in subst (λ w. Falls es t w) x.5 (edge_falls es t x.0 x.2)

-- one type fewer that may be met makes room for the deepest that is embedded
drops : (d l m : ℕ) → l < m → l * suc d + suc d ≤ m * suc d
drops d l m h = grind arith

marked_falls : (es : List Entry) (met : List (ℕ × ℕ)) (n : ℕ) (t : Term) → IsNumbered es n t → lookup (nat_eq n) met ≡ None → left es ((n, 0) ∷ met) < left es met
marked_falls es met n t num none = left_falls es met ((n, 0) ∷ met) n 0 t num none (λ m. ap (λ b. cond b (Some 0) (lookup (nat_eq m) met)) (nat_eq_equiv.symm m n))

-- what a path may cost from a type on
abbrev cost : List Entry → List (ℕ × ℕ) → Term → ℕ
cost es met t = left es met * suc (deepest es) + nesting t

abbrev Short : List Entry → Term → Term → ℕ → Type 0
Short es t u b = (r : List ℕ) × (p : Bool) × FieldsLead (find_entry es) t r p u × (length r ≤ b)

-- from a type of the table on, where paths can be cut that cost less
over : (b : ℕ) (es : List Entry) (met : List (ℕ × ℕ)) (t : Term) (q : List ℕ) (u : Term) (n : ℕ) → IsNumbered es n t → cost es met t ≤ suc b → Avoids es met t q u
    → ((met' : List (ℕ × ℕ)) (v : Term) (rest : List ℕ) → cost es met' v ≤ b → Avoids es met' v rest u → Short es v u b) → Short es t u (suc b)
over b es met t q u n num l h more =
    elim (last_visit es met n t num t q u h) [
      | inl a ↦ absurd (marked es met n t q u num a)
      | inr r ↦ elim r [
        | inl e ↦ ([], false, (e, refl), omega arith)
        | inr x ↦ onward x.0 x.1 x.2 x.3 x.4 x.5
      ]
    ]
  where
    none : lookup (nat_eq n) met ≡ None
    none = starts es met t q u h n num

    fewer : left es ((n, 0) ∷ met) * suc (deepest es) + suc (deepest es) ≤ left es met * suc (deepest es)
    fewer = drops (deepest es) (left es ((n, 0) ∷ met)) (left es met) (marked_falls es met n t num none)

    onward : (j : ℕ) (p : Bool) (v : Term) (rest : List ℕ) → Step (find_entry es) t j p v → Avoids es ((n, 0) ∷ met) v rest u → Short es t u (suc b)
    onward j p v rest step a =
        let k = fewer in
        elim (step_falls es t j p v step) [
          | inl x ↦
              let low = x.1 in
              let s = more ((n, 0) ∷ met) v rest (omega (arith, k, low, l)) a in
              (j ∷ s.0, p || s.1, (v, p, s.1, step, s.2, refl), omega (arith, s.3))
          | inr y ↦
              let s = more ((n, 0) ∷ met) v rest (omega (arith, k, y, l)) a in
              (j ∷ s.0, p || s.1, (v, p, s.1, step, s.2, refl), omega (arith, s.3))
        ]

short : (b : ℕ) (es : List Entry) (met : List (ℕ × ℕ)) (t : Term) (q : List ℕ) (u : Term) → cost es met t ≤ b → Avoids es met t q u → Short es t u b
short b es met t [] u l h = ([], false, (h.1, refl), omega arith)
short zero es met t (i ∷ q) u l h =
    elim (step_falls es t i h.1.1 h.1.0 h.1.2) [
      | inl x ↦
          let f = marked_falls es met x.0.0 t x.0.1 (h.0 x.0.0 x.0.1) in
          let k = drops (deepest es) (left es ((x.0.0, 0) ∷ met)) (left es met) f in
          absurd (omega (arith, k, l))
      | inr y ↦ absurd (omega (arith, y, l))
    ]
short (suc b) es met t (i ∷ q) u l h =
    elim (step_falls es t i h.1.1 h.1.0 h.1.2) [
      | inl x ↦ over b es met t (i ∷ q) u x.0.0 x.0.1 l h (λ met' v rest k a. short b es met' v rest u k a)
      | inr y ↦
          let s = short b es met h.1.0 q u (omega (arith, y, l)) h.1.3 in
          (i ∷ s.0, h.1.1 || s.1, (h.1.0, h.1.1, s.1, h.1.2, s.2, refl), omega (arith, s.3))
    ]

times : (d l m : ℕ) → l ≤ m → l * suc d ≤ m * suc d
times d l m h = grind arith

pub short_path : (es : List Entry) (t : Term) (q : List ℕ) (p : Bool) (u : Term) → FieldsLead (find_entry es) t q p u → (r : List ℕ) × (b : Bool) × FieldsLead (find_entry es) t r b u × (length r ≤ last_depth es t)
short_path es t q p u h =
    let l = left_none (length es) in
    let k = times (deepest es) (left es []) (length es) l in
    short (last_depth es t) es [] t q u (omega (arith, k)) (avoids_none es t q p u h)
