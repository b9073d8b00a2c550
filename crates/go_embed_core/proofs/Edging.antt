-- Embedded fields by their places.
use Rattle.std.proofs.Common.{◌≡◌, ℕ, zero, suc, ◌+◌, ◌-◌, ◌<◌, ◌≤◌, Bool, true, false, not, ◌&&◌, List, [], ◌∷◌, ◌++◌, map, length, get_or, Option, Some, None, if◌then◌else◌, inl, inr, refl, sym, ap, ◌∙◌, arith}
use Rattle.std.specs.Prelude.{◌⊎◌, option_to_list}
use Rattle.std.proofs.lemmas.Bool.{eq-eqb, ne_eqb, and_right, or_parts, not_from_true}
use Rattle.std.proofs.lemmas.List.{append_assoc, append-nil, map-append}
use Rattle.go_term_core.specs.declared.term.Field.{Field}
use Rattle.go_term_core.specs.Terms.{Term, NoType, Predeclared, ErrorType, Defined, PointerTo, StructOf, InterfaceOf, Fields, NoField, AField}
use Rattle.go_term_core.specs.Shapes.{Line, line_at, fields_in}
use Rattle.go_type_core.specs.table_core.Entries.{has_method}
use Rattle.go_type_core.specs.table_core.Methods.{term_fields}
use Rattle.go_type_core.specs.table_core.Shown.{hides_field, hides_some}
use Rattle.go_embed_core.specs.declared.owner.Embedded.{Embedded}
use Rattle.go_embed_core.specs.Owners.{OwnerModel, EmbeddedEdge, embedded_edge, embedded_edges, term_embedded, embedded_in, edge_at, embeds_at, term_field_count, owner_field_count}
use Rattle.go_embed_core.specs.OwnersShown.{embedded_shown}
use Rattle.go_embed_core.specs.mirrors.Edges.{hidden_by, IsHiding, edge_if, edges_from}
use Rattle.go_embed_core.proofs.Rows.{count_list}
use Rattle.go_term_core.specs.Forms.{field_count}

-- 1. The field at a place.

-- what stands at a place of a list of fields: the edge of the field there, unless it is kept from the owner
abbrev at_place : OwnerModel → List ℕ → ℕ → Fields → ℕ → Option EmbeddedEdge
at_place o path n NoField i = None
at_place o path n (AField name place embedded t tag fs) zero = edge_if (embedded && not (has_method o.path o.methods name path)) n t
at_place o path n (AField name place embedded t tag fs) (suc i) = at_place o path n fs i

skip : (b : Bool) (i n : ℕ) (t : Term) (es : List EmbeddedEdge) → (i ≡ n → ⊥) → edge_at (if b then embedded_edge i t ∷ es else es) n ≡ edge_at es n
skip true i n t es ne = ap (λ c. if c then Some (embedded_edge i t) else edge_at es n) (ne_eqb i n ne)
skip false i n t es ne = refl

-- no field stands before the first place
none_below : (o : OwnerModel) (path : List ℕ) (k : ℕ) (fs : Fields) (n : ℕ) → n < k → edge_at (embedded_edges o path k fs) n ≡ None
none_below o path k NoField n lt = refl
none_below o path k (AField name place embedded t tag fs) n lt =
    skip (embedded && not (has_method o.path o.methods name path)) k n t (embedded_edges o path (suc k) fs) (λ e. absurd (omega arith)) ∙ none_below o path (suc k) fs n (omega arith)

first_place : (b : Bool) (k n : ℕ) (t : Term) (es : List EmbeddedEdge) → k ≡ n → edge_at es n ≡ None → edge_at (if b then embedded_edge k t ∷ es else es) n ≡ edge_if b n t
first_place true k n t es e none = ap (λ c. if c then Some (embedded_edge k t) else edge_at es n) (eq-eqb k n e) ∙ ap (λ i. Some (embedded_edge i t)) e
first_place false k n t es e none = none

place_is : (o : OwnerModel) (path : List ℕ) (k : ℕ) (fs : Fields) (i n : ℕ) → n ≡ i + k → edge_at (embedded_edges o path k fs) n ≡ at_place o path n fs i
place_is o path k NoField i n e = refl
place_is o path k (AField name place embedded t tag fs) zero n e =
    first_place (embedded && not (has_method o.path o.methods name path)) k n t (embedded_edges o path (suc k) fs) (omega arith) (none_below o path (suc k) fs n (omega arith))
place_is o path k (AField name place embedded t tag fs) (suc i) n e =
    skip (embedded && not (has_method o.path o.methods name path)) k n t (embedded_edges o path (suc k) fs) (λ q. absurd (omega arith)) ∙ place_is o path (suc k) fs i n (omega arith)

-- 2. What the program reads.

module _ (ls : List Line) where
  past_fields : (o : OwnerModel) (path : List ℕ) (n : ℕ) (fs : List Field) (i : ℕ) → length fs ≤ i → at_place o path n (fields_in ls fs) i ≡ None
  past_fields o path n [] i le = refl
  past_fields o path n (f ∷ fs) zero le = absurd (omega arith)
  past_fields o path n (f ∷ fs) (suc i) le = past_fields o path n fs i (omega arith)

  in_fields : (o : OwnerModel) (path : List ℕ) (n : ℕ) (fs : List Field) (i : ℕ) (f : Field) → i < length fs → f ≡ get_or fs i f
      → at_place o path n (fields_in ls fs) i ≡ edge_if ((line_at ls f.line).embedded && not (has_method o.path o.methods f.name path)) n (line_at ls f.line).term
  in_fields o path n [] i f lt is = absurd (omega arith)
  in_fields o path n (g ∷ fs) zero f lt is = ap (λ (h : Field). edge_if ((line_at ls h.line).embedded && not (has_method o.path o.methods h.name path)) n (line_at ls h.line).term) (sym is)
  in_fields o path n (g ∷ fs) (suc i) f lt is = in_fields o path n fs i f (omega arith) is

  pub hides_here : (o : OwnerModel) (path : List ℕ) (fs : List Field) (i : ℕ) (f : Field) → i < length fs → f ≡ get_or fs i f → hides_field o.path o.methods path (fields_in ls fs) ≡ false → has_method o.path o.methods f.name path ≡ false
  hides_here o path [] i f lt is h = absurd (omega arith)
  hides_here o path (g ∷ fs) zero f lt is h =
      ap (λ (x : Field). has_method o.path o.methods x.name path) is ∙ (or_parts (has_method o.path o.methods g.name path) (hides_field o.path o.methods path (fields_in ls fs)) h).0
  hides_here o path (g ∷ fs) (suc i) f lt is h =
      hides_here o path fs i f (omega arith) is (or_parts (has_method o.path o.methods g.name path) (hides_field o.path o.methods path (fields_in ls fs)) h).1

  -- the edges of an owner's underlying type by its fields
  under_past : (o : OwnerModel) (u : Term) (fs : List Field) (n : ℕ) → fields_in ls fs ≡ term_fields u → length fs ≤ n → edge_at (term_embedded o u) n ≡ None
  under_past o NoType fs n e le = refl
  under_past o (Predeclared b) fs n e le = refl
  under_past o ErrorType fs n e le = refl
  under_past o (Defined k) fs n e le = refl
  under_past o (PointerTo t) fs n e le = refl
  under_past o (StructOf path gs) fs n e le = place_is o path 0 gs n n (omega arith) ∙ (ap (λ hs. at_place o path n hs n) (sym e) ∙ past_fields o path n fs n le)
  under_past o (InterfaceOf path ms) fs n e le = refl

  -- a list without fields has no place
  no_place : (fs : List Field) (i : ℕ) → fields_in ls fs ≡ NoField → i < length fs → ⊥
  no_place [] i e lt = omega arith
  no_place (f ∷ fs) i e lt = cc e

  hidden_edge : (o : OwnerModel) (path : List ℕ) (n : ℕ) (f : Field) → has_method o.path o.methods f.name path ≡ true → edge_if ((line_at ls f.line).embedded && not (has_method o.path o.methods f.name path)) n (line_at ls f.line).term ≡ None
  hidden_edge o path n f h = ap (λ b. edge_if b n (line_at ls f.line).term) (and_right (line_at ls f.line).embedded (not (has_method o.path o.methods f.name path)) (not_from_true (has_method o.path o.methods f.name path) h))

  and_yes : (b : Bool) → b && true ≡ b
  and_yes true = refl
  and_yes false = refl

  shown_edge : (o : OwnerModel) (path : List ℕ) (n : ℕ) (f : Field) → has_method o.path o.methods f.name path ≡ false → edge_if ((line_at ls f.line).embedded && not (has_method o.path o.methods f.name path)) n (line_at ls f.line).term ≡ edge_if (line_at ls f.line).embedded n (line_at ls f.line).term
  shown_edge o path n f h = ap (λ b. edge_if ((line_at ls f.line).embedded && not b) n (line_at ls f.line).term) h ∙ ap (λ b. edge_if b n (line_at ls f.line).term) (and_yes (line_at ls f.line).embedded)

  under_hidden : (o : OwnerModel) (u : Term) (fs : List Field) (n : ℕ) (f : Field) → fields_in ls fs ≡ term_fields u → n < length fs → f ≡ get_or fs n f → hidden_by o f.name u ≡ true → edge_at (term_embedded o u) n ≡ None
  under_hidden o NoType fs n f e lt is h = refl
  under_hidden o (Predeclared b) fs n f e lt is h = refl
  under_hidden o ErrorType fs n f e lt is h = refl
  under_hidden o (Defined k) fs n f e lt is h = refl
  under_hidden o (PointerTo t) fs n f e lt is h = refl
  under_hidden o (StructOf path gs) fs n f e lt is h =
      place_is o path 0 gs n n (omega arith) ∙ (ap (λ hs. at_place o path n hs n) (sym e) ∙ (in_fields o path n fs n f lt is ∙ hidden_edge o path n f h))
  under_hidden o (InterfaceOf path ms) fs n f e lt is h = refl

  under_shown : (o : OwnerModel) (u : Term) (fs : List Field) (n : ℕ) (f : Field) → fields_in ls fs ≡ term_fields u → n < length fs → f ≡ get_or fs n f
      → (hidden_by o f.name u ≡ false) ⊎ (hides_some o.path o.methods u ≡ false) → edge_at (term_embedded o u) n ≡ edge_if (line_at ls f.line).embedded n (line_at ls f.line).term
  under_shown o NoType fs n f e lt is h = absurd (no_place fs n e lt)
  under_shown o (Predeclared b) fs n f e lt is h = absurd (no_place fs n e lt)
  under_shown o ErrorType fs n f e lt is h = absurd (no_place fs n e lt)
  under_shown o (Defined k) fs n f e lt is h = absurd (no_place fs n e lt)
  under_shown o (PointerTo t) fs n f e lt is h = absurd (no_place fs n e lt)
  under_shown o (StructOf path gs) fs n f e lt is h =
      let off : has_method o.path o.methods f.name path ≡ false =
      elim h [ inl q ↦ q | inr q ↦ hides_here o path fs n f lt is (ap (λ hs. hides_field o.path o.methods path hs) e ∙ q) ] in
      place_is o path 0 gs n n (omega arith) ∙ (ap (λ hs. at_place o path n hs n) (sym e) ∙ (in_fields o path n fs n f lt is ∙ shown_edge o path n f off))
  under_shown o (InterfaceOf path ms) fs n f e lt is h = absurd (no_place fs n e lt)

  -- no field has the number
  pub embeds_past : (o : OwnerModel) (fs : List Field) (n : ℕ) → fields_in ls fs ≡ term_fields o.underlying → length fs ≤ n → embeds_at o n ≡ None
  embeds_past o fs n e le = under_past o o.underlying fs n e le

  -- the field of that number is kept from the owner
  pub embeds_hidden : (o : OwnerModel) (fs : List Field) (n : ℕ) (f : Field) (b : Bool) → fields_in ls fs ≡ term_fields o.underlying → n < length fs → f ≡ get_or fs n f → IsHiding b o f.name → b ≡ true → embeds_at o n ≡ None
  embeds_hidden o fs n f b e lt is h on = under_hidden o o.underlying fs n f e lt is (h.kept on)

  -- it is the owner's
  pub embeds_shown : (o : OwnerModel) (fs : List Field) (n : ℕ) (f : Field) (b : Bool) → fields_in ls fs ≡ term_fields o.underlying → n < length fs → f ≡ get_or fs n f → IsHiding b o f.name → b ≡ false
      → embeds_at o n ≡ edge_if (line_at ls f.line).embedded n (line_at ls f.line).term
  embeds_shown o fs n f b e lt is h off = under_shown o o.underlying fs n f e lt is (h.left off)

  count_under : (u : Term) → field_count (term_fields u) ≡ term_field_count u
  count_under NoType = refl
  count_under (Predeclared b) = refl
  count_under ErrorType = refl
  count_under (Defined k) = refl
  count_under (PointerTo t) = refl
  count_under (StructOf path fs) = refl
  count_under (InterfaceOf path ms) = refl

  pub count_owner : (o : OwnerModel) (fs : List Field) → fields_in ls fs ≡ term_fields o.underlying → length fs ≡ owner_field_count o
  count_owner o fs e = sym (count_list ls fs) ∙ (ap field_count e ∙ count_under o.underlying)

-- 3. All edges.

edge_list : (b : Bool) (k : ℕ) (t : Term) (es : List EmbeddedEdge) → option_to_list (edge_if b k t) ++ es ≡ (if b then embedded_edge k t ∷ es else es)
edge_list true k t es = refl
edge_list false k t es = refl

all_places : (o : OwnerModel) (path : List ℕ) (k : ℕ) (fs : Fields) (f : ℕ → Option EmbeddedEdge) → ((i n : ℕ) → n ≡ i + k → f n ≡ at_place o path n fs i) → edges_from f k (field_count fs) ≡ embedded_edges o path k fs
all_places o path k NoField f h = refl
all_places o path k (AField name place embedded t tag fs) f h =
    ap (λ e. option_to_list e ++ edges_from f (suc k) (field_count fs)) (h zero k (omega arith))
    ∙ (ap (λ l. option_to_list (edge_if (embedded && not (has_method o.path o.methods name path)) k t) ++ l) (all_places o path (suc k) fs f (λ i n e. h (suc i) n (omega arith)))
    ∙ edge_list (embedded && not (has_method o.path o.methods name path)) k t (embedded_edges o path (suc k) fs))

all_under : (o : OwnerModel) (u : Term) → edges_from (edge_at (term_embedded o u)) 0 (term_field_count u) ≡ term_embedded o u
all_under o NoType = refl
all_under o (Predeclared b) = refl
all_under o ErrorType = refl
all_under o (Defined k) = refl
all_under o (PointerTo t) = refl
all_under o (StructOf path fs) = all_places o path 0 fs (edge_at (embedded_edges o path 0 fs)) (λ i n e. place_is o path 0 fs i n e)
all_under o (InterfaceOf path ms) = refl

-- the edges at all places are the edges of the owner
pub all_edges : (o : OwnerModel) → edges_from (embeds_at o) 0 (owner_field_count o) ≡ embedded_in o
all_edges o = all_under o o.underlying

edges_more : (f : ℕ → Option EmbeddedEdge) (k n : ℕ) → k < n → edges_from f k (n - k) ≡ option_to_list (f k) ++ edges_from f (k + 1) (n - (k + 1))
edges_more f k n lt =
    let one : n - k ≡ suc (n - (k + 1)) = omega arith in
    let next : suc k ≡ k + 1 = omega arith in
    ap (edges_from f k) one ∙ ap (λ j. option_to_list (f k) ++ edges_from f j (n - (k + 1))) next

-- the loop over all places: at the start, past a place, at the end
pub edges_begin : (o : OwnerModel) (es : List Embedded) (n : ℕ) → es ≡ [] → n ≡ owner_field_count o → map embedded_shown es ++ edges_from (embeds_at o) 0 (n - 0) ≡ embedded_in o
edges_begin o es n none e = ap (λ l. map embedded_shown l ++ edges_from (embeds_at o) 0 (n - 0)) none ∙ (ap (edges_from (embeds_at o) 0) (let same : n - 0 ≡ owner_field_count o = omega arith in same) ∙ all_edges o)

pub edge_added : (o : OwnerModel) (es next : List Embedded) (e : Embedded) (k : ℕ) → Some (embedded_shown e) ≡ embeds_at o k → next ≡ es ++ e ∷ [] → map embedded_shown next ≡ map embedded_shown es ++ option_to_list (embeds_at o k)
edge_added o es next e k is more = ap (map embedded_shown) more ∙ (map-append embedded_shown es (e ∷ []) ∙ ap (λ x. map embedded_shown es ++ option_to_list x) is)

pub edge_none : (o : OwnerModel) (es : List EmbeddedEdge) (k : ℕ) → None ≡ embeds_at o k → es ≡ es ++ option_to_list (embeds_at o k)
edge_none o es k is = sym (append-nil es) ∙ ap (λ x. es ++ option_to_list x) is

pub edges_step : (o : OwnerModel) (so_far next all : List EmbeddedEdge) (k n : ℕ) → k < n → next ≡ so_far ++ option_to_list (embeds_at o k)
    → so_far ++ edges_from (embeds_at o) k (n - k) ≡ all → next ++ edges_from (embeds_at o) (k + 1) (n - (k + 1)) ≡ all
edges_step o so_far next all k n lt more before =
    let rest = edges_from (embeds_at o) (k + 1) (n - (k + 1)) in
    ap (λ l. l ++ rest) more
    ∙ (append_assoc so_far (option_to_list (embeds_at o k)) rest
    ∙ (ap (λ l. so_far ++ l) (sym (edges_more (embeds_at o) k n lt)) ∙ before))

pub edges_end : (o : OwnerModel) (so_far : List EmbeddedEdge) (k n : ℕ) → n ≤ k → so_far ++ edges_from (embeds_at o) k (n - k) ≡ embedded_in o → so_far ≡ embedded_in o
edges_end o so_far k n le before =
    let zero_left : n - k ≡ zero = omega arith in
    sym (append-nil so_far) ∙ (ap (λ m. so_far ++ edges_from (embeds_at o) k m) (sym zero_left) ∙ before)
