-- The fields and methods that are kept are those of the settled type.
use Rattle.std.proofs.Common.{◌≡◌, ℕ, zero, suc, Bool, true, false, not, ◌&&◌, ◌||◌, List, [], ◌∷◌, length, map, if◌then◌else◌, refl, ap, ◌∙◌, subst}
use Rattle.std.specs.Str.{bytes_eq}
use Rattle.go_decl_core.specs.declared.keys.DeclKey.{DeclKey}
use Rattle.go_tree_nodes.specs.text_core.Text.{is_blank}
use Rattle.go_term_core.specs.declared.term.TypeTerm.{TypeTerm}
use Rattle.go_term_core.specs.declared.term.Field.{Field}
use Rattle.go_term_core.specs.declared.term.FieldLine.{FieldLine}
use Rattle.go_term_core.specs.declared.term.Method.{Method}
use Rattle.go_term_core.specs.Terms.{Term, Fields, NoField, AField, Methods, NoMethod, AMethod, ATerm}
use Rattle.go_term_core.specs.Shapes.{Line, line_at, line_shape, line_shapes, term_at, fields_in, terms_in, shape, method_shapes}
use Rattle.go_term_core.specs.declared.settling.kind.Kind.{Kind}
use Rattle.go_term_core.specs.settling.Settled.{can_be_embedded, is_among_names, settled, settled_fields, settled_methods, settled_sign, settled_terms}
use Rattle.go_term_core.specs.settling.mirrors.Kept.{keeps_field, keeps_method, kept_names, kept_fields, kept_methods, those_kept, settled_line, make_field, put_method, make_method}
use Rattle.go_term_core.proofs.SettlingNames.{SameNames, one_more, repeats_alike, seen_again, bytes_same}
use Rattle.go_term_core.proofs.SettlingLoops.{onto, masked, made}

-- a field before others
abbrev pub put_field : Field → List Field → List Field
put_field f rest = f ∷ rest

-- a line before others, written and settled
abbrev pub put_line : FieldLine → List Line → List Line
put_line l rest = line_shape l ∷ rest

abbrev pub make_line : (DeclKey → Kind) → FieldLine → List Line → List Line
make_line kind l rest = settled_line kind (line_shape l) ∷ rest

-- a term before others, written and settled
abbrev pub put_term : TypeTerm → List Term → List Term
put_term t rest = shape t ∷ rest

abbrev pub make_term : (DeclKey → Kind) → TypeTerm → List Term → List Term
make_term kind t rest = settled kind (shape t) ∷ rest

pub kept_len : (keeps : List ℕ → Bool → Bool) (seen names : List (List ℕ)) → length (kept_names keeps seen names) ≡ length names
kept_len keeps seen [] = refl
kept_len keeps seen (name ∷ names) = ap suc (kept_len keeps (name ∷ seen) names)

pub names_len : {X : Type 0} (name_of : X → List ℕ) (xs : List X) → length (map name_of xs) ≡ length xs
names_len name_of [] = refl
names_len name_of (x ∷ xs) = ap suc (names_len name_of xs)

-- lists behind one another
pub fields_onto : (fs : List Field) → onto put_field put_field [] fs [] ≡ fs
fields_onto [] = refl
fields_onto (f ∷ fs) = ap (put_field f) (fields_onto fs)

pub lines_onto : (make : FieldLine → List Line → List Line) (ls : List FieldLine) → onto put_line make [] ls [] ≡ line_shapes ls
lines_onto make [] = refl
lines_onto make (l ∷ ls) = ap (put_line l) (lines_onto make ls)

pub methods_onto : (make : Method → Methods → Methods) (ms : List Method) → onto put_method make NoMethod ms NoMethod ≡ method_shapes ms
methods_onto make [] = refl
methods_onto make (m ∷ ms) = ap (put_method m) (methods_onto make ms)

pub terms_onto : (make : TypeTerm → List Term → List Term) (ts : List TypeTerm) → onto put_term make [] ts [] ≡ map shape ts
terms_onto make [] = refl
terms_onto make (t ∷ ts) = ap (put_term t) (terms_onto make ts)

-- those that are kept, as a loop keeps them
pub kept_masked : (ks : List Bool) (fs : List Field) → masked put_field put_field [] ks fs ≡ those_kept ks fs
kept_masked ks [] = refl
kept_masked [] (f ∷ fs) = refl
kept_masked (k ∷ ks) (f ∷ fs) = ap (λ l. if k then f ∷ l else l) (kept_masked ks fs)

abbrev methods_first : Methods → Methods → Methods
methods_first NoMethod rest = rest
methods_first (AMethod name place g _) rest = AMethod name place g rest

pub method_before : (kind : DeclKey → Kind) (m x : Method) → put_method m NoMethod ≡ make_method kind x NoMethod → (rest : Methods) → put_method m rest ≡ make_method kind x rest
method_before kind m x same rest = ap (λ l. methods_first l rest) same

-- two lists of names leave out the same methods
abbrev LeftAlike : List (List ℕ) → List (List ℕ) → Type 0
LeftAlike seen other = (n : List ℕ) → (is_blank n || is_among_names seen n) ≡ (is_blank n || is_among_names other n)

left_more : (name : List ℕ) (seen other : List (List ℕ)) → LeftAlike seen other → LeftAlike (name ∷ seen) (name ∷ other)
left_more name seen other same n = by (is_blank n) (bytes_eq name n) (same n)
  where
    by : (a b : Bool) → (a || is_among_names seen n) ≡ (a || is_among_names other n) → (a || (if b then true else is_among_names seen n)) ≡ (a || (if b then true else is_among_names other n))
    by true b h = refl
    by false true h = refl
    by false false h = h

left_seen : (name : List ℕ) (seen : List (List ℕ)) → is_among_names seen name ≡ true → LeftAlike (name ∷ seen) seen
left_seen name seen h n = ap (λ b. is_blank n || b) (seen_again name seen h n)

left_blank : (name : List ℕ) (seen : List (List ℕ)) → is_blank name ≡ true → LeftAlike (name ∷ seen) seen
left_blank name seen blank n = by (is_blank n) (bytes_eq name n) (λ e. let P : List ℕ → Type 0 = λ x. is_blank x ≡ true in subst P (bytes_same name n e) blank)
  where
    by : (a b : Bool) → (b ≡ true → a ≡ true) → (a || (if b then true else is_among_names seen n)) ≡ (a || is_among_names seen n)
    by true b h = refl
    by false true h = (let e = h refl in cc)
    by false false h = refl

module _ (kind : DeclKey → Kind) where
  -- the order and the number of the names that were seen matter to nobody
  fields_seen : (fs : Fields) (seen other : List (List ℕ)) → SameNames seen other → settled_fields kind seen fs ≡ settled_fields kind other fs
  fields_seen NoField seen other same = refl
  fields_seen (AField name place embedded t tag fs) seen other same =
      (λ i. if repeats_alike seen other name same i then fields_seen fs seen other same i
      else AField name place (embedded && can_be_embedded kind t) (settled kind t) tag (fields_seen fs (name ∷ seen) (name ∷ other) (one_more name seen other same) i))

  methods_seen : (ms : Methods) (seen other : List (List ℕ)) → LeftAlike seen other → settled_methods kind seen ms ≡ settled_methods kind other ms
  methods_seen NoMethod seen other same = refl
  methods_seen (AMethod name place g ms) seen other same =
      (λ i. if same name i then methods_seen ms seen other same i
      else AMethod name place (settled_sign kind g) (methods_seen ms (name ∷ seen) (name ∷ other) (left_more name seen other same) i))

  line_settled : (ls : List Line) (n : ℕ) → line_at (map (settled_line kind) ls) n ≡ settled_line kind (line_at ls n)
  line_settled [] n = refl
  line_settled (l ∷ ls) zero = refl
  line_settled (l ∷ ls) (suc n) = line_settled ls n

  term_settled : (ts : List Term) (n : ℕ) → term_at (map (settled kind) ts) n ≡ settled kind (term_at ts n)
  term_settled [] n = refl
  term_settled (t ∷ ts) zero = refl
  term_settled (t ∷ ts) (suc n) = term_settled ts n

  -- parameters of settled terms
  pub terms_settled : (ts : List Term) (ns : List ℕ) → terms_in (map (settled kind) ts) ns ≡ settled_terms kind (terms_in ts ns)
  terms_settled ts [] = refl
  terms_settled ts (n ∷ ns) = λ i. ATerm (term_settled ts n i) (terms_settled ts ns i)

  module _ (ls : List Line) where
    field_made : (f : Field) (rest : List Field) (with : Fields) → fields_in (map (settled_line kind) ls) rest ≡ with → fields_in (map (settled_line kind) ls) (f ∷ rest) ≡ make_field kind ls f with
    field_made f rest with e = λ i. AField f.name f.place (line_settled ls f.line i).embedded (line_settled ls f.line i).term (line_settled ls f.line i).tag (e i)

    field_kept : (f : Field) (blank has : Bool) (with without : Fields) (rest : List Field) → fields_in (map (settled_line kind) ls) rest ≡ with → (has ≡ true → with ≡ without)
        → fields_in (map (settled_line kind) ls) (if blank || not has then f ∷ rest else rest) ≡ (if not blank && has then without else make_field kind ls f with)
    field_kept f true has with without rest e h = field_made f rest with e
    field_kept f false true with without rest e h = e ∙ h refl
    field_kept f false false with without rest e h = field_made f rest with e

    pub fields_masked : (fs : List Field) (seen : List (List ℕ))
        → fields_in (map (settled_line kind) ls) (those_kept (kept_names keeps_field seen (map (λ f. f.name) fs)) fs) ≡ settled_fields kind seen (fields_in ls fs)
    fields_masked [] seen = refl
    fields_masked (f ∷ fs) seen =
        let with : Fields = settled_fields kind (f.name ∷ seen) (fields_in ls fs) in
        field_kept f (is_blank f.name) (is_among_names seen f.name) with (settled_fields kind seen (fields_in ls fs)) _ (fields_masked fs (f.name ∷ seen))
        (λ h. fields_seen (fields_in ls fs) (f.name ∷ seen) seen (seen_again f.name seen h))

  method_kept : (m : Method) (blank has : Bool) (with without rest : Methods) → rest ≡ with → (has ≡ true → with ≡ without) → (blank ≡ true → with ≡ without)
      → (if not blank && not has then make_method kind m rest else rest) ≡ (if blank || has then without else make_method kind m with)
  method_kept m true has with without rest e h b = e ∙ b refl
  method_kept m false true with without rest e h b = e ∙ h refl
  method_kept m false false with without rest e h b = ap (make_method kind m) e

  pub methods_masked : (ms : List Method) (seen : List (List ℕ))
      → masked put_method (make_method kind) NoMethod (kept_names keeps_method seen (map (λ m. m.name) ms)) ms ≡ settled_methods kind seen (method_shapes ms)
  methods_masked [] seen = refl
  methods_masked (m ∷ ms) seen =
      let with : Methods = settled_methods kind (m.name ∷ seen) (method_shapes ms) in
      method_kept m (is_blank m.name) (is_among_names seen m.name) with (settled_methods kind seen (method_shapes ms)) _ (methods_masked ms (m.name ∷ seen))
      (λ h. methods_seen (method_shapes ms) (m.name ∷ seen) seen (left_seen m.name seen h)) (λ h. methods_seen (method_shapes ms) (m.name ∷ seen) seen (left_blank m.name seen h))

  pub lines_made : (ls : List FieldLine) → made put_line (make_line kind) [] ls ≡ map (settled_line kind) (line_shapes ls)
  lines_made [] = refl
  lines_made (l ∷ ls) = ap (make_line kind l) (lines_made ls)

  pub terms_made : (ts : List TypeTerm) → made put_term (make_term kind) [] ts ≡ map (settled kind) (map shape ts)
  terms_made [] = refl
  terms_made (t ∷ ts) = ap (make_term kind t) (terms_made ts)

  -- before a loop
  pub lines_start : (settled : List FieldLine) (items : List FieldLine) → settled ≡ [] → onto put_line (make_line kind) [] settled (made put_line (make_line kind) [] items) ≡ map (settled_line kind) (line_shapes items)
  lines_start settled items none = ap (λ l. onto put_line (make_line kind) [] l (made put_line (make_line kind) [] items)) none ∙ lines_made items

  pub methods_start : (settled : List Method) (kept : List Bool) (items methods : List Method) → settled ≡ [] → kept ≡ kept_methods methods → methods ≡ items
      → onto put_method (make_method kind) NoMethod settled (masked put_method (make_method kind) NoMethod kept items) ≡ settled_methods kind [] (method_shapes items)
  methods_start settled kept items methods none is same =
      ap (λ l. onto put_method (make_method kind) NoMethod l (masked put_method (make_method kind) NoMethod kept items)) none
      ∙ (ap (λ ks. masked put_method (make_method kind) NoMethod ks items) (is ∙ ap kept_methods same) ∙ methods_masked items [])

  pub terms_start : (settled_so_far items : List TypeTerm) → settled_so_far ≡ [] → onto put_term (make_term kind) [] settled_so_far (made put_term (make_term kind) [] items) ≡ map (settled kind) (map shape items)
  terms_start settled_so_far items none = ap (λ l. onto put_term (make_term kind) [] l (made put_term (make_term kind) [] items)) none ∙ terms_made items

-- before a loop over fields
pub fields_start : (settled : List Field) (kept : List Bool) (items fields : List Field) → settled ≡ [] → kept ≡ kept_fields fields → fields ≡ items
    → onto put_field put_field [] settled (masked put_field put_field [] kept items) ≡ those_kept (kept_fields items) items
fields_start settled kept items fields none is same =
    ap (λ l. onto put_field put_field [] l (masked put_field put_field [] kept items)) none
    ∙ (ap (λ ks. masked put_field put_field [] ks items) (is ∙ ap kept_fields same) ∙ kept_masked (kept_fields items) items)
