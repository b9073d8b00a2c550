-- Declarations by the types that are made of their files, and what is asked behind a dot.
use Rattle.std.proofs.Common.{◌≡◌, ◌↔◌, ℕ, zero, suc, Bool, List, [], ◌∷◌, map, slice_get, refl, sym, ap, ◌∙◌, subst, if◌then◌else◌}
use Rattle.std.specs.Prelude.{Option, Some, None}
use Rattle.go_tree_nodes.specs.text_core.Text.{is_blank}
use Rattle.go_tree_nodes.specs.declared.usage.Usage.{Usage}
use Rattle.go_cursor_core.specs.denote_core.declared.things.Dot.{Dot}
use Rattle.go_cursor_core.specs.denote_core.declared.things.Dot.TheVariants as dots
use Rattle.go_cursor_core.specs.denote_core.declared.things.Found.{Found}
use Rattle.go_cursor_core.specs.denote_core.Answers.{refused}
use Rattle.go_cursor_core.specs.denote_core.Selectors.{value_selector}
use Rattle.go_cursor_core.specs.operand_core.Values.{default_type}
use Rattle.go_tree_nodes.specs.text_core.declared.rule.Rule.TheVariants.{S8, F1, F5, F8}
use Rattle.go_cursor_core.specs.denote_core.declared.composite.things.NamedField.{NamedField}
use Rattle.go_cursor_core.specs.denote_core.declared.composite.things.NamedField.TheVariants as nameds
use Rattle.go_cursor_core.specs.denote_core.CompositeFields.{named_field}
use Rattle.go_cursor_core.specs.denote_core.CompositeKeys.{KeyContext, key_answer, found_key, refused_key}
use Rattle.go_cursor_core.specs.denote_core.CompositeLiterals.{is_struct}
use Rattle.go_cursor_core.specs.denote_core.CompositeRepeats.{has_name}
use Rattle.go_stmt_core.specs.expr_core.Looks.{Looks, look_of_place, literals_at}
use Rattle.go_stmt_core.specs.expr_core.Laws.{finding}
use Rattle.go_stmt_core.specs.expr_core.Uses.{SelectorBehind, KeyAmong, rule}
use Rattle.go_candidate_core.specs.declared_core.Faces.{TheFace}
use Rattle.go_package_core.specs.env_core.Scenes.{SceneModel}
use Rattle.go_digraph_core.specs.needs.Needs.{AreValues, known_in}
use Rattle.go_snap_core.specs.value_core.Package.{PlacedOf, decl_needs, package_needs, some_face, declared_face}
use Rattle.go_snap_core.specs.value_core.Laws.{AreFaces}
use Rattle.go_complete_core.specs.spelling.PieceLaws.{FacesAreAsEver, BehindDotsNoNames}
use Rattle.go_complete_core.specs.spelling.Package.{placed_form, all_needs, face_of, face_at_position, AreFacesOf}

module _ (s : SceneModel) where
  rows_same : (ds : List PlacedOf) → all_needs s (map (placed_form s) ds) ≡ package_needs s ds
  rows_same [] = refl
  rows_same (d ∷ ds) = ap (λ l. decl_needs s d ∷ l) (rows_same ds)

  face_same : (known : ℕ → Option TheFace) (n : ℕ) (ds : List PlacedOf) (i : ℕ) → face_of s known n (slice_get (map (placed_form s) ds) i) ≡ some_face s known n (slice_get ds i)
  face_same known n [] i = refl
  face_same known n (d ∷ ds) zero = refl
  face_same known n (d ∷ ds) (suc i) = face_same known n ds i

  -- from one rule of values to another that gives the same
  moved : (rows : List (List ℕ)) (value other : (ℕ → Option TheFace) → ℕ → TheFace) (t : List (Option TheFace)) → ((known : ℕ → Option TheFace) (n : ℕ) → value known n ≡ other known n)
      → AreValues TheFace rows value t → AreValues TheFace rows other t
  moved rows value other t same at = record { as_many = at.as_many; ends = at.ends; values = λ a v h. at.values a v h ∙ same (known_in t) a; endless = at.endless }

  pub faces_as_ever : (ds : List PlacedOf) (t : List (Option TheFace)) → AreFacesOf s (map (placed_form s) ds) t ↔ AreFaces s ds t
  faces_as_ever ds t = (
    λ h. moved (package_needs s ds) (face_at_position s (map (placed_form s) ds)) (declared_face s ds) t (λ known n. face_same known n ds n)
        (subst (λ rows. AreValues TheFace rows (face_at_position s (map (placed_form s) ds)) t) (rows_same ds) h),
    λ h. subst (λ rows. AreValues TheFace rows (face_at_position s (map (placed_form s) ds)) t) (sym (rows_same ds))
        (moved (package_needs s ds) (declared_face s ds) (face_at_position s (map (placed_form s) ds)) t (λ known n. sym (face_same known n ds n)) h),
  )

pub as_ever : FacesAreAsEver
as_ever s ds t = faces_as_ever s ds t

module _ {T S D P : Type 0} (looks : Looks T S D P) (find : List ℕ → ℕ → Found T S D) where
  abbrev after : Looks T S D P
  after = finding find looks

  value_asks : (u : Usage) (b : Bool) (o : Option T) (offset : ℕ) (name : List ℕ) → value_selector (look_of_place looks offset) u b o name ≡ value_selector (look_of_place after offset) u b o name
  value_asks u b None offset name = refl
  value_asks u b (Some t) offset name = refl

  pub selector_asks : (u : Usage) (dot : Dot T D) (offset : ℕ) (name : List ℕ) → rule looks (SelectorBehind u dot) offset name ≡ rule after (SelectorBehind u dot) offset name
  selector_asks u (dots.«Package» d) offset name = refl
  selector_asks u dots.Refused offset name = refl
  selector_asks u dots.Untyped offset name = refl
  selector_asks u (dots.«Value» operand) offset name =
      ap (λ a. (if is_blank name then refused S8 else a).outcome) (value_asks u operand.addressable (default_type looks.types operand.value_type) offset name)

  found_asks : (t : T) (again : Bool) (offset : ℕ) (name : List ℕ) (f : NamedField T D) → found_key (literals_at looks offset) t again name f ≡ found_key (literals_at after offset) t again name f
  found_asks t again offset name nameds.Hidden = refl
  found_asks t again offset name nameds.Missing = refl
  found_asks t again offset name (nameds.Visible field) = refl

  key_asks : (o : Option T) (m again : Bool) (offset : ℕ) (name : List ℕ) → key_answer (literals_at looks offset) o m again name ≡ key_answer (literals_at after offset) o m again name
  key_asks None m again offset name = refl
  key_asks (Some t) m again offset name =
      ap (λ a. if is_struct (looks.types.form t) then (if m then refused_key F5 else (if is_blank name then refused_key F1 else a)) else refused_key F8)
      (found_asks t again offset name (named_field (looks.literals.fields t) name))

  pub keys_ask : (k : KeyContext T) (offset : ℕ) (name : List ℕ) → rule looks (KeyAmong k) offset name ≡ rule after (KeyAmong k) offset name
  keys_ask k offset name = ap (λ a. a.outcome) (key_asks k.literal_type k.is_mixed (has_name name k.others) offset name)

pub no_names : (T S D P : Type 0) → BehindDotsNoNames T S D P
no_names T S D P = record { selectors = selector_asks; keys = keys_ask }
