-- At the top of a file each type of a specification is what its names mean.
use Rattle.std.proofs.Common.{◌≡◌, ℕ, inl, inr, List, [], ◌∷◌, refl, sym, ap, subst, ◌∙◌}
use Rattle.std.specs.Prelude.{Option, Some, None, ⊤}
use Rattle.std.specs.List.{AllByRecursion, flat_map}
use Rattle.go_tree_nodes.specs.declared.decls.ValueKind.{ValueKind}
use Rattle.go_tree_nodes.specs.declared.decls.ValueKind.TheVariants as kinds
use Rattle.go_tree_nodes.specs.Starts.{type_start}
use Rattle.go_tree_nodes.specs.Trees.{TypeTree, ValueSpecTree, Specs, Single, Group, DeclTree, Value, Types, Func, TopTree, FileTree}
use Rattle.go_path_core.specs.text_core.declared.span.Span.{Span}
use Rattle.go_term_core.specs.decl_core.TopDecls.{TopDeclTree, FormTree, ValueForm, TypeForm, FuncForm, top_decls}
use Rattle.go_term_core.specs.Terms.{Term, Sign}
use Rattle.go_report_core.specs.handle_core.Declarations.{Declaration}
use Rattle.go_report_core.specs.expr_core.Looks.{WrittenRules}
use Rattle.go_report_core.specs.expr_core.Locality.{SameType, SameWritten}
use Rattle.go_body_core.specs.typexpr_core.EntryAmong.{Among, among_to}
use Rattle.go_inline_core.specs.Types.{InlineOf, inline_at}
use Rattle.go_inline_core.specs.Trees.{decl_types, file_types}
use Rattle.go_inline_core.specs.Inline.{inline_of, inlines}
use Rattle.go_inline_core.proofs.Found.{types_are_found}
use Rattle.go_report_core.specs.declared_core.Faces.{TheFace}
use Rattle.go_report_core.specs.declared_core.declared.face.Face.TheVariants as faces
use Rattle.go_body_core.specs.env_core.Looks.{TheLooks, looks_in, inline_rules, inline_type, inline_faults}
use Rattle.go_value_core.specs.Package.{value_face, form_face}
use Rattle.go_body_core.specs.function.Types.{named_where}
use Rattle.go_body_core.specs.function.Stands.{FileStand, kinds_in_scene, types_where, outer_look, outer_looks}
use Rattle.go_body_core.proofs.FunctionSeen.{outside}
use Rattle.go_package_core.proofs.PrepareForms.{DeclHolds, Forms, SpecsHold, file_holds, specs_all}
use Rattle.go_package_core.proofs.PrepareInitials.{initial_seen, makes_left, makes_right}
use Rattle.go_tree_nodes.specs.Spelling.{IsPlaced}
use Rattle.go_tree_nodes.specs.WrittenTypes.{spec_types, specs_types}

-- outside functions a name of a type means what it means at the top of the file

outside_all : (st : FileStand) → named_where (outer_look st) st.top ≡ st.top
outside_all st = λ i n. outside st n i

module _ (st : FileStand) (f : FileTree) (placed : IsPlaced f) where
  abbrev held : List (ℕ × InlineOf)
  held = inlines (kinds_in_scene st.scene) st.file st.top (file_types f)

  -- by the types that were made
  abbrev pub made_looks : TheLooks
  made_looks = looks_in st.scene st.file.file st.known (inline_rules st.scene held) (outer_look st)

  abbrev own_rules : WrittenRules Term
  own_rules = types_where st (outer_look st)

  there : (t : TypeTree) → Among (file_types f) t → inline_at held (type_start t) ≡ Some (inline_of (kinds_in_scene st.scene) st.file (named_where (outer_look st) st.top) t)
  there t has =
      types_are_found.in_file f placed (kinds_in_scene st.scene) st.file st.top t (among_to (file_types f) t has)
      ∙ ap (λ m. Some (inline_of (kinds_in_scene st.scene) st.file m t)) (sym (outside_all st))

  one_same : (t : TypeTree) → Among (file_types f) t → SameType Term Sign Declaration (List ℕ) made_looks (outer_looks st) t
  one_same t has = record { type_of = ap (inline_type st.scene.types) (there t has); faults_of = ap inline_faults (there t has) }

  abbrev Makes : List TypeTree → Type 0
  Makes ts = SameWritten made_looks (outer_looks st) ts

  all_same : (ts : List TypeTree) → ((t : TypeTree) → Among ts t → SameType Term Sign Declaration (List ℕ) made_looks (outer_looks st) t) → Makes ts
  all_same [] each = tt
  all_same (t ∷ ts) each = (each t (inl refl), all_same ts (λ u has. each u (inr has)))

  -- what a form takes of the types that it writes
  abbrev Form : FormTree → Type 0
  Form (ValueForm k v i) = Makes (spec_types v)
  Form (TypeForm t) = ⊤
  Form (FuncForm g) = ⊤

  lines_hold : (k : ValueKind) (vs : List (ValueSpecTree × Option Span)) → Makes (flat_map (λ v. spec_types v.0) vs) → AllByRecursion (λ (v : ValueSpecTree × Option Span). (i : ℕ) → Form (ValueForm k v.0 i)) vs
  lines_hold k [] h = tt
  lines_hold k (v ∷ vs) h = (
    (λ i. makes_left made_looks own_rules (spec_types v.0) (flat_map (λ v. spec_types v.0) vs) h),
    lines_hold k vs (makes_right made_looks own_rules (spec_types v.0) (flat_map (λ v. spec_types v.0) vs) h),
  )

  specs_hold : (k : ValueKind) (s : Specs ValueSpecTree) → Makes (specs_types s) → SpecsHold (λ v. (i : ℕ) → Form (ValueForm k v i)) s
  specs_hold k (Single v) h = λ i. h
  specs_hold k (Group first vs last) h = lines_hold k vs h

  decl_has : (d : DeclTree) → Makes (decl_types d) → DeclHolds Form d
  decl_has (Value v) h = specs_hold v.kind v.specs h
  decl_has (Types t) h = specs_all (λ s. Form (TypeForm s)) (λ s. tt) t.specs
  decl_has (Func g) h = tt

  tops_have : (ts : List TopTree) → Makes (flat_map (λ t. decl_types t.decl) ts) → AllByRecursion (λ (t : TopTree). DeclHolds Form t.decl) ts
  tops_have [] h = tt
  tops_have (t ∷ ts) h = (
    decl_has t.decl (makes_left made_looks own_rules (decl_types t.decl) (flat_map (λ t. decl_types t.decl) ts) h),
    tops_have ts (makes_right made_looks own_rules (decl_types t.decl) (flat_map (λ t. decl_types t.decl) ts) h),
  )

  forms : Forms Form (top_decls f)
  forms = file_holds Form f (tops_have f.decls (all_same (file_types f) one_same))

  -- faces

  value_same : (w : Option TheFace) (k : ValueKind) (t : Option TypeTree) (v : ValueSpecTree) (i : ℕ) → Makes (spec_types v) → value_face made_looks w k t v i ≡ value_face (outer_looks st) w k t v i
  value_same w kinds.Const t v i h = ap faces.«Value» (initial_seen made_looks own_rules kinds.Const v i h)
  value_same w kinds.Var None v i h = ap faces.«Value» (initial_seen made_looks own_rules kinds.Var v i h)
  value_same w kinds.Var (Some t) v i h = refl

  form_same : (w : Option TheFace) (form : FormTree) → Form form → form_face made_looks w form ≡ form_face (outer_looks st) w form
  form_same w (ValueForm k v i) h = value_same w k v.type_expr v i h
  form_same w (TypeForm t) h = refl
  form_same w (FuncForm g) h = refl

  one_form : (ds : List TopDeclTree) (d : TopDeclTree) → Forms Form ds → Among ds d → Form d.form
  one_form [] d all has = absurd has
  one_form (e ∷ ds) d all has = elim has [ inl is ↦ subst (λ (x : TopDeclTree). Form x.form) is all.0 | inr rest ↦ one_form ds d all.1 rest ]

  -- what a declaration of the file is by the types that were made is what it is as it is written
  pub face_same : (d : TopDeclTree) (w : Option TheFace) → Among (top_decls f) d → form_face made_looks w d.form ≡ form_face (outer_looks st) w d.form
  face_same d w has = form_same w d.form (one_form (top_decls f) d forms has)
