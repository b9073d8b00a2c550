-- What a declaration is looks at the declarations that it needs alone, for whatever rules of the types that files write.
use Rattle.std.proofs.Common.{◌≡◌, ℕ, zero, suc, ◌<◌, List, [], ◌∷◌, length, slice_get, refl, sym, ap, ◌∙◌, subst}
use Rattle.std.specs.Prelude.{⊤, Option, Some, None, Contains}
use Rattle.go_tree_nodes.specs.declared.decls.ValueKind.{ValueKind}
use Rattle.go_tree_nodes.specs.declared.decls.ValueKind.TheVariants as kinds
use Rattle.go_tree_nodes.specs.declared.names.Ident.{Ident}
use Rattle.go_tree_nodes.specs.Trees.{TypeTree, ValueSpecTree}
use Rattle.go_term_core.specs.decl_core.TopDecls.{FormTree, ValueForm, TypeForm, FuncForm}
use Rattle.go_term_core.specs.Terms.{Term}
use Rattle.go_stmt_core.specs.expr_core.Looks.{WrittenRules}
use Rattle.go_stmt_core.specs.expr_core.Laws.{LooksAtNames}
use Rattle.go_candidate_core.specs.declared_core.declared.face.Face.TheVariants as faces
use Rattle.go_candidate_core.specs.declared_core.Faces.{TheFace}
use Rattle.go_candidate_core.specs.declared_core.Written.{written_at}
use Rattle.go_package_core.specs.env_core.Scenes.{SceneModel}
use Rattle.go_digraph_core.specs.needs.Needs.{LooksAtNeeds, needed, known_in}
use Rattle.go_snap_core.specs.value_core.Initial.{initial, initial_idents, some_written_type}
use Rattle.go_snap_core.specs.value_core.Package.{idents_need, value_idents, form_idents, first_values, value_face, form_face}
use Rattle.go_snap_core.specs.value_core.Owning.{initial_alike}
use Rattle.go_snap_core.specs.value_core.Seeing.{SameAt, idents_alike, first_at, needs_inside}
use Rattle.go_complete_core.specs.spelling.Package.{FileForm, AreFixed, AllFixed, file_looks, form_needs, all_needs, face_of, face_at_position}

pub fixed_law : (written : WrittenRules Term) → AreFixed written → LooksAtNames Term written
fixed_law written fixed = record { type_of = λ a b t h. (fixed a b t).0; faults_of = λ a b t h. (fixed a b t).1 }

-- the declaration of a position

abbrev pub row_of : SceneModel → Option FileForm → List ℕ
row_of s None = []
row_of s (Some d) = form_needs s d

pub row_at : (s : SceneModel) (ds : List FileForm) (a : ℕ) → needed (all_needs s ds) a ≡ row_of s (slice_get ds a)
row_at s [] a = refl
row_at s (d ∷ ds) zero = refl
row_at s (d ∷ ds) (suc a) = row_at s ds a

abbrev FixedAt : Option FileForm → Type 0
FixedAt None = ⊤
FixedAt (Some d) = AreFixed d.written

fixed_at : (ds : List FileForm) → AllFixed ds → (a : ℕ) → FixedAt (slice_get ds a)
fixed_at [] h a = tt
fixed_at (d ∷ ds) h zero = h.0
fixed_at (d ∷ ds) h (suc a) = fixed_at ds h.1 a

module _ (s : SceneModel) (file : ℕ) (written : WrittenRules Term) (fixed : AreFixed written) where
  type_same : (k l : List (Option TheFace)) (t : Option TypeTree) → some_written_type (file_looks s file written k) t ≡ some_written_type (file_looks s file written l) t
  type_same k l None = refl
  type_same k l (Some t) = ap Some (fixed _ _ t).0

  name_same : (k l : List (Option TheFace)) (kind : ValueKind) (v : ValueSpecTree) (i : ℕ) → SameAt (idents_need s file (initial_idents v i)) (known_in k) (known_in l)
      → initial (file_looks s file written k) kind v i ≡ initial (file_looks s file written l) kind v i
  name_same k l kind v i h =
      let a = file_looks s file written k in
      let b = file_looks s file written l in
      initial_alike a b.find (fixed_law written fixed) kind v i (type_same k l v.type_expr) (idents_alike s file k l written (initial_idents v i) h)

  module _ (f g : ℕ → Option TheFace) where
    abbrev before : List (Option TheFace)
    before = first_values (length s.written) f

    abbrev after : List (Option TheFace)
    after = first_values (length s.written) g

    first_same : (xs : List Ident) → SameAt (idents_need s file xs) f g → SameAt (idents_need s file xs) (known_in before) (known_in after)
    first_same xs h b has =
        let lt : b < length s.written = needs_inside s file xs b has in
        first_at (length s.written) f b lt ∙ (h b has ∙ sym (first_at (length s.written) g b lt))

    initial_looked : (kind : ValueKind) (v : ValueSpecTree) (i : ℕ) → SameAt (idents_need s file (initial_idents v i)) f g
        → initial (file_looks s file written before) kind v i ≡ initial (file_looks s file written after) kind v i
    initial_looked kind v i h = name_same before after kind v i (first_same (initial_idents v i) h)

    value_looked : (w : Option TheFace) (kind : ValueKind) (t : Option TypeTree) (v : ValueSpecTree) (i : ℕ) → SameAt (idents_need s file (value_idents kind t v i)) f g
        → value_face (file_looks s file written before) w kind t v i ≡ value_face (file_looks s file written after) w kind t v i
    value_looked w kinds.Const t v i h = ap faces.«Value» (initial_looked kinds.Const v i h)
    value_looked w kinds.Var None v i h = ap faces.«Value» (initial_looked kinds.Var v i h)
    value_looked w kinds.Var (Some t) v i h = refl

    form_looked : (w : Option TheFace) (form : FormTree) → SameAt (idents_need s file (form_idents form)) f g
        → form_face (file_looks s file written before) w form ≡ form_face (file_looks s file written after) w form
    form_looked w (ValueForm k v i) h = value_looked w k v.type_expr v i h
    form_looked w (TypeForm t) h = refl
    form_looked w (FuncForm t) h = refl

module _ (s : SceneModel) (f g : ℕ → Option TheFace) (a : ℕ) where
  face_looked : (o : Option FileForm) → FixedAt o → SameAt (row_of s o) f g → face_of s f a o ≡ face_of s g a o
  face_looked None fixed h = refl
  face_looked (Some d) fixed h = form_looked s d.file d.written fixed f g (written_at s.written a) d.form h

pub looks_at_needs : (s : SceneModel) (ds : List FileForm) → AllFixed ds → LooksAtNeeds (all_needs s ds) (face_at_position s ds)
looks_at_needs s ds fixed f g a h = face_looked s f g a (slice_get ds a) (fixed_at ds fixed a) (λ b has. h b (subst (λ row. Contains row b) (sym (row_at s ds a)) has))
