-- Proofs of the laws.
use Rattle.std.proofs.Common.{◌≡◌, ℕ, zero, suc, List, [], ◌∷◌, refl, sym, ap, ◌∙◌, subst}
use Rattle.std.specs.Prelude.{Option, Some, None, Contains, slice_get}
use Rattle.go_term_core.specs.decl_core.TopDecls.{FormTree, ValueForm, TypeForm, FuncForm}
use Rattle.go_env_core.specs.declared_core.Faces.{TheFace}
use Rattle.go_env_core.specs.declared_core.Written.{written_at}
use Rattle.go_env_core.specs.Scenes.{SceneModel}
use Rattle.go_env_core.specs.Looks.{TheLooks}
use Rattle.go_digraph_core.specs.needs.Needs.{AreValues, known_in, EndsWithin}
use Rattle.go_digraph_core.proofs.NeedsNeeded.{one_table, endless_never}
use Rattle.go_value_core.specs.Laws.{AreFaces, PackageHasOneTable, NeedsDecide, ThroughItselfHasNone, NeededNamesDecide, FormsAlike, PlacedAlike, AllAlike, NamesAndBodiesDoNotCount}
use Rattle.go_value_core.specs.Package.{PlacedOf, form_idents, idents_need, decl_needs, package_needs, form_face, top_looks, some_face, declared_face, IsThroughItself}
use Rattle.go_value_core.proofs.Owning.{initial_alike}
use Rattle.go_value_core.proofs.Seeing.{looks_at_needs}

pub one_answer : PackageHasOneTable
one_answer s ds t u at au = one_table TheFace (package_needs s ds) (declared_face s ds) t u (looks_at_needs s ds) at au

pub needs_decide : NeedsDecide
needs_decide s ds known other n h = looks_at_needs s ds known other n h

pub through_none : ThroughItselfHasNone
through_none s ds t n at is = decided (known_in t n) refl
  where
    decided : (o : Option TheFace) → known_in t n ≡ o → known_in t n ≡ None
    decided None e = e
    decided (Some v) e =
        absurd (endless_never (package_needs s ds) _ n (record { node = n; path = []; leads = refl; first = is.leads.first; around = is.leads.around; back = is.leads.back }) (at.ends n v e))

pub names_decide : (T S D P : Type 0) → NeededNamesDecide T S D P
names_decide T S D P looks find kind v i law types h = initial_alike looks find law kind v i types h

-- trees of types and functions

idents_same : (f g : FormTree) → FormsAlike f g → form_idents f ≡ form_idents g
idents_same (ValueForm k v i) g h = ap form_idents h
idents_same (TypeForm t) (TypeForm u) h = refl
idents_same (FuncForm t) (FuncForm u) h = refl
idents_same (TypeForm t) (ValueForm k v i) h = elim h [ ]
idents_same (TypeForm t) (FuncForm u) h = elim h [ ]
idents_same (FuncForm t) (ValueForm k v i) h = elim h [ ]
idents_same (FuncForm t) (TypeForm u) h = elim h [ ]

needs_same : (s : SceneModel) (p q : PlacedOf) → PlacedAlike p q → decl_needs s p ≡ decl_needs s q
needs_same s p q h = ap (λ file. idents_need s file (form_idents p.decl.form)) h.files ∙ ap (idents_need s q.file) (idents_same p.decl.form q.decl.form h.forms)

all_needs : (s : SceneModel) (ds es : List PlacedOf) → AllAlike ds es → package_needs s ds ≡ package_needs s es
all_needs s [] [] h = refl
all_needs s [] (q ∷ qs) h = elim h [ ]
all_needs s (p ∷ ps) [] h = elim h [ ]
all_needs s (p ∷ ps) (q ∷ qs) h = ap (λ row. row ∷ package_needs s ps) (needs_same s p q h.0) ∙ ap (λ rows. decl_needs s q ∷ rows) (all_needs s ps qs h.1)

face_same : (s : SceneModel) (looks : TheLooks) (w : Option TheFace) (f g : FormTree) → FormsAlike f g → form_face looks w f ≡ form_face looks w g
face_same s looks w (ValueForm k v i) g h = ap (form_face looks w) h
face_same s looks w (TypeForm t) (TypeForm u) h = refl
face_same s looks w (FuncForm t) (FuncForm u) h = refl
face_same s looks w (TypeForm t) (ValueForm k v i) h = elim h [ ]
face_same s looks w (TypeForm t) (FuncForm u) h = elim h [ ]
face_same s looks w (FuncForm t) (ValueForm k v i) h = elim h [ ]
face_same s looks w (FuncForm t) (TypeForm u) h = elim h [ ]

placed_same : (s : SceneModel) (known : ℕ → Option TheFace) (n : ℕ) (p q : PlacedOf) → PlacedAlike p q → some_face s known n (Some p) ≡ some_face s known n (Some q)
placed_same s known n p q h =
    ap (λ file. form_face (top_looks s file p.types known) (written_at s.written n) p.decl.form) h.files
    ∙ (ap (λ types. form_face (top_looks s q.file types known) (written_at s.written n) p.decl.form) h.types
    ∙ face_same s (top_looks s q.file q.types known) (written_at s.written n) p.decl.form q.decl.form h.forms)

some_same : (s : SceneModel) (known : ℕ → Option TheFace) (n : ℕ) (ds es : List PlacedOf) (i : ℕ) → AllAlike ds es → some_face s known n (slice_get ds i) ≡ some_face s known n (slice_get es i)
some_same s known n [] [] i h = refl
some_same s known n [] (q ∷ qs) i h = elim h [ ]
some_same s known n (p ∷ ps) [] i h = elim h [ ]
some_same s known n (p ∷ ps) (q ∷ qs) zero h = placed_same s known n p q h.0
some_same s known n (p ∷ ps) (q ∷ qs) (suc i) h = some_same s known n ps qs i h.1

pub bodies_do_not_count : NamesAndBodiesDoNotCount
bodies_do_not_count = record { needs = all_needs; faces = λ s ds es known n h. some_same s known n ds es n h }
