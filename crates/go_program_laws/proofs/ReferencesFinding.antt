-- What a name stands for that is a function.
use Rattle.std.proofs.Common.{◌≡◌, ℕ, List, Option, Some, None, refl, sym, ap, ◌∙◌}
use Rattle.go_universe_core.specs.declared.Predeclared.{Predeclared}
use Rattle.go_universe_core.specs.declared.Predeclared.TheVariants as universe
use Rattle.go_term_core.specs.decl_core.declared.keys.DeclRef.{DeclRef}
use Rattle.go_term_core.specs.declared.term.MemberPlace.TheVariants as places
use Rattle.go_term_core.specs.Terms.{Sign}
use Rattle.go_names_core.specs.block_core.declared.binding.Binding.{Binding}
use Rattle.go_names_core.specs.block_core.declared.binding.Target.{Target}
use Rattle.go_names_core.specs.block_core.declared.binding.Target.TheVariants as targets
use Rattle.go_term_core.specs.decl_core.declared.keys.DeclKey.{DeclKey}
use Rattle.go_names_core.specs.block_core.Blocks.{file_binding}
use Rattle.go_report_core.specs.denote_core.declared.things.Found.TheVariants as founds
use Rattle.go_report_core.specs.denote_core.declared.things.Exported.TheVariants as exporteds
use Rattle.go_meaning_laws.specs.handle_core.Declarations.{Declaration, Universe, OfError, Package, InFile}
use Rattle.go_names_core.specs.declared.meaning.Outside.{Outside}
use Rattle.go_names_core.specs.declared.meaning.Outside.TheVariants as outsides
use Rattle.go_emit_core.specs.declared_core.declared.face.Face.TheVariants as faces
use Rattle.go_emit_core.specs.declared_core.declared.shown.ShownFace.{ShownFace}
use Rattle.go_emit_core.specs.declared_core.declared.shown.ShownFace.TheVariants as shown_faces
use Rattle.go_emit_core.specs.declared_core.Faces.{TheFace}
use Rattle.go_emit_core.specs.declared_core.Packages.{face_in, exported_in}
use Rattle.go_body_core.specs.env_core.declared.meaning.Meaning.{Meaning}
use Rattle.go_body_core.specs.env_core.declared.meaning.Meaning.TheVariants as means
use Rattle.go_body_core.specs.env_core.Scenes.{SceneModel}
use Rattle.go_body_core.specs.env_core.Found.{exported_face, exported_shown, found_binding, found_exported, found_face, found_of, found_outside, found_target, found_universe, own_face}

-- a name that is bound to a declaration of an import
pub record IsBoundFunction (s : SceneModel) (file : ℕ) (name : List ℕ) (d : Declaration) (g : Sign) : Type 0 where
  pub binding : Binding
  pub key : DeclKey
  pub bound : file_binding s.blocks file name ≡ Some binding
  pub target : binding.target ≡ targets.Exported key
  pub face : face_in s.others key.path key.decl ≡ Some (faces.Func g)
  pub is : d ≡ InFile key.path (places.Declared key.decl)

-- what a name is that is a function: one of the package's own, or one that an import binds
pub data IsNamedFunction (s : SceneModel) (file : ℕ) (known : List (Option TheFace)) (name : List ℕ) (m : Option Meaning) (d : Declaration) (g : Sign) : Type 0 where
  Own : (r : DeclRef) → m ≡ Some (means.Outside (outsides.«Package» r)) → d ≡ InFile s.path (places.Declared r) → own_face s known r ≡ Some (faces.Func g) → IsNamedFunction s file known name m d g
  Bound : IsBoundFunction s file name d g → IsNamedFunction s file known name m d g

pub record IsFaceOf (e : Declaration) (o : Option TheFace) (d : Declaration) (g : Sign) : Type 0 where
  pub is : d ≡ e
  pub face : o ≡ Some (faces.Func g)

module _ (d : Declaration) (g : Sign) where
  face_function : (e : Declaration) (o : Option TheFace) → found_face e o ≡ founds.Func d g → IsFaceOf e o d g
  face_function e None h = absurd (cc h)
  face_function e (Some (faces.«Type» t)) h = absurd (cc h)
  face_function e (Some (faces.Func s)) h = (let one : s ≡ g = cc h in let other : e ≡ d = cc h in record { is = sym other; face = ap (λ x. Some (faces.Func x)) one })
  face_function e (Some (faces.«Value» o)) h = absurd (cc h)

  exported_function : (e : Declaration) (o : Option TheFace) → exported_face e o ≡ exporteds.Func d g → IsFaceOf e o d g
  exported_function e None h = absurd (cc h)
  exported_function e (Some (faces.«Type» t)) h = absurd (cc h)
  exported_function e (Some (faces.Func s)) h = (let one : s ≡ g = cc h in let other : e ≡ d = cc h in record { is = sym other; face = ap (λ x. Some (faces.Func x)) one })
  exported_function e (Some (faces.«Value» o)) h = absurd (cc h)

  no_universe : (path : List ℕ) (p : Predeclared) → found_universe path p ≡ founds.Func d g → ⊥
  no_universe path universe.Any h = cc h
  no_universe path universe.Bool h = cc h
  no_universe path universe.Error h = cc h
  no_universe path universe.Int h = cc h
  no_universe path universe.String h = cc h
  no_universe path universe.True h = cc h
  no_universe path universe.False h = cc h
  no_universe path universe.Nil h = cc h
  no_universe path universe.Len h = cc h
  no_universe path universe.Panic h = cc h
  no_universe path universe.Print h = cc h
  no_universe path universe.Println h = cc h
  no_universe path _ h = cc h

  module _ (s : SceneModel) (file : ℕ) (known : List (Option TheFace)) (name : List ℕ) where
    target_function : (b : Binding) (t : Target) → file_binding s.blocks file name ≡ Some b → b.target ≡ t → found_target s t ≡ founds.Func d g → IsBoundFunction s file name d g
    target_function b (targets.«Package» path) at is h = absurd (cc h)
    target_function b (targets.Refused rule) at is h = absurd (cc h)
    target_function b (targets.Exported k) at is h = (let r = face_function (InFile k.path (places.Declared k.decl)) (face_in s.others k.path k.decl) h in record { binding = b; key = k; bound = at; target = is; face = r.face; is = r.is })

    binding_function : (o : Option Binding) → file_binding s.blocks file name ≡ o → found_binding s o ≡ founds.Func d g → IsBoundFunction s file name d g
    binding_function None at h = absurd (cc h)
    binding_function (Some b) at h = target_function b b.target at refl h

    outside_function : (o : Outside) → found_outside s file known name o ≡ founds.Func d g → IsNamedFunction s file known name (Some (means.Outside o)) d g
    outside_function (outsides.«Package» r) h = (let x = face_function (InFile s.path (places.Declared r)) (own_face s known r) h in Own r refl x.is x.face)
    outside_function (outsides.File at) h = Bound (binding_function (file_binding s.blocks file name) refl h)
    outside_function (outsides.Universe p) h = absurd (no_universe s.path p h)

    pub named_function : (m : Option Meaning) → found_of s file known name m ≡ founds.Func d g → IsNamedFunction s file known name m d g
    named_function None h = absurd (cc h)
    named_function (Some (means.Outside o)) h = outside_function o h
    named_function (Some (means.Local at value)) h = absurd (cc h)

  -- behind the name of a package
  pub record IsShownFunction (s : SceneModel) (name : List ℕ) : Type 0 where
    pub path : List ℕ
    pub decl : DeclRef
    pub shown : exported_in s.others path name ≡ shown_faces.Shown decl (Some (faces.Func g))
    pub is : d ≡ InFile path (places.Declared decl)

  module _ (s : SceneModel) (name : List ℕ) where
    shown_function : (path : List ℕ) (x : ShownFace) → exported_in s.others path name ≡ x → exported_shown path x ≡ exporteds.Func d g → IsShownFunction s name
    shown_function path shown_faces.Absent at h = absurd (cc h)
    shown_function path shown_faces.Hidden at h = absurd (cc h)
    shown_function path (shown_faces.Shown r o) at h = (let x = exported_function (InFile path (places.Declared r)) o h in record { path = path; decl = r; shown = at ∙ ap (λ (o : Option TheFace). shown_faces.Shown r o) x.face; is = x.is })

    pub behind_function : (e : Declaration) → found_exported s e name ≡ exporteds.Func d g → IsShownFunction s name
    behind_function (Universe p) h = absurd (cc h)
    behind_function OfError h = absurd (cc h)
    behind_function (Package path) h = shown_function path (exported_in s.others path name) refl h
    behind_function (InFile path place) h = absurd (cc h)
