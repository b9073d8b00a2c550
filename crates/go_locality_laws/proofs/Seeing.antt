-- What names stand for in a package is the same where the same is known of the packages that its files bind, over one table of types.
use Rattle.std.proofs.Common.{◌≡◌, ℕ, List, refl, ap}
use Rattle.std.specs.Prelude.{Option, Some, None, ⊤}
use Rattle.go_universe_core.specs.declared.Predeclared.{Predeclared}
use Rattle.go_universe_core.specs.declared.Predeclared.TheVariants as universe
use Rattle.go_tree_nodes.specs.declared.types.TypeName.{TypeName}
use Rattle.go_term_core.specs.decl_core.declared.keys.DeclRef.{DeclRef}
use Rattle.go_term_core.specs.declared.term.MemberPlace.TheVariants as places
use Rattle.go_term_core.specs.Terms.{Term}
use Rattle.go_names_core.specs.block_core.declared.binding.Binding.{Binding}
use Rattle.go_names_core.specs.block_core.declared.binding.Target.{Target}
use Rattle.go_names_core.specs.block_core.declared.binding.Target.TheVariants as targets
use Rattle.go_names_core.specs.block_core.Blocks.{BlocksModel, file_binding}
use Rattle.go_names_core.specs.declared.meaning.Outside.{Outside}
use Rattle.go_names_core.specs.declared.meaning.Outside.TheVariants as outsides
use Rattle.go_body_core.specs.table_core.Entries.{Entry}
use Rattle.go_body_core.specs.typexpr_core.WrittenWritten as types
use Rattle.go_report_core.specs.operand_core.declared.types.ValueType.{ValueType}
use Rattle.go_report_core.specs.operand_core.declared.types.ValueType.TheVariants as value_types
use Rattle.go_report_core.specs.operand_core.declared.types.Operand.{Operand}
use Rattle.go_report_core.specs.denote_core.declared.things.Exported.TheVariants as exporteds
use Rattle.go_report_core.specs.handle_core.Declarations.{Declaration, Universe, OfError, Package, InFile}
use Rattle.go_emit_core.specs.declared_core.declared.face.Face.TheVariants as faces
use Rattle.go_emit_core.specs.declared_core.Faces.{TheFace}
use Rattle.go_emit_core.specs.declared_core.Packages.{PackageFacesModel, exported_in, face_in}
use Rattle.go_emit_core.specs.declared_core.Written.{WrittenOf, position_of}
use Rattle.go_body_core.specs.env_core.Scenes.{SceneModel}
use Rattle.go_body_core.specs.env_core.Found.{TheExported, TheFound, exported_shown, face_at, found_binding, found_exported, found_face, found_outside, found_target, found_universe}
use Rattle.go_snap_core.specs.near.Near.{IfAny, NearExported, NearFound, NearOperand, NearValue}
use Rattle.go_snap_core.specs.near.Tables.{IsNear, IsNearPackage, Nearby, near_rest}
use Rattle.go_snap_core.specs.near.Scenes.{ScenesAgree}
use Rattle.go_snap_core.specs.near.Functions.{StandsAgree}
use Rattle.go_snap_core.specs.whole_workspace.Known.{BindsInside, IsTargetIn}

-- all types are near, and some packages
module _ (Bound : List ℕ → Type 0) where
  abbrev pub near : Nearby
  near = record { types = λ k. ⊤; packages = Bound }

  type_near : (t : Option Term) → IfAny (IsNear near) t
  type_near None = tt
  type_near (Some t) = λ k c. tt

  value_near : (v : ValueType Term) → NearValue (IsNear near) v
  value_near (value_types.Typed t) = λ k c. tt
  value_near value_types.UntypedInt = tt
  value_near value_types.UntypedText = tt
  value_near value_types.UntypedBool = tt
  value_near value_types.Nil = tt

  operand_near : (o : Option (Operand Term)) → IfAny (NearOperand (IsNear near)) o
  operand_near None = tt
  operand_near (Some o) = value_near o.value_type

  abbrev IsFoundNear : TheFound → Type 0
  IsFoundNear f = NearFound (IsNear near) (near_rest near) f

  face_near : (d : Declaration) (o : Option TheFace) → IsFoundNear (found_face d o)
  face_near d None = tt
  face_near d (Some (faces.«Type» t)) = type_near t
  face_near d (Some (faces.Func g)) = λ k c. tt
  face_near d (Some (faces.«Value» o)) = operand_near o

  universe_near : (path : List ℕ) (p : Predeclared) → IsFoundNear (found_universe path p)
  universe_near path universe.Any = λ k c. tt
  universe_near path universe.Bool = λ k c. tt
  universe_near path universe.Error = λ k c. tt
  universe_near path universe.Int = λ k c. tt
  universe_near path universe.String = λ k c. tt
  universe_near path _ = tt

  shown_near : (e : TheExported) → NearExported (IsNear near) (near_rest near) e
  shown_near exporteds.Absent = tt
  shown_near exporteds.Hidden = tt
  shown_near (exporteds.«Type» d t) = type_near t
  shown_near (exporteds.Func d g) = λ k c. tt
  shown_near (exporteds.«Value» d o) = operand_near o

  -- two scenes of one package, whose files bind what is of these packages, where the same is known of them

  module _ (path : List ℕ) (b : BlocksModel) (es : List Entry) (ours theirs : List PackageFacesModel) (ws vs : List WrittenOf) (written : ws ≡ vs) (binds : BindsInside Bound b)
      (shown : (q name : List ℕ) → Bound q → exported_in ours q name ≡ exported_in theirs q name) (declared : (q : List ℕ) (d : DeclRef) → Bound q → face_in ours q d ≡ face_in theirs q d) where
    abbrev s : SceneModel
    s = record { path = path; blocks = b; types = es; others = ours; written = ws }

    abbrev t : SceneModel
    t = record { path = path; blocks = b; types = es; others = theirs; written = vs }

    exported_same : (d : Declaration) (name : List ℕ) → IsNearPackage near d → found_exported s d name ≡ found_exported t d name
    exported_same (Universe p) name h = refl
    exported_same OfError name h = refl
    exported_same (Package q) name h = ap (exported_shown q) (shown q name h)
    exported_same (InFile q place) name h = refl

    target_same : (x : Target) → IsTargetIn Bound x → found_target s x ≡ found_target t x
    target_same (targets.«Package» q) h = refl
    target_same (targets.Refused rule) h = refl
    target_same (targets.Exported k) h = ap (found_face (InFile k.path (places.Declared k.decl))) (declared k.path k.decl h)

    target_near : (x : Target) → IsTargetIn Bound x → IsFoundNear (found_target s x)
    target_near (targets.«Package» q) h = h
    target_near (targets.Refused rule) h = tt
    target_near (targets.Exported k) h = face_near (InFile k.path (places.Declared k.decl)) (face_in ours k.path k.decl)

    binding_same : (file : ℕ) (name : List ℕ) (o : Option Binding) → file_binding b file name ≡ o → found_binding s o ≡ found_binding t o
    binding_same file name None e = refl
    binding_same file name (Some x) e = target_same x.target (binds file name x e)

    binding_near : (file : ℕ) (name : List ℕ) (o : Option Binding) → file_binding b file name ≡ o → IsFoundNear (found_binding s o)
    binding_near file name None e = tt
    binding_near file name (Some x) e = target_near x.target (binds file name x e)

    outside_same : (file : ℕ) (known : List (Option TheFace)) (name : List ℕ) (x : Outside) → found_outside s file known name x ≡ found_outside t file known name x
    outside_same file known name (outsides.«Package» d) = λ j. found_face (InFile path (places.Declared d)) (face_at known (position_of (written j) d))
    outside_same file known name (outsides.File at) = binding_same file name (file_binding b file name) refl
    outside_same file known name (outsides.Universe p) = refl

    outside_near : (file : ℕ) (known : List (Option TheFace)) (name : List ℕ) (x : Outside) → IsFoundNear (found_outside s file known name x)
    outside_near file known name (outsides.«Package» d) = face_near (InFile path (places.Declared d)) (face_at known (position_of ws d))
    outside_near file known name (outsides.File at) = binding_near file name (file_binding b file name) refl
    outside_near file known name (outsides.Universe p) = universe_near path p

    scenes : ScenesAgree near s t
    scenes = record {
      path = refl;
      types = record { same = λ k h. refl; closed = λ k e h is j c. tt };
      exported = exported_same;
      exported_near = λ d name h. shown_near (found_exported s d name);
    }

    -- in a file where names of types mean the same
    pub stands : (file : types.InFile) (known : List (Option TheFace)) (top other : types.Meaning) → ((n : TypeName) → top n ≡ other n) → StandsAgree near file s t known known top other
    stands file known top other means = record {
      scenes = scenes;
      names = λ name. refl;
      outside = outside_same file.file known;
      outside_near = outside_near file.file known;
      meanings = means;
      meanings_near = λ n k c. tt;
    }
