-- What names stand for in a package mentions types of the packages that are led to, and is the same where the same is known of these.
use Rattle.std.proofs.Common.{◌≡◌, ◌++◌, ℕ, List, [], ◌∷◌, refl, sym, ap, subst, ◌∙◌}
use Rattle.std.specs.Prelude.{Option, Some, None, slice_index_or}
use Rattle.go_universe_core.specs.declared.Predeclared.{Predeclared}
use Rattle.go_universe_core.specs.declared.Predeclared.TheVariants as universe
use Rattle.go_term_core.specs.decl_core.declared.keys.DeclRef.{DeclRef}
use Rattle.go_names_core.specs.block_core.declared.binding.Binding.{Binding}
use Rattle.go_names_core.specs.block_core.declared.binding.Target.{Target}
use Rattle.go_names_core.specs.block_core.declared.binding.Target.TheVariants as targets
use Rattle.go_names_core.specs.block_core.Blocks.{file_binding}
use Rattle.go_names_core.specs.block_core.Tables.{in_block}
use Rattle.go_term_core.specs.declared.term.MemberPlace.TheVariants as places
use Rattle.go_term_core.specs.Terms.{Term}
use Rattle.go_report_core.specs.operand_core.declared.types.ValueType.{ValueType}
use Rattle.go_report_core.specs.operand_core.declared.types.ValueType.TheVariants as value_types
use Rattle.go_report_core.specs.operand_core.declared.types.Operand.{Operand}
use Rattle.go_report_core.specs.handle_core.Declarations.{Declaration, Universe, OfError, Package, InFile}
use Rattle.go_emit_core.specs.declared_core.declared.face.Face.TheVariants as faces
use Rattle.go_emit_core.specs.declared_core.Faces.{TheFace}
use Rattle.go_emit_core.specs.declared_core.Packages.{PackageFacesModel, exported_in, face_by, face_in, face_in_some, package_in, shown_in_some, shown_name}
use Rattle.go_emit_core.specs.declared_core.Written.{position_of}
use Rattle.go_names_core.specs.declared.meaning.Outside.{Outside}
use Rattle.go_names_core.specs.declared.meaning.Outside.TheVariants as outsides
use Rattle.go_body_core.specs.env_core.Scenes.{SceneModel}
use Rattle.go_body_core.specs.env_core.Found.{TheFound, TheExported, exported_face, exported_shown, face_at, found_binding, found_exported, found_face, found_outside, found_target, found_universe}
use Rattle.go_snap_core.specs.near.Near.{IfAny, NearValue, NearOperand, NearFound, NearExported}
use Rattle.go_snap_core.specs.near.Tables.{IsNear, IsNearPackage, near_rest}
use Rattle.go_snap_core.specs.whole_workspace.Known.{IsTargetIn, face_keys, value_type_keys}
use Rattle.go_snap_core.proofs.WholeWorkspaceNames.{AllInside, none_inside}
use Rattle.go_snap_core.proofs.WholeWorkspaceTypes.{near_of}

module _ (Inside : List ℕ → Type 0) where
  -- a face that mentions types of these packages alone
  abbrev pub IsFaceInside : TheFace → Type 0
  IsFaceInside f = AllInside Inside (face_keys f)

  abbrev pub IsAnyInside : Option TheFace → Type 0
  IsAnyInside o = IfAny IsFaceInside o

  abbrev Near : Term → Type 0
  Near t = IsNear (near_of Inside) t

  abbrev IsFoundNear : TheFound → Type 0
  IsFoundNear f = NearFound Near (near_rest (near_of Inside)) f

  abbrev IsExportedNear : TheExported → Type 0
  IsExportedNear e = NearExported Near (near_rest (near_of Inside)) e

  value_near : (v : ValueType Term) → AllInside Inside (value_type_keys v) → NearValue Near v
  value_near (value_types.Typed t) h = h
  value_near value_types.UntypedInt h = tt
  value_near value_types.UntypedText h = tt
  value_near value_types.UntypedBool h = tt
  value_near value_types.Nil h = tt

  type_near : (t : Option Term) → IsFaceInside (faces.«Type» t) → IfAny Near t
  type_near None h = tt
  type_near (Some t) h = h

  operand_near : (o : Option (Operand Term)) → IsFaceInside (faces.«Value» o) → IfAny (NearOperand Near) o
  operand_near None h = tt
  operand_near (Some o) h = value_near o.value_type h

  found_near : (d : Declaration) (o : Option TheFace) → IsAnyInside o → IsFoundNear (found_face d o)
  found_near d None h = tt
  found_near d (Some (faces.«Type» t)) h = type_near t h
  found_near d (Some (faces.Func g)) h = h
  found_near d (Some (faces.«Value» o)) h = operand_near o h

  exported_near : (d : Declaration) (o : Option TheFace) → IsAnyInside o → IsExportedNear (exported_face d o)
  exported_near d None h = tt
  exported_near d (Some (faces.«Type» t)) h = type_near t h
  exported_near d (Some (faces.Func g)) h = h
  exported_near d (Some (faces.«Value» o)) h = operand_near o h

  -- what other packages show

  module _ (others : List PackageFacesModel) (mentions : (path : List ℕ) (d : DeclRef) (f : TheFace) → Inside path → face_in others path d ≡ Some f → IsFaceInside f) where
    pub face_inside : (path : List ℕ) (d : DeclRef) (o : Option TheFace) → Inside path → face_in others path d ≡ o → IsAnyInside o
    face_inside path d None h e = tt
    face_inside path d (Some f) h e = mentions path d f h e

    named_near : (path : List ℕ) (q : PackageFacesModel) (o : Option (Option DeclRef)) → Inside path → package_in others path ≡ Some q → IsExportedNear (exported_shown path (shown_name q o))
    named_near path q None h e = tt
    named_near path q (Some None) h e = tt
    named_near path q (Some (Some d)) h e =
        exported_near (InFile path (places.Declared d)) (face_by q d)
        (subst IsAnyInside (ap (λ (o : Option PackageFacesModel). face_in_some o d) e) (face_inside path d (face_in others path d) h refl))

    package_near : (path name : List ℕ) (o : Option PackageFacesModel) → Inside path → package_in others path ≡ o → IsExportedNear (exported_shown path (shown_in_some o name))
    package_near path name None h e = tt
    package_near path name (Some q) h e = named_near path q (in_block q.names name) h e

    pub shown_near : (s : SceneModel) → s.others ≡ others → (d : Declaration) (name : List ℕ) → IsNearPackage (near_of Inside) d → IsExportedNear (found_exported s d name)
    shown_near s is (Universe p) name h = tt
    shown_near s is OfError name h = tt
    shown_near s is (Package path) name h =
        subst (λ (os : List PackageFacesModel). IsExportedNear (exported_shown path (exported_in os path name))) (sym is) (package_near path name (package_in others path) h refl)
    shown_near s is (InFile path place) name h = tt

    -- names of the package

    module _ (s : SceneModel) (is : s.others ≡ others) (binds : (file : ℕ) (name : List ℕ) (x : Binding) → file_binding s.blocks file name ≡ Some x → IsTargetIn Inside x.target) where
      target_near : (t : Target) → IsTargetIn Inside t → IsFoundNear (found_target s t)
      target_near (targets.«Package» path) h = h
      target_near (targets.Refused rule) h = tt
      target_near (targets.Exported k) h =
          found_near (InFile k.path (places.Declared k.decl)) (face_in s.others k.path k.decl)
          (subst (λ (os : List PackageFacesModel). IsAnyInside (face_in os k.path k.decl)) (sym is) (face_inside k.path k.decl (face_in others k.path k.decl) h refl))

      binding_near : (file : ℕ) (name : List ℕ) (o : Option Binding) → file_binding s.blocks file name ≡ o → IsFoundNear (found_binding s o)
      binding_near file name None e = tt
      binding_near file name (Some x) e = target_near x.target (binds file name x e)

      universe_near : (p : Predeclared) → IsFoundNear (found_universe s.path p)
      universe_near universe.Any = none_inside Inside
      universe_near universe.Bool = none_inside Inside
      universe_near universe.Error = none_inside Inside
      universe_near universe.Int = none_inside Inside
      universe_near universe.String = none_inside Inside
      universe_near _ = tt

      position_near : (known : List (Option TheFace)) → ((n : ℕ) → IsAnyInside (slice_index_or known n None)) → (o : Option ℕ) → IsAnyInside (face_at known o)
      position_near known h None = tt
      position_near known h (Some n) = h n

      pub outside_near : (file : ℕ) (known : List (Option TheFace)) → ((n : ℕ) → IsAnyInside (slice_index_or known n None)) → (name : List ℕ) (x : Outside) → IsFoundNear (found_outside s file known name x)
      outside_near file known h name (outsides.«Package» d) = found_near (InFile s.path (places.Declared d)) (face_at known (position_of s.written d)) (position_near known h (position_of s.written d))
      outside_near file known h name (outsides.File at) = binding_near file name (file_binding s.blocks file name) refl
      outside_near file known h name (outsides.Universe p) = universe_near p

  -- two scenes of one package

  module _ (s t : SceneModel) (path : s.path ≡ t.path) (blocks : s.blocks ≡ t.blocks) (written : s.written ≡ t.written)
      (shown : (q name : List ℕ) → Inside q → exported_in s.others q name ≡ exported_in t.others q name)
      (declared : (q : List ℕ) (d : DeclRef) → Inside q → face_in s.others q d ≡ face_in t.others q d)
      (binds : (file : ℕ) (name : List ℕ) (x : Binding) → file_binding s.blocks file name ≡ Some x → IsTargetIn Inside x.target) where
    pub exported_same : (d : Declaration) (name : List ℕ) → IsNearPackage (near_of Inside) d → found_exported s d name ≡ found_exported t d name
    exported_same (Universe p) name h = refl
    exported_same OfError name h = refl
    exported_same (Package q) name h = ap (exported_shown q) (shown q name h)
    exported_same (InFile q place) name h = refl

    target_same : (x : Target) → IsTargetIn Inside x → found_target s x ≡ found_target t x
    target_same (targets.«Package» q) h = refl
    target_same (targets.Refused rule) h = refl
    target_same (targets.Exported k) h = ap (found_face (InFile k.path (places.Declared k.decl))) (declared k.path k.decl h)

    binding_same : (file : ℕ) (name : List ℕ) (o : Option Binding) → file_binding s.blocks file name ≡ o → found_binding s o ≡ found_binding t o
    binding_same file name None e = refl
    binding_same file name (Some x) e = target_same x.target (binds file name x e)

    pub outside_same : (file : ℕ) (known : List (Option TheFace)) (name : List ℕ) (x : Outside) → found_outside s file known name x ≡ found_outside t file known name x
    outside_same file known name (outsides.«Package» d) = λ j. found_face (InFile (path j) (places.Declared d)) (face_at known (position_of (written j) d))
    outside_same file known name (outsides.File at) =
        binding_same file name (file_binding s.blocks file name) refl ∙ (λ j. found_binding t (file_binding (blocks j) file name))
    outside_same file known name (outsides.Universe p) = λ j. found_universe (path j) p
