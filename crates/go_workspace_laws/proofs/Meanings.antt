-- What names denote in the files of a package is declared in some packages alone, and mentions these alone, where its imports bind what is theirs.
use Rattle.std.proofs.Common.{◌≡◌, ℕ, List, refl, ap, subst}
use Rattle.std.specs.Prelude.{Option, Some, None, slice_index_or}
use Rattle.go_tree_nodes.specs.declared.types.TypeName.{TypeName}
use Rattle.go_tree_nodes.specs.declared.types.TypeName.TheVariants as type_names
use Rattle.go_universe_core.specs.declared.Predeclared.{Predeclared}
use Rattle.go_universe_core.specs.declared.Predeclared.TheVariants as universe
use Rattle.go_universe_core.specs.Universe.{found}
use Rattle.go_term_core.specs.decl_core.declared.places.DeclKind.{DeclKind}
use Rattle.go_term_core.specs.decl_core.declared.places.DeclKind.TheVariants as kinds
use Rattle.go_term_core.specs.decl_core.declared.keys.DeclKey.{DeclKey}
use Rattle.go_term_core.specs.decl_core.declared.keys.DeclRef.{DeclRef}
use Rattle.go_term_core.specs.declared.term.MemberPlace.TheVariants as places
use Rattle.go_names_core.specs.block_core.declared.binding.Binding.{Binding}
use Rattle.go_names_core.specs.block_core.declared.binding.Target.{Target}
use Rattle.go_names_core.specs.block_core.declared.binding.Target.TheVariants as targets
use Rattle.go_names_core.specs.block_core.Blocks.{BlocksModel, file_binding}
use Rattle.go_names_core.specs.block_core.Tables.{in_block}
use Rattle.go_body_core.specs.typexpr_core.EntryMeanings.{Shown, named_meaning, outside_meaning, plain_meaning, qualified_meaning, shown_type, type_in_binding, type_in_target, type_of_kind, type_of_predeclared, type_of_target, type_of_universe}
use Rattle.govisd_resolve.specs.handle_core.Declarations.{Declaration, Universe, OfError, Package, InFile}
use Rattle.go_emit_core.specs.declared_core.declared.face.Face.TheVariants as faces
use Rattle.go_emit_core.specs.declared_core.Faces.{TheFace}
use Rattle.go_emit_core.specs.declared_core.Packages.{PackageFacesModel, face_by, face_in, face_in_some, package_in, shown_in_some, shown_name}
use Rattle.go_emit_core.specs.declared_core.Written.{position_of}
use Rattle.go_names_core.specs.declared.meaning.Outside.{Outside}
use Rattle.go_names_core.specs.declared.meaning.Outside.TheVariants as outsides
use Rattle.go_body_core.specs.env_core.Scenes.{SceneModel}
use Rattle.go_body_core.specs.env_core.Found.{TheExported, TheFound, exported_face, exported_shown, face_at, found_binding, found_exported, found_face, found_outside, found_target, found_universe}
use Rattle.go_snap_core.specs.near.Near.{IfAny, NearExported, NearFound, NearOperand}
use Rattle.go_snap_core.specs.whole_workspace.Known.{IsTargetIn}
use Rattle.go_workspace_laws.proofs.Terms.{IsSignIn, IsTermIn}
use Rattle.go_workspace_laws.proofs.Answers.{IsDeclIn, IsExportedKept, IsFoundKept}
use Rattle.go_workspace_laws.proofs.Functions.{IsPackageIn, Near, Rest}
use Rattle.go_names_core.specs.block_core.Bindings.{key_of}

module _ (Inside : List ℕ → Type 0) where
  -- what a declaration is mentions these packages alone
  abbrev pub IsFaceIn : TheFace → Type 0
  IsFaceIn (faces.«Type» t) = IfAny (IsTermIn Inside) t
  IsFaceIn (faces.Func g) = IsSignIn Inside g
  IsFaceIn (faces.«Value» o) = IfAny (NearOperand (IsTermIn Inside)) o

  abbrev pub IsAnyIn : Option TheFace → Type 0
  IsAnyIn o = IfAny IsFaceIn o

  -- names of types

  kind_in : (k : DeclKey) (kind : DeclKind) → Inside k.path → IsTermIn Inside (type_of_kind k kind)
  kind_in k kinds.«Type» h = h
  kind_in k _ h = tt

  predeclared_in : (path : List ℕ) (p : Predeclared) → Inside path → IsTermIn Inside (type_of_predeclared path p)
  predeclared_in path universe.Any h = (h, tt)
  predeclared_in path universe.Bool h = tt
  predeclared_in path universe.Error h = tt
  predeclared_in path universe.Int h = tt
  predeclared_in path universe.String h = tt
  predeclared_in path _ h = tt

  universe_in : (path : List ℕ) (o : Option Predeclared) → Inside path → IsTermIn Inside (type_of_universe path o)
  universe_in path None h = tt
  universe_in path (Some p) h = predeclared_in path p h

  target_in : (t : Target) → IsTargetIn Inside t → IsTermIn Inside (type_of_target t)
  target_in (targets.«Package» q) h = tt
  target_in (targets.Refused rule) h = tt
  target_in (targets.Exported k) h = kind_in k k.decl.kind h

  shown_type_in : (q : List ℕ) (o : Option DeclRef) → Inside q → IsTermIn Inside (shown_type q o)
  shown_type_in q None h = tt
  shown_type_in q (Some d) h = kind_in (key_of q d) d.kind h

  in_target_in : (shows : Shown) (name : List ℕ) (t : Target) → IsTargetIn Inside t → IsTermIn Inside (type_in_target shows name t)
  in_target_in shows name (targets.«Package» q) h = shown_type_in q (shows q name) h
  in_target_in shows name (targets.Refused rule) h = tt
  in_target_in shows name (targets.Exported k) h = tt

  module _ (path : List ℕ) (b : BlocksModel) (own : Inside path) (binds : (file : ℕ) (name : List ℕ) (x : Binding) → file_binding b file name ≡ Some x → IsTargetIn Inside x.target) where
    outer_type_in : (file : ℕ) (name : List ℕ) (o : Option Binding) → file_binding b file name ≡ o → IsTermIn Inside (outside_meaning path name o)
    outer_type_in file name None e = universe_in path (found name) own
    outer_type_in file name (Some x) e = target_in x.target (binds file name x e)

    plain_in : (file : ℕ) (name : List ℕ) (o : Option DeclRef) → IsTermIn Inside (plain_meaning path b file name o)
    plain_in file name None = outer_type_in file name (file_binding b file name) refl
    plain_in file name (Some d) = kind_in (key_of path d) d.kind own

    binding_in : (shows : Shown) (file : ℕ) (q name : List ℕ) (o : Option Binding) → file_binding b file q ≡ o → IsTermIn Inside (type_in_binding shows name o)
    binding_in shows file q name None e = tt
    binding_in shows file q name (Some x) e = in_target_in shows name x.target (binds file q x e)

    qualified_in : (shows : Shown) (file : ℕ) (q name : List ℕ) (o : Option DeclRef) → IsTermIn Inside (qualified_meaning shows b file q name o)
    qualified_in shows file q name None = binding_in shows file q name (file_binding b file q) refl
    qualified_in shows file q name (Some d) = tt

    pub named_in : (shows : Shown) (file : ℕ) (n : TypeName) → IsTermIn Inside (named_meaning shows path b file n)
    named_in shows file (type_names.Plain x) = plain_in file x.name (in_block b.names x.name)
    named_in shows file (type_names.Qualified q dot x) = qualified_in shows file q.name x.name (in_block b.names q.name)

  -- what names stand for

  abbrev IsFoundIn : TheFound → Type 0
  IsFoundIn f = NearFound (Near Inside) (Rest Inside) f × IsFoundKept Inside f

  abbrev IsExportedIn : TheExported → Type 0
  IsExportedIn e = NearExported (Near Inside) (Rest Inside) e × IsExportedKept Inside e

  face_found_in : (d : Declaration) (o : Option TheFace) → IsDeclIn Inside d → IsAnyIn o → IsFoundIn (found_face d o)
  face_found_in d None own h = (tt, own)
  face_found_in d (Some (faces.«Type» t)) own h = (h, own)
  face_found_in d (Some (faces.Func g)) own h = (h, own)
  face_found_in d (Some (faces.«Value» o)) own h = (h, own)

  face_exported_in : (d : Declaration) (o : Option TheFace) → IsDeclIn Inside d → IsAnyIn o → IsExportedIn (exported_face d o)
  face_exported_in d None own h = (tt, own)
  face_exported_in d (Some (faces.«Type» t)) own h = (h, own)
  face_exported_in d (Some (faces.Func g)) own h = (h, own)
  face_exported_in d (Some (faces.«Value» o)) own h = (h, own)

  -- what other packages show

  module _ (s : SceneModel) (mentions : (path : List ℕ) (d : DeclRef) (f : TheFace) → Inside path → face_in s.others path d ≡ Some f → IsFaceIn f) where
    other_face_in : (path : List ℕ) (d : DeclRef) (o : Option TheFace) → Inside path → face_in s.others path d ≡ o → IsAnyIn o
    other_face_in path d None h e = tt
    other_face_in path d (Some f) h e = mentions path d f h e

    name_in : (path : List ℕ) (q : PackageFacesModel) (o : Option (Option DeclRef)) → Inside path → package_in s.others path ≡ Some q → IsExportedIn (exported_shown path (shown_name q o))
    name_in path q None h e = (tt, tt)
    name_in path q (Some None) h e = (tt, tt)
    name_in path q (Some (Some d)) h e =
        face_exported_in (InFile path (places.Declared d)) (face_by q d) h
        (subst IsAnyIn (ap (λ (o : Option PackageFacesModel). face_in_some o d) e) (other_face_in path d (face_in s.others path d) h refl))

    package_shown_in : (path name : List ℕ) (o : Option PackageFacesModel) → Inside path → package_in s.others path ≡ o → IsExportedIn (exported_shown path (shown_in_some o name))
    package_shown_in path name None h e = (tt, tt)
    package_shown_in path name (Some q) h e = name_in path q (in_block q.names name) h e

    pub behind_dot_in : (d : Declaration) (name : List ℕ) → IsPackageIn Inside d → IsExportedIn (found_exported s d name)
    behind_dot_in (Universe p) name h = (tt, tt)
    behind_dot_in OfError name h = (tt, tt)
    behind_dot_in (Package path) name h = package_shown_in path name (package_in s.others path) h refl
    behind_dot_in (InFile path place) name h = (tt, tt)

    -- names of the package

    module _ (own : Inside s.path) (binds : (file : ℕ) (name : List ℕ) (x : Binding) → file_binding s.blocks file name ≡ Some x → IsTargetIn Inside x.target) where
      target_found_in : (t : Target) → IsTargetIn Inside t → IsFoundIn (found_target s t)
      target_found_in (targets.«Package» path) h = (h, h)
      target_found_in (targets.Refused rule) h = (tt, tt)
      target_found_in (targets.Exported k) h = face_found_in (InFile k.path (places.Declared k.decl)) (face_in s.others k.path k.decl) h (other_face_in k.path k.decl (face_in s.others k.path k.decl) h refl)

      binding_found_in : (file : ℕ) (name : List ℕ) (o : Option Binding) → file_binding s.blocks file name ≡ o → IsFoundIn (found_binding s o)
      binding_found_in file name None e = (tt, tt)
      binding_found_in file name (Some x) e = target_found_in x.target (binds file name x e)

      universe_found_in : (p : Predeclared) → IsFoundIn (found_universe s.path p)
      universe_found_in universe.Any = ((own, tt), tt)
      universe_found_in universe.Bool = (tt, tt)
      universe_found_in universe.Error = (tt, tt)
      universe_found_in universe.Int = (tt, tt)
      universe_found_in universe.String = (tt, tt)
      universe_found_in universe.True = (tt, tt)
      universe_found_in universe.False = (tt, tt)
      universe_found_in universe.Nil = (tt, tt)
      universe_found_in universe.Len = (tt, tt)
      universe_found_in universe.Panic = (tt, tt)
      universe_found_in universe.Print = (tt, tt)
      universe_found_in universe.Println = (tt, tt)
      universe_found_in _ = (tt, tt)

      position_in : (known : List (Option TheFace)) → ((n : ℕ) → IsAnyIn (slice_index_or known n None)) → (o : Option ℕ) → IsAnyIn (face_at known o)
      position_in known h None = tt
      position_in known h (Some n) = h n

      pub outside_in : (file : ℕ) (known : List (Option TheFace)) → ((n : ℕ) → IsAnyIn (slice_index_or known n None)) → (name : List ℕ) (x : Outside) → IsFoundIn (found_outside s file known name x)
      outside_in file known h name (outsides.«Package» d) = face_found_in (InFile s.path (places.Declared d)) (face_at known (position_of s.written d)) own (position_in known h (position_of s.written d))
      outside_in file known h name (outsides.File at) = binding_found_in file name (file_binding s.blocks file name) refl
      outside_in file known h name (outsides.Universe p) = universe_found_in p
