-- What names mean in the files of a package is there, and mentions what is there, where its blocks bind what is.
use Rattle.std.proofs.Common.{◌≡◌, ℕ, Bool, true, List, [], refl, sym, ap, subst}
use Rattle.std.specs.Prelude.{Option, Some, None, ⊤, codes, slice_index_or}
use Rattle.go_tree_nodes.specs.declared.types.TypeName.{TypeName}
use Rattle.go_tree_nodes.specs.declared.types.TypeName.TheVariants as type_names
use Rattle.go_universe_core.specs.declared.Predeclared.{Predeclared}
use Rattle.go_universe_core.specs.declared.Predeclared.TheVariants as universe
use Rattle.go_universe_core.specs.Universe.{found, spelling_of}
use Rattle.go_universe_core.proofs.Spellings.{found_is_spelled}
use Rattle.go_term_core.specs.decl_core.declared.places.DeclKind.{DeclKind}
use Rattle.go_term_core.specs.decl_core.declared.places.DeclKind.TheVariants as kinds
use Rattle.go_term_core.specs.decl_core.declared.keys.DeclKey.{DeclKey}
use Rattle.go_term_core.specs.decl_core.declared.keys.DeclRef.{DeclRef}
use Rattle.go_term_core.specs.decl_core.Outer.{Outer}
use Rattle.go_graph_core.specs.Workspaces.{PackageModel}
use Rattle.go_term_core.specs.declared.term.MemberPlace.{MemberPlace}
use Rattle.go_term_core.specs.declared.term.MemberPlace.TheVariants as places
use Rattle.go_names_core.specs.block_core.declared.binding.Binding.{Binding}
use Rattle.go_names_core.specs.block_core.declared.binding.Target.{Target}
use Rattle.go_names_core.specs.block_core.declared.binding.Target.TheVariants as targets
use Rattle.go_names_core.specs.block_core.Blocks.{BlocksModel, file_binding}
use Rattle.go_names_core.specs.block_core.Bindings.{key_of}
use Rattle.go_names_core.specs.block_core.Tables.{in_block}
use Rattle.go_names_core.specs.scope_core.Models.{ScopesModel, scopes_model}
use Rattle.go_names_core.specs.scope_core.Scopes.{Denoted}
use Rattle.go_names_core.specs.scope_core.Lookups.{by_parts, in_scope}
use Rattle.go_names_core.specs.Scope.{beyond_in, some_meaning}
use Rattle.go_typexpr_core.specs.entry.Meanings.{Shown, named_meaning, outside_meaning, plain_meaning, qualified_meaning, shown_type, type_in_binding, type_in_target, type_of_kind, type_of_predeclared, type_of_target, type_of_universe}
use Rattle.go_site_core.specs.handle_core.Declarations.{Declaration, Universe, OfError, Package, InFile}
use Rattle.go_value_core.specs.table_core.Entries.{Entry}
use Rattle.go_query_core.specs.declared_core.declared.face.Face.TheVariants as faces
use Rattle.go_query_core.specs.declared_core.Faces.{TheFace}
use Rattle.go_query_core.specs.declared_core.Packages.{PackageFacesModel, face_by, face_in, face_in_some, package_in, shown_in_some, shown_name}
use Rattle.go_query_core.specs.declared_core.Written.{position_of}
use Rattle.go_value_core.specs.env_core.declared.meaning.Meaning.{Meaning}
use Rattle.go_value_core.specs.env_core.declared.meaning.Meaning.TheVariants as meanings
use Rattle.go_value_core.specs.env_core.Scenes.{SceneModel}
use Rattle.go_value_core.specs.env_core.Found.{TheExported, TheFound, exported_face, exported_shown, face_at, found_binding, found_exported, found_face, found_of, found_target, found_universe}
use Rattle.go_query_core.specs.body_core.FunctionStands.{FileStand, outer_meanings}
use Rattle.go_query_core.specs.snap_core.NearNear.{IfAny, NearExported, NearFound, NearOperand}
use Rattle.go_answer_laws.specs.declarations.Found.{FilePlace, IsPackageNamed}
use Rattle.go_answer_laws.proofs.DeclarationsTerms.{IsPlacedIn, IsSignIn, IsTermIn}
use Rattle.go_answer_laws.proofs.DeclarationsTables.{AreEntriesIn}
use Rattle.go_answer_laws.proofs.DeclarationsAnswers.{IsExportedKept, IsFoundKept}
use Rattle.go_answer_laws.proofs.DeclarationsFunctions.{IsFoundThere, IsStandIn, Near, NearMeaning, Rest, Stands}
use Rattle.go_answer_laws.proofs.DeclarationsBlocks.{IsTargetThere}
use Rattle.go_answer_laws.proofs.DeclarationsPlacing.{IsGlobal}
use Rattle.go_answer_laws.proofs.DeclarationsWider.{IsAnyIn, IsFaceIn, any_wider, entries_wider}

-- names of types denote declared types, or predeclared ones, none of which has a field or a method of its own
module _ (In : List ℕ → List ℕ → MemberPlace → Type 0) where
  kind_in : (k : DeclKey) (kind : DeclKind) → IsTermIn In (type_of_kind k kind)
  kind_in k kinds.«Type» = tt
  kind_in k _ = tt

  predeclared_in : (path : List ℕ) (p : Predeclared) → IsTermIn In (type_of_predeclared path p)
  predeclared_in path universe.Any = tt
  predeclared_in path universe.Bool = tt
  predeclared_in path universe.Error = tt
  predeclared_in path universe.Int = tt
  predeclared_in path universe.String = tt
  predeclared_in path _ = tt

  universe_in : (path : List ℕ) (o : Option Predeclared) → IsTermIn In (type_of_universe path o)
  universe_in path None = tt
  universe_in path (Some p) = predeclared_in path p

  target_in : (t : Target) → IsTermIn In (type_of_target t)
  target_in (targets.«Package» q) = tt
  target_in (targets.Refused rule) = tt
  target_in (targets.Exported k) = kind_in k k.decl.kind

  shown_type_in : (q : List ℕ) (o : Option DeclRef) → IsTermIn In (shown_type q o)
  shown_type_in q None = tt
  shown_type_in q (Some d) = kind_in (key_of q d) d.kind

  in_target_in : (shows : Shown) (name : List ℕ) (t : Target) → IsTermIn In (type_in_target shows name t)
  in_target_in shows name (targets.«Package» q) = shown_type_in q (shows q name)
  in_target_in shows name (targets.Refused rule) = tt
  in_target_in shows name (targets.Exported k) = tt

  outer_type_in : (path name : List ℕ) (o : Option Binding) → IsTermIn In (outside_meaning path name o)
  outer_type_in path name None = universe_in path (found name)
  outer_type_in path name (Some x) = target_in x.target

  plain_in : (path : List ℕ) (b : BlocksModel) (file : ℕ) (name : List ℕ) (o : Option DeclRef) → IsTermIn In (plain_meaning path b file name o)
  plain_in path b file name None = outer_type_in path name (file_binding b file name)
  plain_in path b file name (Some d) = kind_in (key_of path d) d.kind

  binding_in : (shows : Shown) (name : List ℕ) (o : Option Binding) → IsTermIn In (type_in_binding shows name o)
  binding_in shows name None = tt
  binding_in shows name (Some x) = in_target_in shows name x.target

  qualified_in : (shows : Shown) (b : BlocksModel) (file : ℕ) (q name : List ℕ) (o : Option DeclRef) → IsTermIn In (qualified_meaning shows b file q name o)
  qualified_in shows b file q name None = binding_in shows name (file_binding b file q)
  qualified_in shows b file q name (Some d) = tt

  pub named_in : (shows : Shown) (path : List ℕ) (b : BlocksModel) (file : ℕ) (n : TypeName) → IsTermIn In (named_meaning shows path b file n)
  named_in shows path b file (type_names.Plain x) = plain_in path b file x.name (in_block b.names x.name)
  named_in shows path b file (type_names.Qualified q dot x) = qualified_in shows b file q.name x.name (in_block b.names q.name)

-- the names of a file, each with what is there under it outside functions

pub record AreNamesOf (ps : List PackageModel) (at : FilePlace) (Named : List ℕ → Declaration → Type 0) : Type 0 where
  pub global : (home name : List ℕ) (place : MemberPlace) → IsGlobal ps home name place → Named name (InFile home place)
  pub of_package : (name path : List ℕ) → IsPackageNamed ps at name path → Named name (Package path)
  pub predeclared : (name : List ℕ) (p : Predeclared) → spelling_of p ≡ name → Named name (Universe p)
  pub error : (name : List ℕ) → name ≡ codes "Error" → Named name OfError

-- what is known of a package where a file of it is checked
pub record IsKnownThere (ps : List PackageModel) (at : FilePlace) (s : SceneModel) (known : List (Option TheFace)) : Type 0 where
  pub table : AreEntriesIn (IsGlobal ps) s.types
  pub names : (name : List ℕ) (d : DeclRef) → in_block s.blocks.names name ≡ Some d → IsGlobal ps s.path name (places.Declared d)
  pub binds : (name : List ℕ) (x : Binding) → file_binding s.blocks at.file name ≡ Some x → IsTargetThere ps at name x.target
  pub faces : (path : List ℕ) (d : DeclRef) (f : TheFace) → face_in s.others path d ≡ Some f → IsFaceIn (IsGlobal ps) f
  pub shown : (path : List ℕ) (q : PackageFacesModel) (name : List ℕ) (d : DeclRef) → package_in s.others path ≡ Some q → in_block q.names name ≡ Some (Some d) → IsGlobal ps path name (places.Declared d)
  pub own : (n : ℕ) → IsAnyIn (IsGlobal ps) (slice_index_or known n None)

module _ (ps : List PackageModel) (at : FilePlace) (IsNamed : List ℕ → Declaration → Type 0) (names : AreNamesOf ps at IsNamed) (s : SceneModel) (known : List (Option TheFace)) (law : IsKnownThere ps at s known) where
  abbrev Seen : List ℕ → List ℕ → MemberPlace → Type 0
  Seen = Stands IsNamed

  abbrev IsExportedThere : List ℕ → TheExported → Type 0
  IsExportedThere name e = NearExported (Near IsNamed) (Rest IsNamed) e × IsExportedKept (IsNamed name) e

  wide : (o : Option TheFace) → IsAnyIn (IsGlobal ps) o → IsAnyIn Seen o
  wide o h = any_wider (IsGlobal ps) Seen names.global o h

  face_found_in : (name : List ℕ) (d : Declaration) (o : Option TheFace) → IsNamed name d → IsAnyIn Seen o → IsFoundThere IsNamed name (found_face d o)
  face_found_in name d None own h = (tt, own)
  face_found_in name d (Some (faces.«Type» t)) own h = (h, own)
  face_found_in name d (Some (faces.Func g)) own h = (h, own)
  face_found_in name d (Some (faces.«Value» o)) own h = (h, own)

  face_exported_in : (name : List ℕ) (d : Declaration) (o : Option TheFace) → IsNamed name d → IsAnyIn Seen o → IsExportedThere name (exported_face d o)
  face_exported_in name d None own h = (tt, own)
  face_exported_in name d (Some (faces.«Type» t)) own h = (h, own)
  face_exported_in name d (Some (faces.Func g)) own h = (h, own)
  face_exported_in name d (Some (faces.«Value» o)) own h = (h, own)

  -- what other packages show

  other_face_in : (path : List ℕ) (d : DeclRef) (o : Option TheFace) → face_in s.others path d ≡ o → IsAnyIn Seen o
  other_face_in path d None e = tt
  other_face_in path d (Some f) e = wide (Some f) (law.faces path d f e)

  name_in : (path name : List ℕ) (q : PackageFacesModel) (o : Option (Option DeclRef)) → package_in s.others path ≡ Some q → in_block q.names name ≡ o → IsExportedThere name (exported_shown path (shown_name q o))
  name_in path name q None e k = (tt, tt)
  name_in path name q (Some None) e k = (tt, tt)
  name_in path name q (Some (Some d)) e k =
      face_exported_in name (InFile path (places.Declared d)) (face_by q d) (names.global path name (places.Declared d) (law.shown path q name d e k))
      (subst (IsAnyIn Seen) (ap (λ (o : Option PackageFacesModel). face_in_some o d) e) (other_face_in path d (face_in s.others path d) refl))

  package_shown_in : (path name : List ℕ) (o : Option PackageFacesModel) → package_in s.others path ≡ o → IsExportedThere name (exported_shown path (shown_in_some o name))
  package_shown_in path name None e = (tt, tt)
  package_shown_in path name (Some q) e = name_in path name q (in_block q.names name) e refl

  pub behind_dot_in : (d : Declaration) (name : List ℕ) → IsExportedThere name (found_exported s d name)
  behind_dot_in (Universe p) name = (tt, tt)
  behind_dot_in OfError name = (tt, tt)
  behind_dot_in (Package path) name = package_shown_in path name (package_in s.others path) refl
  behind_dot_in (InFile path place) name = (tt, tt)

  -- names of the file

  target_found_in : (name : List ℕ) (t : Target) → IsTargetThere ps at name t → IsFoundThere IsNamed name (found_target s t)
  target_found_in name (targets.«Package» path) h = (tt, names.of_package name path h)
  target_found_in name (targets.Refused rule) h = (tt, tt)
  target_found_in name (targets.Exported k) h =
      face_found_in name (InFile k.path (places.Declared k.decl)) (face_in s.others k.path k.decl) (names.global k.path name (places.Declared k.decl) h) (other_face_in k.path k.decl (face_in s.others k.path k.decl) refl)

  universe_found_in : (name : List ℕ) (p : Predeclared) → IsNamed name (Universe p) → IsFoundThere IsNamed name (found_universe s.path p)
  universe_found_in name universe.Any h = (tt, h)
  universe_found_in name universe.Bool h = (tt, h)
  universe_found_in name universe.Error h = (tt, h)
  universe_found_in name universe.Int h = (tt, h)
  universe_found_in name universe.String h = (tt, h)
  universe_found_in name universe.True h = (tt, h)
  universe_found_in name universe.False h = (tt, h)
  universe_found_in name universe.Nil h = (tt, h)
  universe_found_in name universe.Len h = (tt, h)
  universe_found_in name universe.Panic h = (tt, h)
  universe_found_in name universe.Print h = (tt, h)
  universe_found_in name universe.Println h = (tt, h)
  universe_found_in name _ h = (tt, tt)

  position_in : (o : Option ℕ) → IsAnyIn (IsGlobal ps) (face_at known o)
  position_in None = tt
  position_in (Some n) = law.own n

  abbrev Means : List ℕ → Meaning → Type 0
  Means name m = IsFoundThere IsNamed name (found_of s at.file known name (Some m))

  -- by what the parts of the scope have
  parts_in : (name : List ℕ) (f : Option Binding) (d : Option DeclRef) (u : Option Predeclared) → file_binding s.blocks at.file name ≡ f → in_block s.blocks.names name ≡ d → found name ≡ u
      → IfAny (Means name) (some_meaning meanings.Outside [] (by_parts None f d u))
  parts_in name (Some x) d u e k l = subst (λ o. IsFoundThere IsNamed name (found_binding s o)) (sym e) (target_found_in name x.target (law.binds name x e))
  parts_in name None (Some d) u e k l =
      face_found_in name (InFile s.path (places.Declared d)) (face_at known (position_of s.written d)) (names.global s.path name (places.Declared d) (law.names name d k))
      (wide (face_at known (position_of s.written d)) (position_in (position_of s.written d)))
  parts_in name None None (Some p) e k l = universe_found_in name p (names.predeclared name p (sym (found_is_spelled name p l)))
  parts_in name None None None e k l = tt

  pub outer_in : (name : List ℕ) → IfAny (Means name) (beyond_in meanings.Outside s.blocks at.file name)
  outer_in name =
      subst (λ (o : Option Denoted). IfAny (Means name) (some_meaning meanings.Outside [] o)) (sym (in_scope (scopes_model s.blocks at.file []) name))
      (parts_in name (file_binding s.blocks at.file name) (in_block s.blocks.names name) (found name) refl refl refl)

  -- where the file is checked
  pub stand_in : (st : FileStand) (good : Outer → Bool) → st.scene ≡ s → st.known ≡ known → st.file.file ≡ at.file → ((n : TypeName) → Near IsNamed (st.top n)) → ((o : Outer) → good o ≡ true → IsPlacedIn Seen st.file o) → IsStandIn IsNamed st good
  stand_in st good scene faces file top sound = record {
    table = subst (λ (q : SceneModel). AreEntriesIn Seen q.types) (sym scene) (entries_wider (IsGlobal ps) Seen names.global s.types law.table);
    exported = λ d name. subst (λ (q : SceneModel). IsExportedThere name (found_exported q d name)) (sym scene) (behind_dot_in d name);
    outer = λ name. outer_at name;
    meanings = top;
    sound = sound;
  }
    where
      outer_at : (name : List ℕ) → IfAny (NearMeaning IsNamed st name) (outer_meanings st name)
      outer_at name =
          subst (λ (q : SceneModel). IfAny (λ m. IsFoundThere IsNamed name (found_of q st.file.file st.known name (Some m))) (beyond_in meanings.Outside q.blocks st.file.file name)) (sym scene)
          (subst (λ n. IfAny (λ m. IsFoundThere IsNamed name (found_of s n st.known name (Some m))) (beyond_in meanings.Outside s.blocks n name)) (sym file)
          (subst (λ k. IfAny (λ m. IsFoundThere IsNamed name (found_of s at.file k name (Some m))) (beyond_in meanings.Outside s.blocks at.file name)) (sym faces) (outer_in name)))
