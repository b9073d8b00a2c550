-- The look-ups in a file of a package are closed over the packages that its imports bind, and are the same where the same is known of these.
use Rattle.std.proofs.Common.{◌≡◌, ℕ, List, refl, ap}
use Rattle.std.specs.Prelude.{Option, Some, None, ⊤}
use Rattle.go_tree_nodes.specs.declared.types.TypeName.{TypeName}
use Rattle.go_universe_core.specs.declared.Predeclared.{Predeclared}
use Rattle.go_universe_core.specs.declared.Predeclared.TheVariants as universe
use Rattle.go_term_core.specs.decl_core.declared.keys.DeclKey.{DeclKey}
use Rattle.go_term_core.specs.decl_core.declared.keys.DeclRef.{DeclRef}
use Rattle.go_term_core.specs.declared.term.MemberPlace.TheVariants as places
use Rattle.go_term_core.specs.Terms.{Term}
use Rattle.go_names_core.specs.block_core.declared.binding.Binding.{Binding}
use Rattle.go_names_core.specs.block_core.declared.binding.Target.{Target}
use Rattle.go_names_core.specs.block_core.declared.binding.Target.TheVariants as targets
use Rattle.go_names_core.specs.block_core.Blocks.{BlocksModel, file_binding}
use Rattle.go_type_core.specs.table_core.Entries.{Entry}
use Rattle.go_cursor_core.specs.operand_core.declared.types.ValueType.{ValueType}
use Rattle.go_cursor_core.specs.operand_core.declared.types.ValueType.TheVariants as value_types
use Rattle.go_cursor_core.specs.operand_core.declared.types.Operand.{Operand}
use Rattle.go_candidate_core.specs.handle_core.Declarations.{Declaration, Universe, OfError, Package, InFile}
use Rattle.go_cursor_core.specs.denote_core.declared.things.Exported.TheVariants as exporteds
use Rattle.go_typexpr_core.specs.entry.Entries.{Meanings}
use Rattle.go_typexpr_core.specs.entry.Outlines.{FileOutline}
use Rattle.go_candidate_core.specs.declared_core.declared.face.Face.TheVariants as faces
use Rattle.go_candidate_core.specs.declared_core.Faces.{TheFace}
use Rattle.go_candidate_core.specs.declared_core.Here.{face_type, far_type}
use Rattle.go_candidate_core.specs.declared_core.Packages.{PackageFacesModel, exported_in, face_in}
use Rattle.go_candidate_core.specs.declared_core.Written.{WrittenOf, position_of, written_with}
use Rattle.go_names_core.specs.declared.meaning.Outside.{Outside}
use Rattle.go_names_core.specs.declared.meaning.Outside.TheVariants as outsides
use Rattle.go_names_core.specs.local_core.Binding.{NameLook}
use Rattle.go_names_core.specs.local_core.mirrors.Walk.{Names, look_in}
use Rattle.go_package_core.specs.env_core.declared.meaning.Meaning.{Meaning}
use Rattle.go_package_core.specs.env_core.declared.meaning.Meaning.TheVariants as meanings
use Rattle.go_package_core.specs.env_core.Scenes.{SceneModel}
use Rattle.go_package_core.specs.env_core.Found.{TheExported, TheFound, exported_shown, face_at, found_binding, found_exported, found_face, found_of, found_outside, found_target, found_universe}
use Rattle.go_package_core.specs.body_core.FunctionStands.{FileStand, outer_meanings, types_where}
use Rattle.go_package_core.specs.prepare.Packages.{outlines_in}
use Rattle.go_graph_core.specs.Packages.{trees_of}
use Rattle.go_package_core.specs.package_part.Inputs.{InputModel, IsInput, path_in}
use Rattle.go_package_core.specs.package_part.Parts.{package_seen, seen_by}
use Rattle.go_snap_core.specs.near.Near.{IfAny, NearExported, NearFound, NearOperand, NearValue}
use Rattle.go_snap_core.specs.near.Looks.{AreClosed, LooksAgree}
use Rattle.go_snap_core.specs.near.Tables.{IsNear, IsNearPackage, Nearby, near_rest}
use Rattle.go_snap_core.specs.near.Scenes.{NamesAgree, ScenesAgree, WrittenAgree}
use Rattle.go_snap_core.proofs.NearSeeing.{scene_closed, scenes_agree}
use Rattle.go_snap_core.specs.whole_workspace.Known.{BindsInside, IsImportedPath, IsTargetIn, KnownAlike}
use Rattle.go_snap_core.specs.whole_workspace.LocalLaws.{ImportsBindTheirs}
use Rattle.go_snap_core.proofs.WholeWorkspaceTold.{known_by}
use Rattle.go_complete_core.specs.views.Imported.{seen_by_imports, told_by_imports}
use Rattle.go_complete_core.specs.views.Laws.{BindsItsImports, ImportsDecide, looks_with, stand_seeing}
use Rattle.go_complete_core.proofs.ViewsMeaning.{meaning_same, meanings_same}
use Rattle.go_complete_core.proofs.ViewsEnough.{alike}
use Rattle.go_complete_core.proofs.ViewsDeciding.{context_same, rule_same}

-- all types are near, and some packages
module _ (Inside : List ℕ → Type 0) where
  abbrev near : Nearby
  near = record { types = λ k. ⊤; packages = Inside }

  type_near : (t : Option Term) → IfAny (IsNear near) t
  type_near None = tt
  type_near (Some t) = λ k c. tt

  value_near : (v : ValueType Term) → NearValue (IsNear near) v
  value_near (value_types.Typed t) = λ k c. tt
  value_near value_types.UntypedInt = tt
  value_near value_types.UntypedText = tt
  value_near value_types.UntypedBool = tt
  value_near value_types.Nil = tt

  operand_near : (o : Option (Operand Term)) → IfAny (NearOperand (IsNear near)) o
  operand_near None = tt
  operand_near (Some o) = value_near o.value_type

  abbrev IsFoundNear : TheFound → Type 0
  IsFoundNear f = NearFound (IsNear near) (near_rest near) f

  face_near : (d : Declaration) (o : Option TheFace) → IsFoundNear (found_face d o)
  face_near d None = tt
  face_near d (Some (faces.«Type» t)) = type_near t
  face_near d (Some (faces.Func g)) = λ k c. tt
  face_near d (Some (faces.«Value» o)) = operand_near o

  universe_near : (path : List ℕ) (p : Predeclared) → IsFoundNear (found_universe path p)
  universe_near path universe.Any = λ k c. tt
  universe_near path universe.Bool = λ k c. tt
  universe_near path universe.Error = λ k c. tt
  universe_near path universe.Int = λ k c. tt
  universe_near path universe.String = λ k c. tt
  universe_near path _ = tt

  shown_near : (e : TheExported) → NearExported (IsNear near) (near_rest near) e
  shown_near exporteds.Absent = tt
  shown_near exporteds.Hidden = tt
  shown_near (exporteds.«Type» d t) = type_near t
  shown_near (exporteds.Func d g) = λ k c. tt
  shown_near (exporteds.«Value» d o) = operand_near o

  -- two scenes of one package, whose imports bind what is theirs, where the same is known of these packages
  module _ (path : List ℕ) (b : BlocksModel) (types : List Entry) (ours theirs : List PackageFacesModel) (ws vs : List WrittenOf) (written : ws ≡ vs) (binds : BindsInside Inside b)
      (shown : (q name : List ℕ) → Inside q → exported_in ours q name ≡ exported_in theirs q name) (declared : (q : List ℕ) (d : DeclRef) → Inside q → face_in ours q d ≡ face_in theirs q d) where
    abbrev s : SceneModel
    s = record { path = path; blocks = b; types = types; others = ours; written = ws }

    abbrev t : SceneModel
    t = record { path = path; blocks = b; types = types; others = theirs; written = vs }

    exported_same : (d : Declaration) (name : List ℕ) → IsNearPackage near d → found_exported s d name ≡ found_exported t d name
    exported_same (Universe p) name h = refl
    exported_same OfError name h = refl
    exported_same (Package q) name h = ap (exported_shown q) (shown q name h)
    exported_same (InFile q place) name h = refl

    target_same : (x : Target) → IsTargetIn Inside x → found_target s x ≡ found_target t x
    target_same (targets.«Package» q) h = refl
    target_same (targets.Refused rule) h = refl
    target_same (targets.Exported k) h = ap (found_face (InFile k.path (places.Declared k.decl))) (declared k.path k.decl h)

    target_near : (x : Target) → IsTargetIn Inside x → IsFoundNear (found_target s x)
    target_near (targets.«Package» q) h = h
    target_near (targets.Refused rule) h = tt
    target_near (targets.Exported k) h = face_near (InFile k.path (places.Declared k.decl)) (face_in ours k.path k.decl)

    binding_same : (file : ℕ) (name : List ℕ) (o : Option Binding) → file_binding b file name ≡ o → found_binding s o ≡ found_binding t o
    binding_same file name None e = refl
    binding_same file name (Some x) e = target_same x.target (binds file name x e)

    binding_near : (file : ℕ) (name : List ℕ) (o : Option Binding) → file_binding b file name ≡ o → IsFoundNear (found_binding s o)
    binding_near file name None e = tt
    binding_near file name (Some x) e = target_near x.target (binds file name x e)

    outside_same : (file : ℕ) (known : List (Option TheFace)) (name : List ℕ) (x : Outside) → found_outside s file known name x ≡ found_outside t file known name x
    outside_same file known name (outsides.«Package» d) = λ j. found_face (InFile path (places.Declared d)) (face_at known (position_of (written j) d))
    outside_same file known name (outsides.File at) = binding_same file name (file_binding b file name) refl
    outside_same file known name (outsides.Universe p) = refl

    outside_near : (file : ℕ) (known : List (Option TheFace)) (name : List ℕ) (x : Outside) → IsFoundNear (found_outside s file known name x)
    outside_near file known name (outsides.«Package» d) = face_near (InFile path (places.Declared d)) (face_at known (position_of ws d))
    outside_near file known name (outsides.File at) = binding_near file name (file_binding b file name) refl
    outside_near file known name (outsides.Universe p) = universe_near path p

    found_same : (file : ℕ) (known : List (Option TheFace)) (name : List ℕ) (m : Option Meaning) → found_of s file known name m ≡ found_of t file known name m
    found_same file known name None = refl
    found_same file known name (Some (meanings.Outside x)) = outside_same file known name x
    found_same file known name (Some (meanings.Local at value)) = refl

    found_near : (file : ℕ) (known : List (Option TheFace)) (name : List ℕ) (m : Option Meaning) → IsFoundNear (found_of s file known name m)
    found_near file known name None = tt
    found_near file known name (Some (meanings.Outside x)) = outside_near file known name x
    found_near file known name (Some (meanings.Local at value)) = operand_near value

    pub scenes : ScenesAgree near s t
    scenes = record {
      path = refl;
      types = record { same = λ k h. refl; closed = λ k e h is j c. tt };
      exported = exported_same;
      exported_near = λ d name h. shown_near (found_exported s d name);
    }

    pub names : (file : ℕ) (known : List (Option TheFace)) (look : NameLook Meaning) → NamesAgree near s t file known known look look
    names file known look = record {
      same = λ name offset. found_same file known name (look name offset);
      are_near = λ name offset. found_near file known name (look name offset);
    }

-- a file of a package, where the same is known of the packages that its imports come to
module _ (i : InputModel) (b : BlocksModel) (types : List Entry) (known : List (Option TheFace)) (n : ℕ) (o : FileOutline) (locals : Names Meaning) (bind : ImportsBindTheirs) (well : IsInput i) (blocks : BindsItsImports i b) where
  abbrev Inside : List ℕ → Type 0
  Inside path = IsImportedPath i.imports path

  abbrev one : FileStand
  one = stand_seeing i b (seen_by_imports i) types known n o

  abbrev other : FileStand
  other = stand_seeing i b (seen_by i) types known n o

  abbrev look : NameLook Meaning
  look = look_in (outer_meanings one) locals

  binds : BindsInside Inside b
  binds = bind (trees_of i.source.1) i.imports b blocks

  seen : KnownAlike Inside (known_by (told_by_imports i)) (known_by i.reached)
  seen = alike i well

  abbrev outlines : List FileOutline
  outlines = outlines_in (package_seen i b (seen_by i))

  -- what the types mean there that the packages declare which its imports come to
  far_same : (k : DeclKey) → Inside k.path → far_type one.scene.others k ≡ far_type other.scene.others k
  far_same k h = ap face_type (seen.declared k.path k.decl h)

  written : one.scene.written ≡ other.scene.written
  written = ap (λ (ms : Meanings). written_with ms (path_in i) types outlines) (meanings_same Inside (path_in i) b binds (seen_by_imports i).shows (seen_by i).shows seen.shows outlines (far_type one.scene.others) (far_type other.scene.others) far_same)

  -- the same stand, where names of types mean this
  abbrev with_top : (TypeName → Term) → FileStand
  with_top top = record { scene = one.scene; known = known; file = one.file; top = top }

  tops : one.top ≡ other.top
  tops = λ j x. meaning_same Inside (path_in i) b binds (seen_by_imports i).shows (seen_by i).shows seen.shows outlines (far_type one.scene.others) (far_type other.scene.others) far_same n x j

  types_same : WrittenAgree (near Inside) (types_where one look) (types_where other look)
  types_same = record {
    type_of = λ named t j. (types_where (with_top (tops j)) look).type_of named t;
    faults_of = λ named t j. (types_where (with_top (tops j)) look).faults_of named t;
    are_near = λ named t. type_near Inside ((types_where one look).type_of named t);
  }

  abbrev Near : Term → Type 0
  Near t = IsNear (near Inside) t

  scenes_same : ScenesAgree (near Inside) one.scene other.scene
  scenes_same = scenes Inside (path_in i) b types one.scene.others other.scene.others one.scene.written other.scene.written written binds seen.faces seen.declared

  names_same : NamesAgree (near Inside) one.scene other.scene n known known look look
  names_same = names Inside (path_in i) b types one.scene.others other.scene.others one.scene.written other.scene.written written binds seen.faces seen.declared n known look

  pub closed : AreClosed Near (near_rest (near Inside)) (looks_with one locals)
  closed = scene_closed (near Inside) one.scene other.scene scenes_same n known known look look (types_where one look) (types_where other look) names_same types_same

  pub agree : LooksAgree Near (near_rest (near Inside)) (looks_with one locals) (looks_with other locals)
  agree = scenes_agree (near Inside) one.scene other.scene scenes_same n known known look look (types_where one look) (types_where other look) names_same types_same

-- the law

pub decided : ImportsBindTheirs → ImportsDecide
decided bind = record {
  contexts = λ i b types known n o locals s well blocks.
      context_same (Near i b types known n o locals bind well blocks) (near_rest (near (IsImportedPath i.imports))) (looks_with (stand_seeing i b (seen_by_imports i) types known n o) locals) (looks_with (stand_seeing i b (seen_by i) types known n o) locals)
      (closed i b types known n o locals bind well blocks) (agree i b types known n o locals bind well blocks) s;
  rules = λ i b types known n o locals s offset name well blocks.
      rule_same (Near i b types known n o locals bind well blocks) (near_rest (near (IsImportedPath i.imports))) (looks_with (stand_seeing i b (seen_by_imports i) types known n o) locals) (looks_with (stand_seeing i b (seen_by i) types known n o) locals)
      (closed i b types known n o locals bind well blocks) (agree i b types known n o locals bind well blocks) s offset name;
}
