-- The laws of what a place sees.
use Rattle.std.proofs.Common.{◌≡◌, inl, inr, ℕ, Bool, true, false, List, [], ◌∷◌, ◌++◌, Option, Some, None, if◌then◌else◌, refl, sym, ap, ◌∙◌}
use Rattle.std.specs.List.{flat_map}
use Rattle.go_universe_core.specs.declared.Predeclared.{Predeclared as PredeclaredName}
use Rattle.go_universe_core.specs.Universe.{found}
use Rattle.go_term_core.specs.decl_core.declared.keys.DeclRef.{DeclRef}
use Rattle.go_declared_core.specs.block_core.declared.binding.Binding.{Binding}
use Rattle.go_declared_core.specs.block_core.declared.binding.Target.{Target}
use Rattle.go_declared_core.specs.block_core.declared.binding.Target.TheVariants as targets
use Rattle.go_declared_core.specs.block_core.Blocks.{BlocksModel, file_binding}
use Rattle.go_expr_core.specs.scope_stack.declared.DeclId.{DeclId}
use Rattle.go_expr_core.specs.scope_stack.Blocks.{in_block, found_in}
use Rattle.go_expr_core.specs.scope_stack.Innermost.{found_innermost, innermost_found, found_none, none_found}
use Rattle.go_inline_core.specs.scope_core.Models.{ScopesModel}
use Rattle.go_inline_core.specs.scope_core.Scopes as scopes
use Rattle.go_inline_core.specs.scope_core.Scopes.{Denoted, scope_blocks}
use Rattle.go_inline_core.specs.scope_core.Laws.{denotes}
use Rattle.go_inline_core.specs.scope_core.Lookups.{by_parts, in_scope}
use Rattle.go_term_core.specs.declared.term.MemberPlace.TheVariants as places
use Rattle.go_term_core.specs.Terms.{Term, NoType, Predeclared, ErrorType, Defined, PointerTo, StructOf, InterfaceOf, Fields, NoField, AField, Methods, NoMethod, AMethod}
use Rattle.go_table_core.specs.Entries.{Member, find_entry, has_method}
use Rattle.go_select_core.specs.embed_core.Owners.{OwnerModel, Named, AFieldOf, owner_in, fields_found, methods_found, declared_found, term_found}
use Rattle.go_declared_core.specs.handle_core.Declarations.{InFile}
use Rattle.go_expr_core.specs.denote_core.declared.things.Found.TheVariants as founds
use Rattle.go_inline_core.specs.names_core.declared.meaning.Outside.{Outside}
use Rattle.go_inline_core.specs.names_core.declared.meaning.Outside.TheVariants as outsides
use Rattle.go_inline_core.specs.names_core.Scope.{some_meaning}
use Rattle.go_declared_core.specs.Faces.{TheFace}
use Rattle.go_env_core.specs.declared.meaning.Meaning.{Meaning}
use Rattle.go_env_core.specs.declared.meaning.Meaning.TheVariants as meanings
use Rattle.go_env_core.specs.Scenes.{SceneModel}
use Rattle.go_env_core.specs.Fields.{TheField, field_seen, fields_seen, term_seen}
use Rattle.go_env_core.specs.Found.{TheFound, found_of, found_binding, found_target, found_outside, found_face, found_universe, exported_shown, own_face}
use Rattle.go_env_core.specs.Laws.{FieldsAreMembers, binding_face, member_field, target_face, stands_for, StandsFor, NamesStandForDeclarations, NamesAreLocalInScenes, ShownNamesAreLocal, SameOutside, SameMeaning}

-- 1. Names stand for what they denote in scope.

-- a binding that a name denotes is that of the file block
only_binding : (l : Option DeclId) (f : Option Binding) (d : Option DeclRef) (u : Option PredeclaredName) (b : Binding) → by_parts l f d u ≡ Some (scopes.File b) → f ≡ Some b
only_binding (Some l) f d u b e = cc
only_binding None (Some f) d u b e = cc
only_binding None None (Some d) u b e = cc
only_binding None None None (Some p) b e = cc
only_binding None None None None b e = cc

binding_is : (o : ScopesModel) (name : List ℕ) (b : Binding) → denotes o name ≡ Some (scopes.File b) → file_binding o.blocks o.file name ≡ Some b
binding_is o name b e =
    only_binding (found_in o.open_blocks name) (file_binding o.blocks o.file name) (in_block o.blocks.names name) (found name) b (sym (in_scope o name) ∙ e)

module _ (s : SceneModel) (known : List (Option TheFace)) (o : ScopesModel) (locals : List Meaning) (name : List ℕ) (same : o.blocks ≡ s.blocks) where
  abbrev found_at : Option Denoted → TheFound
  found_at d = found_of s o.file known name (some_meaning meanings.Outside locals d)

  stands : (d : Denoted) → denotes o name ≡ Some d → found_at (Some d) ≡ stands_for s known o locals name d
  stands (scopes.Local id) e = refl
  stands (scopes.Package d) e = refl
  stands (scopes.File b) e = ap (found_binding s) (ap (λ (m : BlocksModel). file_binding m o.file name) (sym same) ∙ binding_is o name b e)
  stands (scopes.Universe p) e = refl

  to : (d : Option Denoted) → denotes o name ≡ d → (f : TheFound) → found_at d ≡ f → StandsFor s known o locals name f
  to None is f e = inr (found_none (scope_blocks o) name is, sym e)
  to (Some d) is f e = inl (d, found_innermost (scope_blocks o) name d is, sym e ∙ stands d is)

  from : (f : TheFound) → StandsFor s known o locals name f → found_at (denotes o name) ≡ f
  from f (inl h) = let is = innermost_found (scope_blocks o) name h.0 h.1 in ap found_at is ∙ (stands h.0 is ∙ sym h.2)
  from f (inr h) = ap found_at (none_found (scope_blocks o) name h.0) ∙ sym h.1

pub names_stand : NamesStandForDeclarations
names_stand s known o locals name place f same = (to s known o locals name same (denotes o name) refl f, from s known o locals name same f)

-- 2. What is asked of a scene.

module _ (s t : SceneModel) where
  target_same : (x : Target) → target_face s x ≡ target_face t x → found_target s x ≡ found_target t x
  target_same (targets.«Package» path) h = refl
  target_same (targets.Refused rule) h = refl
  target_same (targets.Exported k) h = ap (found_face (InFile k.path (places.Declared k.decl))) h

  binding_same : (b : Option Binding) → binding_face s b ≡ binding_face t b → found_binding s b ≡ found_binding t b
  binding_same None h = refl
  binding_same (Some b) h = target_same b.target h

  module _ (known others : List (Option TheFace)) (same : s.path ≡ t.path) where
    outside_same : (file : ℕ) (name : List ℕ) (o : Outside) → SameOutside s known t others file name o → found_outside s file known name o ≡ found_outside t file others name o
    outside_same file name (outsides.«Package» d) h =
        ap (λ (path : List ℕ). found_face (InFile path (places.Declared d)) (own_face s known d)) same ∙ ap (found_face (InFile t.path (places.Declared d))) h
    outside_same file name (outsides.File at) h = binding_same (file_binding s.blocks file name) h.face ∙ ap (found_binding t) h.binding
    outside_same file name (outsides.Universe p) h = ap (λ (path : List ℕ). found_universe path p) same

    meaning_same : (file : ℕ) (name : List ℕ) (m : Option Meaning) → SameMeaning s known t others file name m → found_of s file known name m ≡ found_of t file others name m
    meaning_same file name None h = refl
    meaning_same file name (Some (meanings.Outside o)) h = outside_same file name o h
    meaning_same file name (Some (meanings.Local at value)) h =
        ap (λ (path : List ℕ). founds.«Value» (InFile path (places.Local (record { file = file; offset = at }))) value) same

pub names_local : NamesAreLocalInScenes
names_local s known t others file name m same h = meaning_same s t known others same file name m h

pub shown_local : ShownNamesAreLocal
shown_local s t path name h = ap (exported_shown path) h

-- 3. Fields are members.

module _ (s : SceneModel) where
  abbrev field_of : Named → List TheField
  field_of n = member_field s n.0 n.1.1

  no_methods : (path : List ℕ) (ms : List Member) (rest : List Named) → flat_map field_of (declared_found path ms ++ rest) ≡ flat_map field_of rest
  no_methods path [] rest = refl
  no_methods path (m ∷ ms) rest = no_methods path ms rest

  no_interface : (path : List ℕ) (ms : Methods) → [] ≡ flat_map field_of (methods_found path ms)
  no_interface path NoMethod = refl
  no_interface path (AMethod name place g ms) = no_interface path ms

  one_more : (b : Bool) (f : TheField) (n : Named) (fs : List TheField) (ns : List Named) → field_of n ≡ f ∷ [] → fs ≡ flat_map field_of ns
      → (if b then fs else f ∷ fs) ≡ flat_map field_of (if b then ns else n ∷ ns)
  one_more true f n fs ns is same = same
  one_more false f n fs ns is same = ap (λ l. f ∷ l) same ∙ ap (λ l. l ++ flat_map field_of ns) (sym is)

  of_struct : (o : OwnerModel) (home : List ℕ) (fs : Fields) → fields_seen s o home fs ≡ flat_map field_of (fields_found o home fs)
  of_struct o home NoField = refl
  of_struct o home (AField name place embedded t tag fs) =
      one_more (has_method o.path o.methods name home) (field_seen s home name place t) (name, (home, AFieldOf home place t)) (fields_seen s o home fs) (fields_found o home fs) refl (of_struct o home fs)

  of_term : (o : OwnerModel) (t : Term) → term_seen s o t ≡ flat_map field_of (term_found o t)
  of_term o NoType = refl
  of_term o (Predeclared b) = refl
  of_term o ErrorType = refl
  of_term o (Defined k) = refl
  of_term o (PointerTo t) = refl
  of_term o (StructOf home fs) = of_struct o home fs
  of_term o (InterfaceOf path ms) = no_interface path ms

pub members_seen : FieldsAreMembers
members_seen s t =
    let o = owner_in (find_entry s.types) t in
    of_term s o o.underlying ∙ sym (no_methods s o.path o.methods (term_found o o.underlying))
