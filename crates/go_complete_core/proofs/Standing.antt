-- What names stand for where locals are open: by the blocks that are open there, and by the look-ups of the check.
use Rattle.std.proofs.Common.{◌≡◌, ◌⊎◌, inl, inr, ℕ, Bool, true, false, not, ◌&&◌, ◌||◌, List, [], ◌∷◌, ◌++◌, map, cond, Option, Some, None, refl, sym, ap, subst, ◌∙◌}
use Rattle.std.specs.Prelude.{All, filter, is_some, if◌then◌else◌}
use Rattle.std.specs.List.{list_any}
use Rattle.std.specs.Option.{option_map}
use Rattle.std.specs.Str.{bytes_eq}
use Rattle.std.proofs.lemmas.List.Elements.{All-head, All-tail}
use Rattle.go_tree_nodes.specs.text_core.Text.{is_blank}
use Rattle.go_universe_core.specs.declared.Predeclared.{Predeclared}
use Rattle.go_universe_core.specs.declared.Predeclared.TheVariants as universe
use Rattle.go_universe_core.specs.Universe.{found}
use Rattle.go_tree_nodes.specs.declared.names.Ident.{Ident}
use Rattle.go_term_core.specs.decl_core.declared.keys.DeclRef.{DeclRef}
use Rattle.go_names_core.specs.block_core.declared.binding.Binding.{Binding}
use Rattle.go_names_core.specs.block_core.declared.binding.Target.{Target}
use Rattle.go_names_core.specs.block_core.declared.binding.Target.TheVariants as targets
use Rattle.go_names_core.specs.block_core.Blocks.{file_binding}
use Rattle.go_cursor_core.specs.scope_stack.declared.DeclId.{DeclId}
use Rattle.go_cursor_core.specs.scope_stack.Blocks.{found_in, in_block, is_listed, list_names, names_in, or_else}
use Rattle.go_cursor_core.specs.scope_stack.Names.{listed-block, listed-names, same_bytes}
use Rattle.go_names_core.specs.scope_core.Models.{scopes_model}
use Rattle.go_names_core.specs.scope_core.Scopes.{Denoted, Universe, Package, File, Local, scope_blocks}
use Rattle.go_names_core.specs.scope_core.Lookups.{by_parts, in_scope}
use Rattle.go_names_core.specs.Scope.{some_meaning}
use Rattle.go_names_core.specs.local_core.mirrors.Walk.{Names, latest, look_in, names_of}
use Rattle.go_cursor_core.specs.denote_core.declared.things.Found.{Found}
use Rattle.go_cursor_core.specs.denote_core.declared.things.Found.TheVariants as founds
use Rattle.go_term_core.specs.declared.term.MemberPlace.TheVariants as places
use Rattle.go_candidate_core.specs.handle_core.Declarations.{Declaration, InFile, Package as PackageOf}
use Rattle.go_candidate_core.specs.declared_core.declared.face.Face.TheVariants as faces
use Rattle.go_candidate_core.specs.declared_core.Faces.{TheFace}
use Rattle.go_candidate_core.specs.declared_core.Packages.{face_in}
use Rattle.go_package_core.specs.env_core.declared.meaning.Meaning.{Meaning}
use Rattle.go_package_core.specs.env_core.declared.meaning.Meaning.TheVariants as meanings
use Rattle.go_package_core.specs.env_core.Scenes.{SceneModel}
use Rattle.go_package_core.specs.env_core.Found.{TheFound, found_face, found_target, found_binding, found_universe, found_of, own_face}
use Rattle.go_package_core.specs.body_core.Rules.{outside_in}
use Rattle.go_candidate_core.specs.declared.context.things.Thing.{Thing}
use Rattle.go_candidate_core.specs.declared.context.things.Thing.TheVariants as things
use Rattle.go_candidate_core.specs.context.Alone.{local_names, thing_of_decl, thing_of_predeclared}
use Rattle.go_candidate_core.specs.context.Laws.{thing_found_as}
use Rattle.go_candidate_core.specs.fitting.Fitting.{thing_of_face, thing_of_target, thing_at, path_of_target, package_at}
use Rattle.go_complete_core.specs.place.Laws.{is_local}

-- what kind of thing is found, and the package where it is one

abbrev pub package_found : {T S D : Type 0} → Found T S D → Option D
package_found founds.Missing = None
package_found founds.BadImport = None
package_found founds.Outside = None
package_found (founds.«Package» d) = Some d
package_found (founds.«Type» d t) = None
package_found (founds.Func d s) = None
package_found (founds.Builtin d b) = None
package_found (founds.«Value» d value) = None

abbrev pub Sight : Type 0
Sight = Option Thing × Option Declaration

abbrev pub sight_found : TheFound → Sight
sight_found f = (thing_found_as f, package_found f)

module _ (s : SceneModel) where
  abbrev pub sight_at : Option Denoted → Sight
  sight_at d = (thing_at s.others d, option_map PackageOf (package_at d))

  abbrev sight_of_target : Target → Sight
  sight_of_target t = (thing_of_target s.others t, option_map PackageOf (path_of_target t))

face_sight : (d : Declaration) (f : Option TheFace) → sight_found (found_face d f) ≡ (Some (thing_of_face f), None)
face_sight d None = refl
face_sight d (Some (faces.«Type» t)) = refl
face_sight d (Some (faces.Func g)) = refl
face_sight d (Some (faces.«Value» o)) = refl

target_sight : (s : SceneModel) (t : Target) → sight_found (found_target s t) ≡ sight_of_target s t
target_sight s (targets.«Package» path) = refl
target_sight s (targets.Refused rule) = refl
target_sight s (targets.Exported k) = face_sight (InFile k.path (places.Declared k.decl)) (face_in s.others k.path k.decl)

universe_sight : (path : List ℕ) (p : Predeclared) → sight_found (found_universe path p) ≡ (thing_of_predeclared p, None)
universe_sight path universe.Any = refl
universe_sight path universe.Bool = refl
universe_sight path universe.Error = refl
universe_sight path universe.Int = refl
universe_sight path universe.String = refl
universe_sight path universe.True = refl
universe_sight path universe.False = refl
universe_sight path universe.Nil = refl
universe_sight path universe.Len = refl
universe_sight path universe.Panic = refl
universe_sight path universe.Print = refl
universe_sight path universe.Println = refl
universe_sight path _ = refl

-- names of locals

latest_listed : (es : Names Meaning) (m : List ℕ) → is_listed (names_of es) m ≡ is_some (latest es m)
latest_listed [] m = refl
latest_listed (e ∷ es) m = ap (λ b. bytes_eq m e.0 || b) (latest_listed es m) ∙ by (latest es m) (bytes_eq m e.0)
  where
    by : (o : Option Meaning) (b : Bool) → b || is_some o ≡ is_some (or_else o (if b then Some e.1 else None))
    by (Some x) true = refl
    by (Some x) false = refl
    by None true = refl
    by None false = refl

abbrev IsLocal : Option Meaning → Type 0
IsLocal None = Unit {0}
IsLocal (Some x) = is_local x ≡ true

latest_local : (es : Names Meaning) (m : List ℕ) → All (λ e. is_local e.1 ≡ true) es → IsLocal (latest es m)
latest_local [] m h = tt
latest_local (e ∷ es) m h = by (latest es m) (bytes_eq m e.0) (latest_local es m (All-tail (λ (e : List ℕ × Meaning). is_local e.1 ≡ true) e es h))
  where
    by : (o : Option Meaning) (b : Bool) → IsLocal o → IsLocal (or_else o (if b then Some e.1 else None))
    by (Some x) b k = k
    by None true k = All-head (λ (e : List ℕ × Meaning). is_local e.1 ≡ true) e es h
    by None false k = tt

kept_listed : (m : List ℕ) → is_blank m ≡ false → (ns : List (List ℕ)) → is_listed (filter (λ n. not (is_blank n)) ns) m ≡ is_listed ns m
kept_listed m h [] = refl
kept_listed m h (n ∷ ns) = by (is_blank n) refl (kept_listed m h ns)
  where
    other : (b : Bool) → is_blank n ≡ true → bytes_eq m n ≡ b → b ≡ false
    other false k e = refl
    other true k e = sym k ∙ (sym (ap is_blank (same_bytes m n e)) ∙ h)

    by : (b : Bool) → is_blank n ≡ b → is_listed (filter (λ n. not (is_blank n)) ns) m ≡ is_listed ns m → is_listed (cond (not b) (n ∷ filter (λ n. not (is_blank n)) ns) (filter (λ n. not (is_blank n)) ns)) m ≡ is_listed (n ∷ ns) m
    by false k rest = ap (λ b. bytes_eq m n || b) rest
    by true k rest = rest ∙ sym (ap (λ b. b || is_listed ns m) (other (bytes_eq m n) k refl))

-- a name is among the open names where the block of locals has it
module _ (meant : Names Meaning) (block : List (List ℕ × DeclId)) (xs : List Ident) (named : names_in block ≡ list_names [] (local_names xs)) (same : names_of meant ≡ map (λ (x : Ident). x.name) xs) where
  local_listed : (m : List ℕ) → is_blank m ≡ false → is_some (in_block block m) ≡ is_some (latest meant m)
  local_listed m h =
      sym (listed-block block m)
      ∙ (ap (λ l. is_listed l m) named
      ∙ (listed-names [] (local_names xs) m
      ∙ (kept_listed m h (map (λ (x : Ident). x.name) xs)
      ∙ (sym (ap (λ l. is_listed l m) same)
      ∙ latest_listed meant m))))

-- what names stand for

module _ (s : SceneModel) (file : ℕ) (known : List (Option TheFace)) (own : (name : List ℕ) (d : DeclRef) → in_block s.blocks.names name ≡ Some d → Some (thing_of_face (own_face s known d)) ≡ thing_of_decl d.kind) where
  parts_sight : (name : List ℕ) (f : Option Binding) (p : Option DeclRef) (u : Option Predeclared) → f ≡ file_binding s.blocks file name → p ≡ in_block s.blocks.names name
      → sight_found (found_of s file known name (some_meaning meanings.Outside [] (by_parts None f p u))) ≡ sight_at s (by_parts None f p u)
  parts_sight name (Some b) p u is_f is_p = ap (λ f. sight_found (found_binding s f)) (sym is_f) ∙ target_sight s b.target
  parts_sight name None (Some d) u is_f is_p = face_sight (InFile s.path (places.Declared d)) (own_face s known d) ∙ (let pair : Option Thing → Sight = λ t. (t, None) in ap pair (own name d (sym is_p)))
  parts_sight name None None (Some p) is_f is_p = universe_sight s.path p
  parts_sight name None None None is_f is_p = refl

  -- at the top of the file
  top_sight : (name : List ℕ) → sight_found (found_of s file known name (outside_in s file name)) ≡ sight_at s (by_parts None (file_binding s.blocks file name) (in_block s.blocks.names name) (found name))
  top_sight name =
      ap (λ d. sight_found (found_of s file known name (some_meaning meanings.Outside [] d))) (in_scope (scopes_model s.blocks file []) name)
      ∙ parts_sight name (file_binding s.blocks file name) (in_block s.blocks.names name) (found name) refl refl

  -- where locals are open
  pub name_sight : (meant : Names Meaning) (block : List (List ℕ × DeclId)) (xs : List Ident) → names_in block ≡ list_names [] (local_names xs) → names_of meant ≡ map (λ (x : Ident). x.name) xs → All (λ e. is_local e.1 ≡ true) meant → (name : List ℕ)
      → is_blank name ≡ false → (place : ℕ) → sight_found (found_of s file known name (look_in (outside_in s file) meant name place)) ≡ sight_at s (found_in (scope_blocks (scopes_model s.blocks file (block ∷ []))) name)
  name_sight meant block xs named same local name h place =
      by (in_block block name) (latest meant name) (local_listed meant block xs named same name h) (latest_local meant name local)
      ∙ sym (ap (sight_at s) (in_scope (scopes_model s.blocks file (block ∷ [])) name))
    where
      by : (l : Option DeclId) (o : Option Meaning) → is_some l ≡ is_some o → IsLocal o
          → sight_found (found_of s file known name (or_else o (outside_in s file name))) ≡ sight_at s (by_parts l (file_binding s.blocks file name) (in_block s.blocks.names name) (found name))
      by None None e k = top_sight name
      by None (Some x) e k = absurd (cc)
      by (Some id) None e k = absurd (cc)
      by (Some id) (Some (meanings.Local at value)) e k = refl
      by (Some id) (Some (meanings.Outside o)) e k = absurd (cc)
