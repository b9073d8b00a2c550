-- What a declaration is looks at the declarations that it needs alone.
use Rattle.std.proofs.Common.{◌≡◌, ℕ, zero, suc, ◌+◌, ◌<◌, Bool, true, false, inl, inr, List, [], ◌∷◌, ◌++◌, map, length, get_or, slice_get, refl, sym, ap, ◌∙◌, subst, arith, if◌then◌else◌}
use Rattle.std.specs.Prelude.{Option, Some, None, All, Contains, slice_index_or, is_some}
use Rattle.std.specs.List.{flat_map, range_with_len}
use Rattle.std.specs.Option.{option_map}
use Rattle.std.proofs.lemmas.Bool.{both_ways}
use Rattle.std.proofs.lemmas.List.{get_or-map, length-map}
use Rattle.std.proofs.lemmas.List.FromFn.{length-range_with_len, get_or-range_with_len}
use Rattle.std.proofs.lemmas.List.Elements.{Contains-append_left, Contains-append_right, Contains-append_cases, All-map, All-weaker, All-contains_itself}
use Rattle.std.proofs.lemmas.Option.{slice_get-map, get_or_from_slice_get}
use Rattle.go_tree_nodes.specs.declared.names.Ident.{Ident}
use Rattle.go_tree_nodes.specs.declared.decls.ValueKind.{ValueKind}
use Rattle.go_tree_nodes.specs.declared.decls.ValueKind.TheVariants as kinds
use Rattle.go_tree_nodes.specs.Trees.{TypeTree, ValueSpecTree}
use Rattle.go_term_core.specs.decl_core.declared.keys.DeclRef.{DeclRef}
use Rattle.go_term_core.specs.decl_core.TopDecls.{FormTree, ValueForm, TypeForm, FuncForm}
use Rattle.go_names_core.specs.scope_core.Models.{scopes_model}
use Rattle.go_names_core.specs.scope_core.Scopes as scopes
use Rattle.go_names_core.specs.scope_core.Scopes.{Denoted}
use Rattle.go_names_core.specs.scope_core.Laws.{denotes}
use Rattle.go_names_core.specs.Scope.{some_meaning}
use Rattle.go_term_core.specs.Terms.{Term}
use Rattle.go_stmt_core.specs.expr_core.Laws.{AgreeOnIdents, LooksAtNames}
use Rattle.go_stmt_core.specs.expr_core.Looks.{WrittenRules}
use Rattle.go_stmt_core.specs.inline_core.Types.{InlineOf}
use Rattle.go_env_core.specs.declared_core.declared.face.Face.TheVariants as faces
use Rattle.go_env_core.specs.declared_core.Faces.{TheFace}
use Rattle.go_env_core.specs.declared_core.Written.{WrittenOf, position_of, same_decl_place, written_at}
use Rattle.go_env_core.specs.declared.meaning.Meaning.{Meaning}
use Rattle.go_env_core.specs.declared.meaning.Meaning.TheVariants as meanings
use Rattle.go_env_core.specs.Scenes.{SceneModel}
use Rattle.go_env_core.specs.Found.{found_of, found_face, face_at}
use Rattle.go_env_core.specs.Looks.{TheLooks, looks_in, inline_rules}
use Rattle.go_digraph_core.specs.needs.Needs.{LooksAtNeeds, NeedsAreInside, needed, known_in}
use Rattle.go_digraph_core.proofs.NeedsEdges.{none_inside, one_inside}
use Rattle.go_value_core.specs.Initial.{initial, initial_idents, some_written_type}
use Rattle.go_value_core.specs.Package.{PlacedOf, own_decl, some_position, position_in, name_needs, idents_need, value_idents, form_idents, decl_needs, package_needs, top_look, first_values, top_looks, value_face, form_face, some_face, declared_face}
use Rattle.go_value_core.proofs.Owning.{initial_alike}

-- positions lie in the list

not_some : {A : Type 0} (x : A) → None ≡ Some x → ⊥
not_some {A} x h = both_ways (is_some {T = A} None) refl (ap is_some h)

some_is : {A : Type 0} (x y : A) → Some x ≡ Some y → x ≡ y
some_is x y h = search

later_inside : (k n : ℕ) (o : Option ℕ) → ((m : ℕ) → o ≡ Some m → m < k) → option_map suc o ≡ Some n → n < suc k
later_inside k n None below h = absurd (not_some n h)
later_inside k n (Some m) below h = (let lt : m < k = below m refl in let q : suc m ≡ n = some_is (suc m) n h in omega (arith, lt, q))

first_inside : (k n : ℕ) (b : Bool) (o : Option ℕ) → ((m : ℕ) → o ≡ Some m → m < k) → (if b then Some 0 else option_map suc o) ≡ Some n → n < suc k
first_inside k n true o below h = (let q : 0 ≡ n = some_is 0 n h in omega (arith, q))
first_inside k n false o below h = later_inside k n o below h

pub position_inside : (ws : List WrittenOf) (d : DeclRef) (n : ℕ) → position_of ws d ≡ Some n → n < length ws
position_inside [] d n h = absurd (not_some n h)
position_inside (w ∷ ws) d n h = first_inside (length ws) n (same_decl_place w.decl d) (position_of ws d) (λ m e. position_inside ws d m e) h

only_one : (a x : ℕ) → Contains (a ∷ []) x → a ≡ x
only_one a x h = (let q : h.0 ≡ 0 = omega (arith, h.1) in sym (ap (λ k. get_or (a ∷ []) k x) q) ∙ h.2)

-- known is the same at what is needed
abbrev pub SameAt : List ℕ → (ℕ → Option TheFace) → (ℕ → Option TheFace) → Type 0
SameAt row f g = (b : ℕ) → Contains row b → f b ≡ g b

module _ (s : SceneModel) (file : ℕ) where
  -- what is needed lies in the list
  listed_inside : (d : DeclRef) (o : Option ℕ) → position_of s.written d ≡ o → (b : ℕ) → Contains (some_position o) b → b < length s.written
  listed_inside d None e b h = absurd (none_inside b h)
  listed_inside d (Some n) e b h = (let lt : n < length s.written = position_inside s.written d n e in let q : n ≡ b = only_one n b h in omega (arith, lt, q))

  own_inside : (o : Option DeclRef) (b : ℕ) → Contains (position_in s.written o) b → b < length s.written
  own_inside None b h = absurd (none_inside b h)
  own_inside (Some d) b h = listed_inside d (position_of s.written d) refl b h

  pub name_inside : (name : List ℕ) (b : ℕ) → Contains (name_needs s file name) b → b < length s.written
  name_inside name b h = own_inside (own_decl (denotes (scopes_model s.blocks file []) name)) b h

  -- what a name stands for, where the same is known of what it needs

  module _ (k l : List (Option TheFace)) where
    position_alike : (o : Option ℕ) → SameAt (some_position o) (known_in k) (known_in l) → face_at k o ≡ face_at l o
    position_alike None h = refl
    position_alike (Some n) h = h n (one_inside n)

    meaning_alike : (name : List ℕ) (o : Option Denoted) → SameAt (position_in s.written (own_decl o)) (known_in k) (known_in l)
        → found_of s file k name (some_meaning meanings.Outside [] o) ≡ found_of s file l name (some_meaning meanings.Outside [] o)
    meaning_alike name None h = refl
    meaning_alike name (Some (scopes.Universe p)) h = refl
    meaning_alike name (Some (scopes.File b)) h = refl
    meaning_alike name (Some (scopes.Local id)) h = refl
    meaning_alike name (Some (scopes.Package d)) h = ap (found_face _) (position_alike (position_of s.written d) h)

    module _ (written : WrittenRules Term) where
      abbrev before : TheLooks
      before = looks_in s file k written (top_look s.blocks file)

      abbrev after : TheLooks
      after = looks_in s file l written (top_look s.blocks file)

      pub idents_alike : (xs : List Ident) → SameAt (idents_need s file xs) (known_in k) (known_in l) → AgreeOnIdents before.find after.find xs
      idents_alike [] h = tt
      idents_alike (x ∷ xs) h = (
        meaning_alike x.name (denotes (scopes_model s.blocks file []) x.name) (λ b has. h b (Contains-append_left (name_needs s file x.name) (idents_need s file xs) b has)),
        idents_alike xs (λ b has. h b (Contains-append_right (name_needs s file x.name) (idents_need s file xs) b has)),
      )

-- types that are written in initialisers look at no names

inline_law : (s : SceneModel) (types : List (ℕ × InlineOf)) → LooksAtNames Term (inline_rules s types)
inline_law s types = record { type_of = λ a b t h. refl; faults_of = λ a b t h. refl }

written_alike : (s : SceneModel) (file : ℕ) (types : List (ℕ × InlineOf)) (k l : List (Option TheFace)) (t : Option TypeTree)
    → some_written_type (before s file k l (inline_rules s types)) t ≡ some_written_type (after s file k l (inline_rules s types)) t
written_alike s file types k l None = refl
written_alike s file types k l (Some t) = refl

-- the name of a specification
pub name_alike : (s : SceneModel) (file : ℕ) (types : List (ℕ × InlineOf)) (k l : List (Option TheFace)) (kind : ValueKind) (v : ValueSpecTree) (i : ℕ)
    → SameAt (idents_need s file (initial_idents v i)) (known_in k) (known_in l)
    → initial (looks_in s file k (inline_rules s types) (top_look s.blocks file)) kind v i ≡ initial (looks_in s file l (inline_rules s types) (top_look s.blocks file)) kind v i
name_alike s file types k l kind v i h =
    let a = looks_in s file k (inline_rules s types) (top_look s.blocks file) in
    let b = looks_in s file l (inline_rules s types) (top_look s.blocks file) in
    initial_alike a b.find (inline_law s types) kind v i (written_alike s file types k l v.type_expr) (idents_alike s file k l (inline_rules s types) (initial_idents v i) h)

-- first values

pub first_at : {V : Type 0} (n : ℕ) (f : ℕ → Option V) (b : ℕ) → b < n → known_in (first_values n f) b ≡ f b
first_at n f b lt =
    let inside : b < length (range_with_len 0 n) = omega (arith, lt, length-range_with_len 0 n) in
    let q : 0 + b ≡ b = omega arith in
    get_or-map f (range_with_len 0 n) b 0 None inside ∙ (ap f (get_or-range_with_len 0 n b 0 lt) ∙ ap f q)

-- needs lie in the list
pub needs_inside : (s : SceneModel) (file : ℕ) (xs : List Ident) (b : ℕ) → Contains (idents_need s file xs) b → b < length s.written
needs_inside s file [] b h = absurd (none_inside b h)
needs_inside s file (x ∷ xs) b h = elim (Contains-append_cases (name_needs s file x.name) (idents_need s file xs) b h) [
  | inl here ↦ name_inside s file x.name b here
  | inr there ↦ needs_inside s file xs b there
]

module _ (s : SceneModel) (f g : ℕ → Option TheFace) (p : PlacedOf) where
  first_alike : (xs : List Ident) → SameAt (idents_need s p.file xs) f g
      → SameAt (idents_need s p.file xs) (known_in (first_values (length s.written) f)) (known_in (first_values (length s.written) g))
  first_alike xs h b has =
      let lt : b < length s.written = needs_inside s p.file xs b has in
      first_at (length s.written) f b lt ∙ (h b has ∙ sym (first_at (length s.written) g b lt))

  initial_same : (kind : ValueKind) (v : ValueSpecTree) (i : ℕ) → SameAt (idents_need s p.file (initial_idents v i)) f g
      → initial (top_looks s p.file p.types f) kind v i ≡ initial (top_looks s p.file p.types g) kind v i
  initial_same kind v i h = name_alike s p.file p.types (first_values (length s.written) f) (first_values (length s.written) g) kind v i (first_alike (initial_idents v i) h)

  value_same : (w : Option TheFace) (kind : ValueKind) (t : Option TypeTree) (v : ValueSpecTree) (i : ℕ) → SameAt (idents_need s p.file (value_idents kind t v i)) f g
      → value_face (top_looks s p.file p.types f) w kind t v i ≡ value_face (top_looks s p.file p.types g) w kind t v i
  value_same w kinds.Const t v i h = ap faces.«Value» (initial_same kinds.Const v i h)
  value_same w kinds.Var None v i h = ap faces.«Value» (initial_same kinds.Var v i h)
  value_same w kinds.Var (Some t) v i h = refl

  form_same : (w : Option TheFace) (form : FormTree) → SameAt (idents_need s p.file (form_idents form)) f g
      → form_face (top_looks s p.file p.types f) w form ≡ form_face (top_looks s p.file p.types g) w form
  form_same w (ValueForm k v i) h = value_same w k v.type_expr v i h
  form_same w (TypeForm t) h = refl
  form_same w (FuncForm t) h = refl

needs_at : (s : SceneModel) (ds : List PlacedOf) (a : ℕ) (p : PlacedOf) → slice_get ds a ≡ Some p → needed (package_needs s ds) a ≡ decl_needs s p
needs_at s ds a p h = get_or_from_slice_get (map (decl_needs s) ds) a (decl_needs s p) [] (slice_get-map (decl_needs s) ds a ∙ ap (option_map (decl_needs s)) h)

-- a declaration looks at what it needs
pub looks_at_needs : (s : SceneModel) (ds : List PlacedOf) → LooksAtNeeds (package_needs s ds) (declared_face s ds)
looks_at_needs s ds f g a h = at (slice_get ds a) refl
  where
    at : (o : Option PlacedOf) → slice_get ds a ≡ o → some_face s f a o ≡ some_face s g a o
    at None e = refl
    at (Some p) e = form_same s f g p (written_at s.written a) p.decl.form (λ b has. h b (subst (λ row. Contains row b) (sym (needs_at s ds a p e)) has))

-- what is needed lies in the package

row_inside : (s : SceneModel) (p : PlacedOf) → All (λ b. b < length s.written) (decl_needs s p)
row_inside s p =
    All-weaker (Contains (decl_needs s p)) (λ b. b < length s.written) (λ b has. needs_inside s p.file (form_idents p.decl.form) b has) (decl_needs s p) (All-contains_itself (decl_needs s p))

pub all_inside : (s : SceneModel) (ds : List PlacedOf) → length s.written ≡ length ds → NeedsAreInside (package_needs s ds)
all_inside s ds q =
    let n : length s.written ≡ length (package_needs s ds) = q ∙ sym (length-map ds (decl_needs s)) in
    subst (λ m. All (λ row. All (λ b. b < m) row) (package_needs s ds)) n
    (All-map (λ row. All (λ b. b < length s.written) row) (decl_needs s) ds (λ i d lt. row_inside s (get_or ds i d)))
