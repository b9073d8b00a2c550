-- What the names of types denote at the top of a file: types of the packages that are led to, and the same where these show the same.
use Rattle.std.proofs.Common.{◌≡◌, ℕ, List, [], ◌∷◌, inl, inr, refl, ap, subst, arith}
use Rattle.std.specs.Prelude.{Option, Some, None, Contains}
use Rattle.go_tree_nodes.specs.declared.types.TypeName.{TypeName}
use Rattle.go_tree_nodes.specs.declared.types.TypeName.TheVariants as type_names
use Rattle.go_universe_core.specs.declared.Predeclared.{Predeclared}
use Rattle.go_universe_core.specs.declared.Predeclared.TheVariants as universe
use Rattle.go_universe_core.specs.Universe.{found}
use Rattle.go_term_core.specs.decl_core.declared.places.DeclKind.{DeclKind}
use Rattle.go_term_core.specs.decl_core.declared.places.DeclKind.TheVariants as kinds
use Rattle.go_term_core.specs.decl_core.declared.keys.DeclKey.{DeclKey}
use Rattle.go_term_core.specs.decl_core.declared.keys.DeclRef.{DeclRef}
use Rattle.go_names_core.specs.block_core.declared.binding.Binding.{Binding}
use Rattle.go_names_core.specs.block_core.declared.binding.Target.{Target}
use Rattle.go_names_core.specs.block_core.declared.binding.Target.TheVariants as targets
use Rattle.go_names_core.specs.block_core.Blocks.{BlocksModel, file_binding}
use Rattle.go_names_core.specs.block_core.Tables.{in_block}
use Rattle.go_term_core.specs.Terms.{term_keys}
use Rattle.go_body_core.specs.typexpr_core.EntryMeanings.{Shown, named_meaning, outside_meaning, plain_meaning, qualified_meaning, shown_type, type_in_binding, type_in_target, type_of_kind, type_of_predeclared, type_of_target, type_of_universe}
use Rattle.go_body_core.specs.typexpr_core.EntryAmong.{among_from}
use Rattle.go_snap_core.specs.whole_workspace.Known.{IsTargetIn}
use Rattle.go_names_core.specs.block_core.Bindings.{key_of}

module _ (Inside : List ℕ → Type 0) where
  -- what mentions types of these packages alone
  abbrev pub AllInside : List DeclKey → Type 0
  AllInside ks = (k : DeclKey) → Contains ks k → Inside k.path

  pub none_inside : AllInside []
  none_inside = λ k h. absurd (omega (arith, h.1))

  pub one_inside : (k : DeclKey) → Inside k.path → AllInside (k ∷ [])
  one_inside k h = λ j m. elim (among_from (k ∷ []) j m) [
    | inl e ↦ subst (λ (x : DeclKey). Inside x.path) e h
    | inr none ↦ absurd none
  ]

  kind_inside : (k : DeclKey) (kind : DeclKind) → Inside k.path → AllInside (term_keys (type_of_kind k kind))
  kind_inside k kinds.«Type» h = one_inside k h
  kind_inside k _ h = none_inside

  predeclared_inside : (path : List ℕ) (p : Predeclared) → AllInside (term_keys (type_of_predeclared path p))
  predeclared_inside path universe.Any = none_inside
  predeclared_inside path universe.Bool = none_inside
  predeclared_inside path universe.Error = none_inside
  predeclared_inside path universe.Int = none_inside
  predeclared_inside path universe.String = none_inside
  predeclared_inside path _ = none_inside

  universe_inside : (path : List ℕ) (o : Option Predeclared) → AllInside (term_keys (type_of_universe path o))
  universe_inside path None = none_inside
  universe_inside path (Some p) = predeclared_inside path p

  target_inside : (t : Target) → IsTargetIn Inside t → AllInside (term_keys (type_of_target t))
  target_inside (targets.«Package» q) h = none_inside
  target_inside (targets.Refused rule) h = none_inside
  target_inside (targets.Exported k) h = kind_inside k k.decl.kind h

  shown_inside : (q : List ℕ) (o : Option DeclRef) → Inside q → AllInside (term_keys (shown_type q o))
  shown_inside q None h = none_inside
  shown_inside q (Some d) h = kind_inside (key_of q d) d.kind h

  in_target_inside : (shown : Shown) (name : List ℕ) (t : Target) → IsTargetIn Inside t → AllInside (term_keys (type_in_target shown name t))
  in_target_inside shown name (targets.«Package» q) h = shown_inside q (shown q name) h
  in_target_inside shown name (targets.Refused rule) h = none_inside
  in_target_inside shown name (targets.Exported k) h = none_inside

  module _ (path : List ℕ) (b : BlocksModel) (own : Inside path) (binds : (file : ℕ) (name : List ℕ) (x : Binding) → file_binding b file name ≡ Some x → IsTargetIn Inside x.target) where
    outside_inside : (file : ℕ) (name : List ℕ) (o : Option Binding) → file_binding b file name ≡ o → AllInside (term_keys (outside_meaning path name o))
    outside_inside file name None e = universe_inside path (found name)
    outside_inside file name (Some x) e = target_inside x.target (binds file name x e)

    plain_inside : (file : ℕ) (name : List ℕ) (o : Option DeclRef) → AllInside (term_keys (plain_meaning path b file name o))
    plain_inside file name None = outside_inside file name (file_binding b file name) refl
    plain_inside file name (Some d) = kind_inside (key_of path d) d.kind own

    binding_inside : (shown : Shown) (file : ℕ) (q name : List ℕ) (o : Option Binding) → file_binding b file q ≡ o → AllInside (term_keys (type_in_binding shown name o))
    binding_inside shown file q name None e = none_inside
    binding_inside shown file q name (Some x) e = in_target_inside shown name x.target (binds file q x e)

    qualified_inside : (shown : Shown) (file : ℕ) (q name : List ℕ) (o : Option DeclRef) → AllInside (term_keys (qualified_meaning shown b file q name o))
    qualified_inside shown file q name None = binding_inside shown file q name (file_binding b file q) refl
    qualified_inside shown file q name (Some d) = none_inside

    pub named_inside : (shown : Shown) (file : ℕ) (n : TypeName) → AllInside (term_keys (named_meaning shown path b file n))
    named_inside shown file (type_names.Plain x) = plain_inside file x.name (in_block b.names x.name)
    named_inside shown file (type_names.Qualified q dot x) = qualified_inside shown file q.name x.name (in_block b.names q.name)

    module _ (shown other : Shown) (alike : (q name : List ℕ) → Inside q → shown q name ≡ other q name) where
      in_target_same : (name : List ℕ) (t : Target) → IsTargetIn Inside t → type_in_target shown name t ≡ type_in_target other name t
      in_target_same name (targets.«Package» q) h = ap (shown_type q) (alike q name h)
      in_target_same name (targets.Refused rule) h = refl
      in_target_same name (targets.Exported k) h = refl

      binding_same : (file : ℕ) (q name : List ℕ) (o : Option Binding) → file_binding b file q ≡ o → type_in_binding shown name o ≡ type_in_binding other name o
      binding_same file q name None e = refl
      binding_same file q name (Some x) e = in_target_same name x.target (binds file q x e)

      qualified_same : (file : ℕ) (q name : List ℕ) (o : Option DeclRef) → qualified_meaning shown b file q name o ≡ qualified_meaning other b file q name o
      qualified_same file q name None = binding_same file q name (file_binding b file q) refl
      qualified_same file q name (Some d) = refl

      pub named_same : (file : ℕ) (n : TypeName) → named_meaning shown path b file n ≡ named_meaning other path b file n
      named_same file (type_names.Plain x) = refl
      named_same file (type_names.Qualified q dot x) = qualified_same file q.name x.name (in_block b.names q.name)
