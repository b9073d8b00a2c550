-- What the names of types mean in a package is the same where the packages that its files bind show the same, and whatever others show.
use Rattle.std.proofs.Common.{◌≡◌, ◌⊎◌, ℕ, true, List, [], if◌then◌else◌, inl, inr, refl, sym, ap, ◌∙◌}
use Rattle.std.specs.Prelude.{Option, Some, None}
use Rattle.std.specs.Str.{bytes_eq}
use Rattle.std.proofs.lemmas.Slice.Eq.{bytes_eq-Decides}
use Rattle.go_tree_nodes.specs.declared.types.TypeName.{TypeName}
use Rattle.go_tree_nodes.specs.declared.types.TypeName.TheVariants as type_names
use Rattle.go_term_core.specs.decl_core.declared.keys.DeclKey.{DeclKey}
use Rattle.go_term_core.specs.decl_core.declared.keys.DeclRef.{DeclRef}
use Rattle.go_term_core.specs.Terms.{Term, Defined}
use Rattle.go_names_core.specs.block_core.declared.binding.Binding.{Binding}
use Rattle.go_names_core.specs.block_core.declared.binding.Target.{Target}
use Rattle.go_names_core.specs.block_core.declared.binding.Target.TheVariants as targets
use Rattle.go_names_core.specs.block_core.Blocks.{BlocksModel, file_binding}
use Rattle.go_names_core.specs.block_core.Tables.{in_block}
use Rattle.go_body_core.specs.typexpr_core.AliasesAliases.{alias_ends, alias_in, far_alone, target_by, target_or}
use Rattle.go_body_core.specs.typexpr_core.AliasesOutlined.{aliases_with, names_in, written_aliases}
use Rattle.go_body_core.specs.typexpr_core.EntryEntries.{all_entries, entries_by, package_meanings}
use Rattle.go_body_core.specs.typexpr_core.EntryMeanings.{Shown, declared_alone, file_meaning, named_meaning, qualified_meaning, shown_type, through, type_in_binding, type_in_target}
use Rattle.go_body_core.specs.typexpr_core.EntryOutlines.{FileOutline}
use Rattle.go_snap_core.specs.whole_workspace.Known.{BindsInside, IsTargetIn, type_keys}
use Rattle.go_snap_core.proofs.WholeWorkspaceNames.{AllInside, named_inside}
use Rattle.go_snap_core.proofs.WholeWorkspaceTargets.{alias_inside, own_ends_inside, through_same}

-- a package of a path whose files bind what is of some packages, which show the same

module _ (Bound : List ℕ → Type 0) (path : List ℕ) (b : BlocksModel) (os : List FileOutline) (binds : BindsInside Bound b) (shown other : Shown) (alike : (q name : List ℕ) → Bound q → shown q name ≡ other q name) where
  in_target_same : (name : List ℕ) (t : Target) → IsTargetIn Bound t → type_in_target shown name t ≡ type_in_target other name t
  in_target_same name (targets.«Package» q) h = ap (shown_type q) (alike q name h)
  in_target_same name (targets.Refused rule) h = refl
  in_target_same name (targets.Exported k) h = refl

  binding_same : (file : ℕ) (q name : List ℕ) (o : Option Binding) → file_binding b file q ≡ o → type_in_binding shown name o ≡ type_in_binding other name o
  binding_same file q name None e = refl
  binding_same file q name (Some x) e = in_target_same name x.target (binds file q x e)

  qualified_same : (file : ℕ) (q name : List ℕ) (o : Option DeclRef) → qualified_meaning shown b file q name o ≡ qualified_meaning other b file q name o
  qualified_same file q name None = binding_same file q name (file_binding b file q) refl
  qualified_same file q name (Some d) = refl

  named_same : (file : ℕ) (n : TypeName) → named_meaning shown path b file n ≡ named_meaning other path b file n
  named_same file (type_names.Plain x) = refl
  named_same file (type_names.Qualified q dot x) = qualified_same file q.name x.name (in_block b.names q.name)

  -- where each name means the declaration that it denotes

  pub raw_same : package_meanings (declared_alone shown) path b ≡ package_meanings (declared_alone other) path b
  raw_same = λ j file n. through Defined (named_same file n j)

  pub aliases_same : written_aliases shown path b os ≡ written_aliases other path b os
  aliases_same = λ j. aliases_with (raw_same j) path os

  pub all_same : all_entries shown path b os ≡ all_entries other path b os
  all_same = λ j. entries_by true (raw_same j) path [] os

  -- the types that are named are those of the package, and of the packages that are bound

  abbrev IsNamed : List ℕ → Type 0
  IsNamed q = (path ≡ q) ⊎ Bound q

  target_named : (t : Target) → IsTargetIn Bound t → IsTargetIn IsNamed t
  target_named (targets.«Package» q) h = inr h
  target_named (targets.Refused rule) h = h
  target_named (targets.Exported k) h = inr h

  named_binds : BindsInside IsNamed b
  named_binds = λ file name x is. target_named x.target (binds file name x is)

  abbrev ends : List (DeclRef × Term)
  ends = alias_ends (written_aliases other path b os) path

  -- where declarations of the packages that are bound mean the same

  module _ (far faraway : DeclKey → Term) (alike_far : (k : DeclKey) → Bound k.path → far k ≡ faraway k) where
    alone_same : (k : DeclKey) → IsNamed k.path → far_alone path far k ≡ far_alone path faraway k
    alone_same k (inl own) =
        let here : bytes_eq path k.path ≡ true = (bytes_eq-Decides path k.path).1 own in
        ap (λ b. if b then Defined k else far k) here ∙ sym (ap (λ b. if b then Defined k else faraway k) here)
    alone_same k (inr h) = λ j. if bytes_eq path k.path then Defined k else alike_far k h j

    own_same : (k : DeclKey) (o : Option Term) → AllInside IsNamed (type_keys o) → target_or k (far_alone path far) o ≡ target_or k (far_alone path faraway) o
    own_same k None inside = refl
    own_same k (Some t) inside = through_same IsNamed (far_alone path far) (far_alone path faraway) alone_same t inside

    own_alike : (k : DeclKey) → target_or k (far_alone path far) (alias_in ends k.decl) ≡ target_or k (far_alone path faraway) (alias_in ends k.decl)
    own_alike k = own_same k (alias_in ends k.decl) (alias_inside IsNamed ends (own_ends_inside IsNamed path b os (inl refl) named_binds other) k.decl)

    target_same : (k : DeclKey) → IsNamed k.path → target_by path ends far k ≡ target_by path ends faraway k
    target_same k (inl own) =
        let here : bytes_eq path k.path ≡ true = (bytes_eq-Decides path k.path).1 own in
        ap (λ b. if b then target_or k (far_alone path far) (alias_in ends k.decl) else far k) here
        ∙ (own_alike k ∙ sym (ap (λ b. if b then target_or k (far_alone path faraway) (alias_in ends k.decl) else faraway k) here))
    target_same k (inr h) = (let own = own_alike k in λ j. if bytes_eq path k.path then own j else alike_far k h j)

    targets_same : (k : DeclKey) → IsNamed k.path → target_by path (alias_ends (written_aliases shown path b os) path) far k ≡ target_by path ends faraway k
    targets_same k h = (λ j. target_by path (alias_ends (aliases_same j) path) far k) ∙ target_same k h

    pub meaning_same : (file : ℕ) (n : TypeName) → file_meaning (names_in shown far path b os) path b file n ≡ file_meaning (names_in other faraway path b os) path b file n
    meaning_same file n =
        through_same IsNamed (target_by path (alias_ends (written_aliases shown path b os) path) far) (target_by path ends faraway) targets_same
        (named_meaning shown path b file n) (named_inside IsNamed path b (inl refl) named_binds shown file n)
        ∙ ap (through (target_by path ends faraway)) (named_same file n)

    pub meanings_same : package_meanings (names_in shown far path b os) path b ≡ package_meanings (names_in other faraway path b os) path b
    meanings_same = λ j file n. meaning_same file n j
