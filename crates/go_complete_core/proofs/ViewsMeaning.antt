-- What the names of types mean in the files of a package is the same where those packages show the same that its imports bind.
use Rattle.std.proofs.Common.{◌≡◌, ℕ, Bool, true, false, List, ◌⊎◌, inl, inr, refl, sym, ap, ◌∙◌}
use Rattle.std.specs.Prelude.{Option, Some, None, if◌then◌else◌}
use Rattle.std.specs.Str.{bytes_eq}
use Rattle.std.proofs.lemmas.Bool.{true≢false}
use Rattle.std.proofs.lemmas.Slice.Eq.{bytes_eq-Decides}
use Rattle.go_tree_nodes.specs.declared.types.TypeName.{TypeName}
use Rattle.go_tree_nodes.specs.declared.types.TypeName.TheVariants as type_names
use Rattle.go_term_core.specs.decl_core.declared.keys.DeclKey.{DeclKey}
use Rattle.go_term_core.specs.decl_core.declared.keys.DeclRef.{DeclRef}
use Rattle.go_term_core.specs.Terms.{Term, Defined}
use Rattle.go_typexpr_core.specs.aliases.Aliases.{alias_ends, alias_in, far_alone, target_by, target_or}
use Rattle.go_typexpr_core.specs.aliases.Outlined.{aliases_with, names_in, written_aliases}
use Rattle.go_names_core.specs.block_core.declared.binding.Binding.{Binding}
use Rattle.go_names_core.specs.block_core.declared.binding.Target.{Target}
use Rattle.go_names_core.specs.block_core.declared.binding.Target.TheVariants as targets
use Rattle.go_names_core.specs.block_core.Blocks.{BlocksModel, file_binding}
use Rattle.go_names_core.specs.block_core.Tables.{in_block}
use Rattle.go_typexpr_core.specs.entry.Entries.{package_meanings}
use Rattle.go_typexpr_core.specs.entry.Meanings.{Shown, declared_alone, file_meaning, named_meaning, qualified_meaning, shown_type, through, type_in_binding, type_in_target}
use Rattle.go_typexpr_core.specs.entry.Outlines.{FileOutline}
use Rattle.go_snap_core.specs.whole_workspace.Known.{BindsInside, IsTargetIn, type_keys}
use Rattle.go_snap_core.proofs.WholeWorkspaceNames.{AllInside, named_inside}
use Rattle.go_snap_core.proofs.WholeWorkspaceTargets.{AreAliasesInside, alias_inside, own_ends_inside, through_same}

module _ (Inside : List ℕ → Type 0) (path : List ℕ) (b : BlocksModel) (binds : BindsInside Inside b) (shown other : Shown) (alike : (q name : List ℕ) → Inside q → shown q name ≡ other q name) where
  -- what names denote

  in_target_same : (name : List ℕ) (t : Target) → IsTargetIn Inside t → type_in_target shown name t ≡ type_in_target other name t
  in_target_same name (targets.«Package» q) h = ap (shown_type q) (alike q name h)
  in_target_same name (targets.Refused rule) h = refl
  in_target_same name (targets.Exported k) h = refl

  binding_same : (file : ℕ) (q name : List ℕ) (o : Option Binding) → file_binding b file q ≡ o → type_in_binding shown name o ≡ type_in_binding other name o
  binding_same file q name None e = refl
  binding_same file q name (Some x) e = in_target_same name x.target (binds file q x e)

  qualified_same : (file : ℕ) (q name : List ℕ) (o : Option DeclRef) → qualified_meaning shown b file q name o ≡ qualified_meaning other b file q name o
  qualified_same file q name None = binding_same file q name (file_binding b file q) refl
  qualified_same file q name (Some d) = refl

  named_same : (file : ℕ) (n : TypeName) → named_meaning shown path b file n ≡ named_meaning other path b file n
  named_same file (type_names.Plain x) = refl
  named_same file (type_names.Qualified q dot x) = qualified_same file q.name x.name (in_block b.names q.name)

  -- names denote types of the package itself and of those that its imports bind

  abbrev Near : List ℕ → Type 0
  Near q = (q ≡ path) ⊎ Inside q

  target_near : (t : Target) → IsTargetIn Inside t → IsTargetIn Near t
  target_near (targets.«Package» q) h = inr h
  target_near (targets.Refused rule) h = tt
  target_near (targets.Exported k) h = inr h

  near_binds : (file : ℕ) (name : List ℕ) (x : Binding) → file_binding b file name ≡ Some x → IsTargetIn Near x.target
  near_binds file name x e = target_near x.target (binds file name x e)

  -- aliases, and what declarations mean

  module _ (os : List FileOutline) (far faraway : DeclKey → Term) (alike_far : (k : DeclKey) → Inside k.path → far k ≡ faraway k) where
    raw_same : package_meanings (declared_alone shown) path b ≡ package_meanings (declared_alone other) path b
    raw_same = λ j file n. through Defined (named_same file n j)

    aliases_same : written_aliases shown path b os ≡ written_aliases other path b os
    aliases_same = λ j. aliases_with (raw_same j) path os

    apart : (k : DeclKey) → Near k.path → bytes_eq path k.path ≡ false → far k ≡ faraway k
    apart k (inl own) e = absurd (true≢false (sym ((bytes_eq-Decides path k.path).1 (sym own)) ∙ e))
    apart k (inr h) e = alike_far k h

    alone_same : (k : DeclKey) → Near k.path → far_alone path far k ≡ far_alone path faraway k
    alone_same k h = by (bytes_eq path k.path) refl
      where
        by : (c : Bool) → bytes_eq path k.path ≡ c → (if c then Defined k else far k) ≡ (if c then Defined k else faraway k)
        by true e = refl
        by false e = apart k h e

    own_same : (k : DeclKey) (o : Option Term) → AllInside Near (type_keys o) → target_or k (far_alone path far) o ≡ target_or k (far_alone path faraway) o
    own_same k None inside = refl
    own_same k (Some t) inside = through_same Near (far_alone path far) (far_alone path faraway) alone_same t inside

    target_same : (ends : List (DeclRef × Term)) → AreAliasesInside Near ends → (k : DeclKey) → Near k.path → target_by path ends far k ≡ target_by path ends faraway k
    target_same ends inside k h = by (bytes_eq path k.path) refl
      where
        by : (c : Bool) → bytes_eq path k.path ≡ c
            → (if c then target_or k (far_alone path far) (alias_in ends k.decl) else far k) ≡ (if c then target_or k (far_alone path faraway) (alias_in ends k.decl) else faraway k)
        by true e = own_same k (alias_in ends k.decl) (alias_inside Near ends inside k.decl)
        by false e = apart k h e

    targets_same : (k : DeclKey) → Near k.path → target_by path (alias_ends (written_aliases shown path b os) path) far k ≡ target_by path (alias_ends (written_aliases other path b os) path) faraway k
    targets_same k h =
        (λ j. target_by path (alias_ends (aliases_same j) path) far k)
        ∙ target_same (alias_ends (written_aliases other path b os) path) (own_ends_inside Near path b os (inl refl) near_binds other) k h

    pub meaning_same : (file : ℕ) (n : TypeName) → file_meaning (names_in shown far path b os) path b file n ≡ file_meaning (names_in other faraway path b os) path b file n
    meaning_same file n =
        through_same Near (target_by path (alias_ends (written_aliases shown path b os) path) far) (target_by path (alias_ends (written_aliases other path b os) path) faraway) targets_same
        (named_meaning shown path b file n) (named_inside Near path b (inl refl) near_binds shown file n)
        ∙ ap (through (target_by path (alias_ends (written_aliases other path b os) path) faraway)) (named_same file n)

    pub meanings_same : package_meanings (names_in shown far path b os) path b ≡ package_meanings (names_in other faraway path b os) path b
    meanings_same = λ j file n. meaning_same file n j
