-- Names mean types without parts, so that what a name means is all that its target changes.
use Rattle.std.proofs.Common.{◌≡◌, ℕ, List, Option, Some, None, refl, subst}
use Rattle.go_tree_nodes.specs.declared.types.TypeName.{TypeName}
use Rattle.go_tree_nodes.specs.declared.types.TypeName.TheVariants as type_names
use Rattle.go_universe_core.specs.declared.Predeclared.{Predeclared as PredeclaredName}
use Rattle.go_universe_core.specs.declared.Predeclared.TheVariants as universe
use Rattle.go_universe_core.specs.Universe.{found}
use Rattle.go_term_core.specs.decl_core.declared.keys.DeclKey.{DeclKey}
use Rattle.go_term_core.specs.decl_core.declared.keys.DeclRef.{DeclRef}
use Rattle.go_term_core.specs.decl_core.declared.places.DeclKind.{DeclKind}
use Rattle.go_term_core.specs.decl_core.declared.places.DeclKind.TheVariants as kinds
use Rattle.go_term_core.specs.Terms.{Term}
use Rattle.go_scope_core.specs.block_core.Bindings.{key_of}
use Rattle.go_scope_core.specs.block_core.Blocks.{BlocksModel, file_binding}
use Rattle.go_scope_core.specs.block_core.Tables.{in_block}
use Rattle.go_scope_core.specs.block_core.declared.binding.Binding.{Binding}
use Rattle.go_scope_core.specs.block_core.declared.binding.Target.{Target}
use Rattle.go_scope_core.specs.block_core.declared.binding.Target.TheVariants as targets
use Rattle.go_typexpr_core.specs.entry.Meanings.{Shown, declared_alone, file_meaning, named_meaning, outside_meaning, plain_meaning, qualified_meaning, shown_type, through, type_in_binding, type_in_target, type_of_key, type_of_kind, type_of_predeclared, type_of_target, type_of_universe}
use Rattle.go_typexpr_core.proofs.EntryTargeting.{through_itself}
use Rattle.go_typexpr_core.specs.aliases.Aliases.{with_targets}

module _ (mean : DeclKey → Term) where
  abbrev IsPlain : Term → Type 0
  IsPlain t = with_targets mean t ≡ through mean t

  kind_plain : (k : DeclKey) (kind : DeclKind) → IsPlain (type_of_kind k kind)
  kind_plain k kinds.«Type» = refl
  kind_plain k _ = refl

  key_plain : (k : DeclKey) → IsPlain (type_of_key k)
  key_plain k = kind_plain k k.decl.kind

  predeclared_plain : (path : List ℕ) (p : PredeclaredName) → IsPlain (type_of_predeclared path p)
  predeclared_plain path universe.Any = refl
  predeclared_plain path universe.Bool = refl
  predeclared_plain path universe.Error = refl
  predeclared_plain path universe.Int = refl
  predeclared_plain path universe.String = refl
  predeclared_plain path _ = refl

  universe_plain : (path : List ℕ) (o : Option PredeclaredName) → IsPlain (type_of_universe path o)
  universe_plain path None = refl
  universe_plain path (Some p) = predeclared_plain path p

  target_plain : (t : Target) → IsPlain (type_of_target t)
  target_plain (targets.«Package» path) = refl
  target_plain (targets.Refused rule) = refl
  target_plain (targets.Exported k) = key_plain k

  outside_plain : (path name : List ℕ) (o : Option Binding) → IsPlain (outside_meaning path name o)
  outside_plain path name None = universe_plain path (found name)
  outside_plain path name (Some b) = target_plain b.target

  own_plain : (path : List ℕ) (b : BlocksModel) (file : ℕ) (name : List ℕ) (o : Option DeclRef) → IsPlain (plain_meaning path b file name o)
  own_plain path b file name None = outside_plain path name (file_binding b file name)
  own_plain path b file name (Some d) = key_plain (key_of path d)

  shown_plain : (path : List ℕ) (o : Option DeclRef) → IsPlain (shown_type path o)
  shown_plain path None = refl
  shown_plain path (Some d) = key_plain (key_of path d)

  behind_plain : (shown : Shown) (name : List ℕ) (t : Target) → IsPlain (type_in_target shown name t)
  behind_plain shown name (targets.«Package» path) = shown_plain path (shown path name)
  behind_plain shown name (targets.Refused rule) = refl
  behind_plain shown name (targets.Exported k) = refl

  binding_plain : (shown : Shown) (name : List ℕ) (o : Option Binding) → IsPlain (type_in_binding shown name o)
  binding_plain shown name None = refl
  binding_plain shown name (Some b) = behind_plain shown name b.target

  qualified_plain : (shown : Shown) (b : BlocksModel) (file : ℕ) (qualifier name : List ℕ) (o : Option DeclRef) → IsPlain (qualified_meaning shown b file qualifier name o)
  qualified_plain shown b file qualifier name None = binding_plain shown name (file_binding b file qualifier)
  qualified_plain shown b file qualifier name (Some d) = refl

  named_plain : (shown : Shown) (path : List ℕ) (b : BlocksModel) (file : ℕ) (n : TypeName) → IsPlain (named_meaning shown path b file n)
  named_plain shown path b file (type_names.Plain x) = own_plain path b file x.name (in_block b.names x.name)
  named_plain shown path b file (type_names.Qualified q dot x) = qualified_plain shown b file q.name x.name (in_block b.names q.name)

  pub plain_names : (shown : Shown) (path : List ℕ) (b : BlocksModel) (file : ℕ) (n : TypeName) → with_targets mean (file_meaning (declared_alone shown) path b file n) ≡ through mean (file_meaning (declared_alone shown) path b file n)
  plain_names shown path b file n = subst IsPlain (through_itself (named_meaning shown path b file n)) (named_plain shown path b file n)
