-- A name of a type means what it denotes by the blocks that are open at the top of a file.
use Rattle.std.proofs.Common.{◌≡◌, ℕ, List, [], Option, Some, None, is_some, refl, sym, ap, ◌∙◌, if◌then◌else◌}
use Rattle.std.specs.Prelude.{option_map}
use Rattle.go_universe_core.specs.declared.Predeclared.{Predeclared}
use Rattle.go_universe_core.specs.Universe.{found}
use Rattle.go_term_core.specs.decl_core.declared.keys.DeclRef.{DeclRef}
use Rattle.go_scope_core.specs.block_core.declared.binding.Binding.{Binding}
use Rattle.go_scope_core.specs.block_core.Blocks.{BlocksModel, file_binding, file_has}
use Rattle.go_scope_core.specs.block_core.Tables.{in_block}
use Rattle.go_scope_core.specs.Models.{scopes_model}
use Rattle.go_scope_core.specs.Scopes.{Universe}
use Rattle.go_scope_core.proofs.Lookups.{by_parts, in_scope}
use Rattle.go_typexpr_core.specs.entry.Meanings.{Shown, outside_meaning, plain_meaning, qualified_meaning, type_in_binding, type_of_universe, through}
use Rattle.go_typexpr_core.specs.entry.Scoped.{type_denoted, type_behind, NamesAreInScope}

universe_case : (path : List ℕ) (u : Option Predeclared) → type_of_universe path u ≡ type_denoted path (option_map Universe u)
universe_case path None = refl
universe_case path (Some p) = refl

behind_universe : (shown : Shown) (name : List ℕ) (u : Option Predeclared) → type_in_binding shown name None ≡ type_behind shown name (option_map Universe u)
behind_universe shown name None = refl
behind_universe shown name (Some p) = refl

-- a name that the package block has is none of the file's
no_binding : (b : BlocksModel) (file : ℕ) (name : List ℕ) (d : DeclRef) → in_block b.names name ≡ Some d → file_binding b file name ≡ None
no_binding b file name d h = ap (λ o. if is_some o then None else file_has b file name) h

plain_case : (path : List ℕ) (b : BlocksModel) (file : ℕ) (name : List ℕ) (p : Option DeclRef) (f : Option Binding) → in_block b.names name ≡ p → file_binding b file name ≡ f → plain_meaning path b file name p ≡ type_denoted path (by_parts None f p (found name))
plain_case path b file name (Some d) None h k = refl
plain_case path b file name (Some d) (Some x) h k = (let no : None ≡ Some x = sym (no_binding b file name d h) ∙ k in cc)
plain_case path b file name None (Some x) h k = ap (outside_meaning path name) k
plain_case path b file name None None h k = ap (outside_meaning path name) k ∙ universe_case path (found name)

qualified_case : (shown : Shown) (b : BlocksModel) (file : ℕ) (qualifier name : List ℕ) (p : Option DeclRef) (f : Option Binding) → in_block b.names qualifier ≡ p → file_binding b file qualifier ≡ f → qualified_meaning shown b file qualifier name p ≡ type_behind shown name (by_parts None f p (found qualifier))
qualified_case shown b file qualifier name (Some d) None h k = refl
qualified_case shown b file qualifier name (Some d) (Some x) h k = (let no : None ≡ Some x = sym (no_binding b file qualifier d h) ∙ k in cc)
qualified_case shown b file qualifier name None (Some x) h k = ap (type_in_binding shown name) k
qualified_case shown b file qualifier name None None h k = ap (type_in_binding shown name) k ∙ behind_universe shown name (found qualifier)

pub names_are_in_scope : NamesAreInScope
names_are_in_scope = record {
  plain = λ shows path b file x.
      ap (through shows.target) (plain_case path b file x.name (in_block b.names x.name) (file_binding b file x.name) refl refl
      ∙ sym (ap (type_denoted path) (in_scope (scopes_model b file []) x.name)));
  qualified = λ shows path b file q dot x.
      ap (through shows.target) (qualified_case shows.shown b file q.name x.name (in_block b.names q.name) (file_binding b file q.name) refl refl
      ∙ sym (ap (type_behind shows.shown x.name) (in_scope (scopes_model b file []) q.name)));
}
