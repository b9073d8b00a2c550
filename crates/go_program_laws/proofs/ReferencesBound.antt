-- A name that means a declaration of the package is one of its block.
use Rattle.std.proofs.Common.{◌≡◌, ℕ, Bool, true, false, cond, List, [], ◌∷◌, Option, Some, None, refl, sym, ap, ◌∙◌}
use Rattle.std.specs.Option.{option_map}
use Rattle.std.specs.Str.{bytes_eq}
use Rattle.go_universe_core.specs.declared.Predeclared.{Predeclared}
use Rattle.go_term_core.specs.decl_core.declared.keys.DeclRef.{DeclRef}
use Rattle.go_names_core.specs.block_core.declared.binding.Binding.{Binding}
use Rattle.go_names_core.specs.block_core.Blocks.{BlocksModel, held_in}
use Rattle.go_names_core.specs.block_core.Tables.{in_block}
use Rattle.go_names_core.specs.scope_stack.Blocks.{or_else}
use Rattle.go_names_core.specs.scope_core.Scopes.{Denoted, denoting, universe}
use Rattle.go_names_core.specs.scope_core.Scopes as scopes
use Rattle.go_names_core.specs.Scope.{beyond_in, some_meaning}
use Rattle.go_names_core.specs.declared.meaning.Outside.TheVariants as outsides
use Rattle.go_body_core.specs.env_core.declared.meaning.Meaning.{Meaning}
use Rattle.go_body_core.specs.env_core.declared.meaning.Meaning.TheVariants as means

denoted_in : {X : Type 0} (f : X → Denoted) (block : List (List ℕ × X)) (name : List ℕ) → in_block (denoting f block) name ≡ option_map f (in_block block name)
denoted_in f [] name = refl
denoted_in {X = X} f (e ∷ block) name = by (bytes_eq name e.0) (denoted_in f block name)
  where
    by : (b : Bool) → in_block (denoting f block) name ≡ option_map f (in_block block name) → cond b (Some (f e.1)) (in_block (denoting f block) name) ≡ option_map f (cond b (Some e.1) (in_block block name))
    by true rest = refl
    by false rest = rest

module _ (b : BlocksModel) (file : ℕ) (name : List ℕ) (r : DeclRef) where
  abbrev means_in : Option Binding → Option DeclRef → Option Predeclared → Option Meaning
  means_in x d p = some_meaning means.Outside [] (or_else (or_else (or_else None (option_map scopes.File x)) (option_map scopes.Package d)) (option_map scopes.Universe p))

  named_by : (x : Option Binding) (d : Option DeclRef) (p : Option Predeclared) → in_block b.names name ≡ d → means_in x d p ≡ Some (means.Outside (outsides.«Package» r)) → in_block b.names name ≡ Some r
  named_by (Some x) d p e h = absurd (cc h)
  named_by None (Some d) p e h = (let same : d ≡ r = cc h in e ∙ ap (λ x. Some x) same)
  named_by None None (Some p) e h = absurd (cc h)
  named_by None None None e h = absurd (cc h)

  pub named_outside : beyond_in means.Outside b file name ≡ Some (means.Outside (outsides.«Package» r)) → in_block b.names name ≡ Some r
  named_outside h =
      named_by (in_block (held_in b file) name) (in_block b.names name) (in_block universe name) refl
      (sym ((ap (λ o. some_meaning means.Outside [] (or_else (or_else (or_else None o) (in_block (denoting scopes.Package b.names) name)) (in_block (denoting scopes.Universe universe) name))) (denoted_in scopes.File (held_in b file) name))
      ∙ (ap (λ o. some_meaning means.Outside [] (or_else (or_else (or_else None (option_map scopes.File (in_block (held_in b file) name))) o) (in_block (denoting scopes.Universe universe) name))) (denoted_in scopes.Package b.names name)
      ∙ ap (λ o. some_meaning means.Outside [] (or_else (or_else (or_else None (option_map scopes.File (in_block (held_in b file) name))) (option_map scopes.Package (in_block b.names name))) o)) (denoted_in scopes.Universe universe name)))
      ∙ h)
