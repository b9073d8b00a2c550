-- What the blocks of a scope have at a name.
use Rattle.std.proofs.Common.{◌≡◌, ℕ, List, [], ◌∷◌, map, Option, Some, None, cond, is_some, refl, sym, ap, ◌∙◌}
use Rattle.std.specs.Prelude.{option_map, find}
use Rattle.std.specs.Map.{lookup}
use Rattle.std.specs.Str.{bytes_eq}
use Rattle.std.proofs.lemmas.Map.Made.{lookup-map_values}
use Rattle.go_block_core.specs.declared.binding.Binding.{Binding}
use Rattle.go_block_core.specs.decl_core.declared.keys.DeclRef.{DeclRef}
use Rattle.go_block_core.specs.Blocks.{BlocksModel, held_in, file_has, file_binding}
use Rattle.go_block_core.proofs.TableLemmas.{held_is_binding}
use Rattle.go_block_core.specs.scope_stack.declared.DeclId.{DeclId}
use Rattle.go_block_core.specs.scope_stack.Blocks.{in_block, found_in, or_else}
use Rattle.go_universe_core.specs.declared.TheConstants.{PREDECLARED}
use Rattle.go_universe_core.specs.declared.Predeclared.{Predeclared}
use Rattle.go_universe_core.specs.Universe.{spelling_of, found}
use Rattle.go_scope_core.specs.Models.{ScopesModel, scopes_model}
use Rattle.go_scope_core.specs.Scopes.{Denoted, Universe, Package, File, Local, universe, inside_universe, scope_blocks}

-- what the file's block has holds where the package block has no such name
pub file_alone : (b : BlocksModel) (file : ℕ) (name : List ℕ) → in_block b.names name ≡ None → file_has b file name ≡ file_binding b file name
file_alone b file name absent = sym (ap (λ o. cond (is_some o) None (file_has b file name)) absent)

-- a look-up in blocks whose values are mapped
module _ {X Y : Type 0} (f : X → Y) where
  pub found_in-map : (blocks : List (List (List ℕ × X))) (name : List ℕ) → found_in (map (λ block. map (λ e. (e.0, f e.1)) block) blocks) name ≡ option_map f (found_in blocks name)
  found_in-map [] name = refl
  found_in-map (block ∷ blocks) name =
      ap (λ o. or_else o (in_block (map (λ e. (e.0, f e.1)) block) name)) (found_in-map blocks name)
      ∙ (ap (or_else (option_map f (found_in blocks name))) (lookup-map_values f (bytes_eq name) block)
      ∙ by (found_in blocks name) (in_block block name))
    where
      by : (a b : Option X) → or_else (option_map f a) (option_map f b) ≡ option_map f (or_else a b)
      by None b = refl
      by (Some a) b = refl

-- what the universe block has at a name is the predeclared name that is spelled so
spelled : (name : List ℕ) (ps : List Predeclared) → lookup (bytes_eq name) (map (λ p. (spelling_of p, p)) ps) ≡ find (λ p. bytes_eq name (spelling_of p)) ps
spelled name [] = refl
spelled name (p ∷ ps) = ap (λ o. cond (bytes_eq name (spelling_of p)) (Some p) o) (spelled name ps)

in_universe : (name : List ℕ) → in_block universe name ≡ found name
unfolding universe found
in_universe name = spelled name PREDECLARED

-- what the parts of a scope have at a name, the innermost first: those inside the universe block, and with it
abbrev pub inner_parts : Option DeclId → Option Binding → Option DeclRef → Option Denoted
inner_parts l f p = or_else (or_else (option_map Local l) (option_map File f)) (option_map Package p)

abbrev pub by_parts : Option DeclId → Option Binding → Option DeclRef → Option Predeclared → Option Denoted
by_parts l f p u = or_else (inner_parts l f p) (option_map Universe u)

pub in_inside : (s : ScopesModel) (name : List ℕ) → found_in (inside_universe s) name ≡ inner_parts (found_in s.open_blocks name) (file_binding s.blocks s.file name) (in_block s.blocks.names name)
in_inside s name =
    ap (λ o. or_else (or_else o (in_block (map (λ e. (e.0, File e.1)) (held_in s.blocks s.file)) name)) (in_block (map (λ e. (e.0, Package e.1)) s.blocks.names) name)) (found_in-map Local s.open_blocks name)
    ∙ (ap (λ o. or_else (or_else (option_map Local (found_in s.open_blocks name)) o) (in_block (map (λ e. (e.0, Package e.1)) s.blocks.names) name)) (lookup-map_values File (bytes_eq name) (held_in s.blocks s.file) ∙ ap (option_map File) (held_is_binding s.blocks s.file name))
    ∙ ap (or_else (or_else (option_map Local (found_in s.open_blocks name)) (option_map File (file_binding s.blocks s.file name)))) (lookup-map_values Package (bytes_eq name) s.blocks.names))

-- with what is inside, what a name denotes
pub by_inside : (s : ScopesModel) (name : List ℕ) (o : Option Denoted) → found_in (inside_universe s) name ≡ o → found_in (scope_blocks s) name ≡ or_else o (option_map Universe (found name))
by_inside s name o is =
    ap (λ a. or_else a (in_block (map (λ e. (e.0, Universe e.1)) universe) name)) is
    ∙ ap (or_else o) (lookup-map_values Universe (bytes_eq name) universe ∙ ap (option_map Universe) (in_universe name))

pub in_scope : (s : ScopesModel) (name : List ℕ) → found_in (scope_blocks s) name ≡ by_parts (found_in s.open_blocks name) (file_binding s.blocks s.file name) (in_block s.blocks.names name) (found name)
in_scope s name = by_inside s name (inner_parts (found_in s.open_blocks name) (file_binding s.blocks s.file name) (in_block s.blocks.names name)) (in_inside s name)

-- a scope, by what its parts have
pub found_by_parts : (b : BlocksModel) (file : ℕ) (open_blocks : List (List (List ℕ × DeclId))) (s : ScopesModel) (name : List ℕ) (l : Option DeclId) (f : Option Binding) (p : Option DeclRef) (u : Option Predeclared) → scopes_model b file open_blocks ≡ s → l ≡ found_in open_blocks name → f ≡ file_binding b file name → p ≡ in_block b.names name → u ≡ found name → by_parts l f p u ≡ found_in (scope_blocks s) name
found_by_parts b file open_blocks s name l f p u view is_l is_f is_p is_u =
    ap (λ o. by_parts o f p u) is_l
    ∙ (ap (λ o. by_parts (found_in open_blocks name) o p u) is_f
    ∙ (ap (λ o. by_parts (found_in open_blocks name) (file_binding b file name) o u) is_p
    ∙ (ap (by_parts (found_in open_blocks name) (file_binding b file name) (in_block b.names name)) is_u
    ∙ (sym (in_scope (scopes_model b file open_blocks) name) ∙ ap (λ m. found_in (scope_blocks m) name) view))))
