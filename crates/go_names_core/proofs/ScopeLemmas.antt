-- What a name means in a scope: by the open blocks of the function, and then by what is outside it.
use Rattle.std.proofs.Common.{◌≡◌, ℕ, List, [], ◌∷◌, ◌++◌, map, Option, Some, None, refl, sym, ap, ◌∙◌}
use Rattle.std.specs.Prelude.{option_map, slice_get}
use Rattle.std.specs.Str.{bytes_eq}
use Rattle.std.proofs.lemmas.Map.Made.{lookup-map_values}
use Rattle.go_scope_core.specs.block_core.Blocks.{BlocksModel, held_in}
use Rattle.go_local_core.specs.scope_stack.declared.DeclId.{DeclId}
use Rattle.go_local_core.specs.scope_stack.Blocks.{in_block, found_in, or_else}
use Rattle.go_scope_core.specs.Models.{scopes_model}
use Rattle.go_scope_core.specs.Scopes.{Denoted, Universe, Package, File, Local, denoting, universe, scope_blocks}
use Rattle.go_scope_core.specs.Laws.{denotes}
use Rattle.go_names_core.specs.declared.meaning.Outside.{Outside}
use Rattle.go_names_core.specs.Scope.{some_meaning, beyond_in}
use Rattle.go_names_core.specs.mirrors.States.{Blocks}

-- what a local means by its number, or else this
abbrev pub meant_or : {X : Type 0} → List X → Option DeclId → Option X → Option X
meant_or ms None o = o
meant_or ms (Some d) o = slice_get ms d.0

or_assoc : {X : Type 0} (a b c : Option X) → or_else (or_else a b) c ≡ or_else a (or_else b c)
or_assoc (Some x) b c = refl
or_assoc None b c = refl

-- what open blocks have at a name is found among all blocks
found_open : (outer : List (List (List ℕ × Denoted))) (bs : Blocks) (n : List ℕ) → found_in (outer ++ map (denoting Local) bs) n ≡ or_else (option_map Local (found_in bs n)) (found_in outer n)
found_open [] bs n = found_in_map bs ∙ sym (none (option_map Local (found_in bs n)))
  where
    none : {X : Type 0} (o : Option X) → or_else o None ≡ o
    none (Some x) = refl
    none None = refl

    found_in_map : (bs : Blocks) → found_in (map (denoting Local) bs) n ≡ option_map Local (found_in bs n)
    found_in_map [] = refl
    found_in_map (b ∷ bs) =
        ap (λ o. or_else o (in_block (map (λ e. (e.0, Local e.1)) b) n)) (found_in_map bs)
        ∙ (ap (or_else (option_map Local (found_in bs n))) (lookup-map_values Local (bytes_eq n) b) ∙ by (found_in bs n) (in_block b n))
      where
        by : (a c : Option DeclId) → or_else (option_map Local a) (option_map Local c) ≡ option_map Local (or_else a c)
        by None c = refl
        by (Some a) c = refl
found_open (b ∷ outer) bs n = ap (λ o. or_else o (in_block b n)) (found_open outer bs n) ∙ or_assoc (option_map Local (found_in bs n)) (found_in outer n) (in_block b n)

-- what is no local means the same whatever locals mean
module _ {X : Type 0} (outside : Outside → X) (ms : List X) where
  abbrev NoLocal : Option Denoted → Type 0
  NoLocal o = some_meaning outside ms o ≡ some_meaning outside [] o

  no_local_or : (a b : Option Denoted) → NoLocal a → NoLocal b → NoLocal (or_else a b)
  no_local_or None b h k = k
  no_local_or (Some a) b h k = h

  local_or : (d : Option DeclId) (o : Option Denoted) → NoLocal o → some_meaning outside ms (or_else (option_map Local d) o) ≡ meant_or ms d (some_meaning outside [] o)
  local_or None o h = h
  local_or (Some d) o h = refl

  mapped : {Y : Type 0} (f : Y → Denoted) (b : List (List ℕ × Y)) (n : List ℕ) → ((y : Y) → NoLocal (Some (f y))) → NoLocal (in_block (denoting f b) n)
  mapped {Y} f b n h = ap (some_meaning outside ms) found ∙ (by (in_block b n) ∙ sym (ap (some_meaning outside []) found))
    where
      found : in_block (denoting f b) n ≡ option_map f (in_block b n)
      found = lookup-map_values f (bytes_eq n) b

      by : (o : Option Y) → NoLocal (option_map f o)
      by None = refl
      by (Some y) = h y

  -- the blocks outside the function have no local
  around_has_none : (around : BlocksModel) (file : ℕ) (n : List ℕ) → NoLocal (denotes (scopes_model around file []) n)
  around_has_none around file n =
      no_local_or (or_else (in_block (denoting File (held_in around file)) n) (in_block (denoting Package around.names) n)) (in_block (denoting Universe universe) n)
      (no_local_or (in_block (denoting File (held_in around file)) n) (in_block (denoting Package around.names) n) (mapped File (held_in around file) n (λ y. refl)) (mapped Package around.names n (λ y. refl)))
      (mapped Universe universe n (λ y. refl))

  pub scope_means : (around : BlocksModel) (file : ℕ) (bs : Blocks) (n : List ℕ) → some_meaning outside ms (denotes (scopes_model around file bs) n) ≡ meant_or ms (found_in bs n) (beyond_in outside around file n)
  scope_means around file bs n =
      ap (some_meaning outside ms) (found_open (scope_blocks (scopes_model around file [])) bs n)
      ∙ local_or (found_in bs n) (denotes (scopes_model around file []) n) (around_has_none around file n)
