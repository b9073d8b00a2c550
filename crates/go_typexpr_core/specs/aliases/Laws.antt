-- Laws of aliases and of their targets.
use Rattle.std.specs.Prelude.{◌≡◌, ◌↔◌, ◌⊎◌, ℕ, Bool, ◌&&◌, IsTrue, List, [], ◌∷◌, ◌++◌, Some, None, is_some, All, Contains, if◌then◌else◌, ⊤}
use Rattle.go_term_core.specs.decl_core.declared.keys.DeclKey.{DeclKey}
use Rattle.go_term_core.specs.decl_core.declared.keys.DeclRef.{DeclRef}
use Rattle.go_term_core.specs.Terms.{Term, NoType, Predeclared, ErrorType, Defined, PointerTo, StructOf, InterfaceOf}
use Rattle.go_typexpr_core.specs.entry.Entries.{all_entries, declared_entries}
use Rattle.go_typexpr_core.specs.entry.Meanings.{Shown}
use Rattle.go_typexpr_core.specs.entry.Outlines.{FileOutline, IsOutline}
use Rattle.go_scope_core.specs.block_core.Blocks.{BlocksModel}
use Rattle.go_type_core.specs.Built.{direct_keys, IsLooped}
use Rattle.go_type_core.specs.table_core.Entries.{Entry, find_entry}
use Rattle.go_typexpr_core.specs.aliases.Aliases.{alias_in, own_alias, aliased, alias_ends, target_by, with_targets}
use Rattle.go_typexpr_core.specs.aliases.Outlined.{names_in, written_aliases}

-- 1. Targets.

-- the aliases on the list lead from t to u: each means what the next one is, and the last means u
abbrev pub AliasesLead : List (DeclRef × Term) → List ℕ → Term → List DeclKey → Term → Type 0
AliasesLead xs path t [] u = t ≡ u
AliasesLead xs path t (k ∷ ks) u = (t ≡ Defined k) × ((w : Term) × (own_alias xs path k ≡ Some w) × AliasesLead xs path w ks u)

-- aliases lead from t to u, however many, and u names none
abbrev pub IsTarget : List (DeclRef × Term) → List ℕ → Term → Term → Type 0
IsTarget xs path t u = (through : List DeclKey) × AliasesLead xs path t through u × (aliased xs path u ≡ None)

-- aliases with their ends have exactly what aliases lead to, and no type where they lead nowhere
pub record TargetsAreEnds : Type 0 where
  pub ends : (xs : List (DeclRef × Term)) (path : List ℕ) (d : DeclRef) (w u : Term) → alias_in xs d ≡ Some w → IsTarget xs path w u → alias_in (alias_ends xs path) d ≡ Some u
  pub endless : (xs : List (DeclRef × Term)) (path : List ℕ) (d : DeclRef) (w : Term) → alias_in xs d ≡ Some w → ((u : Term) → IsTarget xs path w u → ⊥) → alias_in (alias_ends xs path) d ≡ Some NoType
  pub only : (xs : List (DeclRef × Term)) (path : List ℕ) (d : DeclRef) (u : Term) → alias_in (alias_ends xs path) d ≡ Some u
      → (w : Term) × (alias_in xs d ≡ Some w) × (IsTarget xs path w u ⊎ ((u ≡ NoType) × ((v : Term) → IsTarget xs path w v → ⊥)))
  pub others : (xs : List (DeclRef × Term)) (path : List ℕ) (d : DeclRef) → alias_in xs d ≡ None → alias_in (alias_ends xs path) d ≡ None

-- aliases lead to one type at most that names none
abbrev pub OneTarget : Type 0
OneTarget = (xs : List (DeclRef × Term)) (path : List ℕ) (t u v : Term) → IsTarget xs path t u → IsTarget xs path t v → u ≡ v

-- 2. Types and aliases that reach themselves.

-- the declaration of what is written, if it is an alias and reaches itself
abbrev pub looped_alias : (DeclKey → Bool) → List (DeclRef × Term) → Entry → List DeclRef
looped_alias looped xs w = if looped w.key && is_some (alias_in xs w.key.decl) then w.key.decl ∷ [] else []

-- the aliases among what is written of a package's types and aliases that reach themselves, in its order
abbrev pub looped_aliases : (DeclKey → Bool) → List (DeclRef × Term) → List Entry → List DeclRef
looped_aliases looped xs [] = []
looped_aliases looped xs (w ∷ ws) = looped_alias looped xs w ++ looped_aliases looped xs ws

abbrev pub AreLoopedAliases : List Entry → List (DeclRef × Term) → List DeclRef → Type 0
AreLoopedAliases written xs ds = (looped : DeclKey → Bool) × ((k : DeclKey) → IsTrue (looped k) ↔ IsLooped written k) × (ds ≡ looped_aliases looped xs written)

-- what may stand behind `=`: no pointer and no struct type
abbrev pub IsNamed : Term → Type 0
IsNamed NoType = ⊤
IsNamed (Predeclared b) = ⊤
IsNamed ErrorType = ⊤
IsNamed (Defined k) = ⊤
IsNamed (PointerTo t) = ⊥
IsNamed (StructOf path fs) = ⊥
IsNamed (InterfaceOf path ms) = ⊤

-- declarations of other packages than that of a path mean nothing that uses one of its types directly
abbrev pub MeansOthers : List ℕ → (DeclKey → Term) → Type 0
MeansOthers path far = (k j : DeclKey) → (k.path ≡ path → ⊥) → Contains (direct_keys (far k)) j → j.path ≡ path → ⊥

-- what is written of the types and aliases of the package of a path, and its types with the targets of all names
pub record AreWithTargets (path : List ℕ) (far : DeclKey → Term) (xs : List (DeclRef × Term)) (written types : List Entry) : Type 0 where
  -- an alias is written as a name, and is no type
  pub aliases : (k : DeclKey) (w : Term) → own_alias xs path k ≡ Some w → IsNamed w × (find_entry types k ≡ None) × ((e : Entry) × (find_entry written k ≡ Some e) × (e.term ≡ w))
  -- a type is of the package, and has the targets of the names in what is written of it
  pub types_are : (k : DeclKey) (e : Entry) → find_entry types k ≡ Some e
      → (k.path ≡ path) × ((w : Entry) × (find_entry written k ≡ Some w) × (e.term ≡ with_targets (target_by path (alias_ends xs path) far) w.term))
  -- nothing else is written
  pub others : (k : DeclKey) → own_alias xs path k ≡ None → find_entry types k ≡ None → find_entry written k ≡ None

-- a type reaches itself by what is written, through types and aliases, exactly where it does so by targets, through types alone
abbrev pub LoopsAgree : Type 0
LoopsAgree =
    (path : List ℕ) (far : DeclKey → Term) (xs : List (DeclRef × Term)) (written types : List Entry) → MeansOthers path far → AreWithTargets path far xs written types
    → (k : DeclKey) (e : Entry) → find_entry types k ≡ Some e → IsLooped written k ↔ IsLooped types k

-- 3. The types and aliases of a package.

-- what is written of a package's types and aliases, and its types with the targets of all names, are so
abbrev pub TypesHaveTargets : Type 0
TypesHaveTargets =
    (shown : Shown) (far : DeclKey → Term) (path : List ℕ) (b : BlocksModel) (os : List FileOutline) → All IsOutline os
    → ((k : DeclKey) (w : Term) → own_alias (written_aliases shown path b os) path k ≡ Some w → IsNamed w)
    → AreWithTargets path far (written_aliases shown path b os) (all_entries shown path b os) (declared_entries (names_in shown far path b os) path b os)
