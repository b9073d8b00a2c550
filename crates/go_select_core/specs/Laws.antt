-- Laws of selectors.
use Rattle.std.specs.Prelude.{◌≡◌, ◌↔◌, ◌≤◌, ℕ, suc, Bool, List, ◌∷◌, length, map, Contains, Result, Ok}
use Rattle.go_term_core.specs.decl_core.declared.keys.DeclKey.{DeclKey}
use Rattle.go_path_core.specs.text_core.declared.name.Name.{Name}
use Rattle.go_path_core.specs.text_core.declared.rule.Rule.{Rule}
use Rattle.go_term_core.specs.Terms.{Term, StructOf, Fields, term_keys, sign_keys}
use Rattle.go_embed_core.specs.table_core.Entries.{Entry, EntryLook, find_entry}
use Rattle.go_embed_core.specs.table_core.Laws.{AgreeFrom, IsReached}
use Rattle.go_embed_core.specs.Owners.{Found, AFieldOf, AMethodOf, AnInterfaces, TheErrorMethod}
use Rattle.go_embed_core.specs.OwnersShown.{found_shown}
use Rattle.go_select_core.specs.declared.levels.search.Selected.{Selected}
use Rattle.go_select_core.specs.levels.Paths.{FieldsLead, Hit, HasHit}
use Rattle.go_select_core.specs.levels.Selectors.{IsSelectorAnswer, IsRule}
use Rattle.go_select_core.specs.Selections.{IsListing}

-- a selector has at most one answer
pub record OnlyOneAnswer : Type 0 where
  pub selected : (look : EntryLook) (t : Term) (name from : List ℕ) (r s : Selected) → IsSelectorAnswer look t name from (Ok r) → IsSelectorAnswer look t name from (Ok s)
      → (r.path ≡ s.path) × (found_shown r.member ≡ found_shown s.member) × (r.through_pointer ≡ s.through_pointer)
  pub refused : (look : EntryLook) (t : Term) (name from : List ℕ) (r s : Rule) → IsRule look t name from r → IsRule look t name from s → r ≡ s
  pub not_both : (look : EntryLook) (t : Term) (name from : List ℕ) (s : Selected) (r : Rule) → IsSelectorAnswer look t name from (Ok s) → IsRule look t name from r → ⊥

abbrev pub found_keys : Found → List DeclKey
found_keys (AFieldOf path place t) = term_keys t
found_keys (AMethodOf path place pointer g) = sign_keys g
found_keys (AnInterfaces path place g) = sign_keys g
found_keys TheErrorMethod = Rattle.std.specs.Prelude.List.[]

-- an answer depends on what the type reaches alone, and mentions what is reached alone
pub record SelectionIsLocal : Type 0 where
  pub same : (look other : EntryLook) (t : Term) (name from : List ℕ) (r : Result Selected Rule) → AgreeFrom look other t → IsSelectorAnswer look t name from r ↔ IsSelectorAnswer other t name from r
  pub inside : (look : EntryLook) (t : Term) (name from : List ℕ) (s : Selected) (k : DeclKey) → IsSelectorAnswer look t name from (Ok s) → Contains (found_keys (found_shown s.member)) k → IsReached look t k

-- no struct type stands as it is written on a path, but at its start: each embedded field has a type's name, with a star or without
abbrev pub EmbedsNames : EntryLook → Term → Type 0
EmbedsNames look t = (i : ℕ) (path : List ℕ) (pointer : Bool) (p : List ℕ) (fs : Fields) → FieldsLead look t (i ∷ path) pointer (StructOf p fs) → ⊥

-- paths that are at most one field longer than a table has types suffice
abbrev pub ShortPathsSuffice : Type 0
ShortPathsSuffice = (es : List Entry) (t : Term) (name from : List ℕ) → EmbedsNames (find_entry es) t → HasHit (find_entry es) t name from
    → (path : List ℕ) × (pointer : Bool) × (number : ℕ) × (f : Found) × Hit (find_entry es) t name from path pointer number f × (length path ≤ suc (length es))

-- a name with what it denotes
abbrev pub name_listed : Name × Selected → List ℕ × (List ℕ × (Found × Bool))
name_listed n = (n.0, (n.1.path, (found_shown n.1.member, n.1.through_pointer)))

-- the names that selectors have are listed in one way alone
abbrev pub OneListing : Type 0
OneListing = (look : EntryLook) (t : Term) (from : List ℕ) (names others : List (Name × Selected)) → IsListing look t from names → IsListing look t from others → map name_listed names ≡ map name_listed others

-- they depend on what the type reaches alone
abbrev pub ListingIsLocal : Type 0
ListingIsLocal = (look other : EntryLook) (t : Term) (from : List ℕ) (names : List (Name × Selected)) → AgreeFrom look other t → IsListing look t from names → IsListing other t from names
