-- The types that are reached, each with a path.
use Rattle.std.specs.Prelude.{◌≡◌, ◌<◌, ◌≤◌, ℕ, Bool, true, false, ◌||◌, List, [], ◌∷◌, ◌++◌, length, set, slice_get, Option, Some, None, nat_eq, if◌then◌else◌}
use Rattle.std.specs.Map.{lookup}
use Rattle.go_term_core.specs.decl_core.declared.keys.DeclKey.{DeclKey}
use Rattle.go_term_core.specs.Terms.{Term, Defined}
use Rattle.go_term_core.specs.Shapes.{shape}
use Rattle.go_embed_core.specs.table_core.Entries.{Entry, find_entry}
use Rattle.go_embed_core.specs.Owners.{EmbeddedEdge}
use Rattle.go_select_core.specs.declared.levels.level.Reached.{Reached}

abbrev pub At : {A : Type 0} → List A → ℕ → A → Type 0
At xs n x = slice_get xs n ≡ Some x

-- a type, whether more paths than one of their length lead to it, whether a field on the path has a star, and the path
pub record Way : Type 0 where
  pub node : Term
  pub many : Bool
  pub pointer : Bool
  pub path : List ℕ

abbrev pub way_of : List ℕ → Reached → Way
way_of path r = record { node = shape r.term.now; many = r.many; pointer = r.pointer; path = path }

abbrev pub ways : List (List ℕ) → List Reached → List Way
ways [] rs = []
ways (p ∷ ps) [] = []
ways (p ∷ ps) (r ∷ rs) = way_of p r ∷ ways ps rs

abbrev pub root : Term → Way
root t = record { node = t; many = false; pointer = false; path = [] }

-- with many paths
abbrev pub crowded : Way → Way
crowded z = record { node = z.node; many = true; pointer = z.pointer; path = z.path }

-- one field further
abbrev pub arrow : Way → EmbeddedEdge → Way
arrow y e = record { node = e.target; many = y.many; pointer = y.pointer || e.pointer; path = y.path ++ e.position ∷ [] }

-- the type of the n-th entry
pub record IsNumbered (es : List Entry) (n : ℕ) (u : Term) : Type 0 where
  pub entry : Entry
  pub at : At es n entry
  pub is : u ≡ Defined entry.key
  pub found : find_entry es entry.key ≡ Some entry

-- the number of a type, where a table has it
abbrev pub IsNumber : List Entry → Term → Option ℕ → Type 0
IsNumber es u None = (k : DeclKey) → u ≡ Defined k → find_entry es k ≡ None
IsNumber es u (Some n) = IsNumbered es n u

-- numbers are noted with the places of their types
pub record IsRight (es : List Entry) (ws : List Way) (met : List (ℕ × ℕ)) : Type 0 where
  pub at : (n p : ℕ) → lookup (nat_eq n) met ≡ Some p → (z : Way) × At ws p z × IsNumbered es n z.node

-- the searched type alone
pub record Begins (es : List Entry) (t : Term) (paths : List (List ℕ)) (types : List Reached) (met : List (ℕ × ℕ)) : Type 0 where
  pub sized : length paths ≡ length types
  pub only : ways paths types ≡ root t ∷ []
  pub right : IsRight es (root t ∷ []) met

pub record Marked (old : List Reached) (place : ℕ) (new : List Reached) : Type 0 where
  pub r : Reached
  pub at : At old place r
  pub is : new ≡ set old place (record { term = r.term; many = true; pointer = r.pointer })

-- the type that an embedded field of the type at a place leads to goes last
pub record Pushed (from : ℕ) (e : EmbeddedEdge) (old new : List Way) : Type 0 where
  pub y : Way
  pub at : At old from y
  pub is : new ≡ old ++ arrow y e ∷ []

-- the place of a number is noted
abbrev pub Noted : ℕ → ℕ → List (ℕ × ℕ) → List (ℕ × ℕ) → Type 0
Noted n p old new = (m : ℕ) → lookup (nat_eq m) new ≡ (if nat_eq n m then Some p else lookup (nat_eq m) old)

-- an embedded field's type is entered in the level that begins at a place
pub data Entered (es : List Entry) (begin from : ℕ) (e : EmbeddedEdge) (ws : List Way) (met : List (ℕ × ℕ)) (ws' : List Way) (met' : List (ℕ × ℕ)) : Type 0 where
  known : (n p : ℕ) → IsNumbered es n e.target → lookup (nat_eq n) met ≡ Some p → p < begin → ws' ≡ ws → met' ≡ met → Entered es begin from e ws met ws' met'
  again : (n p : ℕ) (z : Way) → IsNumbered es n e.target → lookup (nat_eq n) met ≡ Some p → begin ≤ p → At ws p z → ws' ≡ set ws p (crowded z) → met' ≡ met
      → Entered es begin from e ws met ws' met'
  fresh : (n : ℕ) → IsNumbered es n e.target → lookup (nat_eq n) met ≡ None → Pushed from e ws ws' → Noted n (length ws) met met' → Entered es begin from e ws met ws' met'
  loose : IsNumber es e.target None → Pushed from e ws ws' → met' ≡ met → Entered es begin from e ws met ws' met'
