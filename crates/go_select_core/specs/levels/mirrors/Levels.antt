-- What the types of one level say of all paths of their length.
use Rattle.std.specs.Prelude.{◌≡◌, ℕ, zero, suc, ◌+◌, ◌*◌, ◌<◌, ◌≤◌, Bool, true, false, ◌||◌, List, [], ◌∷◌, ◌++◌, length, slice_get, Option, Some, None, ◌⊎◌, IsTrue, nat_eq, max}
use Rattle.std.specs.Map.{lookup}
use Rattle.go_term_core.specs.Terms.{Term, NoType, Predeclared, ErrorType, Defined, PointerTo, StructOf, InterfaceOf}
use Rattle.go_term_core.specs.Shapes.{shape}
use Rattle.go_embed_core.specs.table_core.Entries.{Entry, EntryLook, find_entry}
use Rattle.go_embed_core.specs.Owners.{Found, owner_in, has_spelled}
use Rattle.go_embed_core.specs.OwnersShown.{IsNamedAt, found_shown}
use Rattle.go_select_core.specs.levels.Paths.{Step, FieldsLead}
use Rattle.go_select_core.specs.declared.levels.level.Reached.{Reached}
use Rattle.go_select_core.specs.declared.levels.level.Judged.{Judged}
use Rattle.go_select_core.specs.declared.levels.level.Judged.TheVariants as judged
use Rattle.go_select_core.specs.levels.mirrors.Ways.{At, Way, IsRight}
use Rattle.go_embed_core.specs.table_core.Nesting.{nesting, deepest}

-- a path shorter than k leads to v
abbrev pub Sooner : EntryLook → Term → ℕ → Term → Type 0
Sooner look t k v = (q : List ℕ) × (p : Bool) × FieldsLead look t q p v × (length q < k)

-- a path of length k, and another one where it is marked
pub record IsWay (look : EntryLook) (t : Term) (k : ℕ) (x : Way) : Type 0 where
  pub leads : FieldsLead look t x.path x.pointer x.node
  pub long : length x.path ≡ k
  pub other : x.many ≡ true → (q : List ℕ) × (p : Bool) × FieldsLead look t q p x.node × (length q ≡ k) × (q ≡ x.path → ⊥)

-- the level has the type v, with this path or with many
abbrev pub Covers : ℕ → List Way → List ℕ → Term → Type 0
Covers first ws q v = (n : ℕ) × (x : Way) × At ws n x × (first ≤ n) × (x.node ≡ v) × ((x.many ≡ true) ⊎ (x.path ≡ q))

abbrev pub Apart : ℕ → List Way → Type 0
Apart first ws = (m n : ℕ) (x y : Way) → At ws m x → At ws n y → first ≤ m → first ≤ n → x.path ≡ y.path → m ≡ n

-- the types from a place on are all that paths of length k lead to, but those that shorter ones lead to
pub record IsLevel (look : EntryLook) (t : Term) (k first : ℕ) (ws : List Way) : Type 0 where
  pub each : (n : ℕ) (x : Way) → At ws n x → first ≤ n → IsWay look t k x
  pub older : (n : ℕ) (x : Way) → At ws n x → FieldsLead look t x.path x.pointer x.node × (length x.path ≤ k)
  pub apart : Apart first ws
  pub full : (q : List ℕ) (p : Bool) (v : Term) → FieldsLead look t q p v → length q ≡ k → Covers first ws q v ⊎ Sooner look t k v

-- no path shorter than k leads to a type of which P holds
pub record IsAbove (look : EntryLook) (t : Term) (P : Term → Type 0) (k : ℕ) : Type 0 where
  pub least : (q : List ℕ) (p : Bool) (v : Term) → FieldsLead look t q p v → P v → k ≤ length q

abbrev pub HasOne : EntryLook → List ℕ → List ℕ → Term → Type 0
HasOne look name from v = (m : ℕ) × (f : Found) × IsNamedAt (owner_in look v) name from m f

abbrev pub Spells : EntryLook → List ℕ → Term → Type 0
Spells look name v = IsTrue (has_spelled (owner_in look v) name)

-- the place (b, j) comes before (a, i)
abbrev pub Before : ℕ → ℕ → ℕ → ℕ → Type 0
Before b j a i = (b < a) ⊎ ((b ≡ a) × (j < i))

-- another arrow than (b, j) leads from the level to v
abbrev pub OtherArrow : EntryLook → ℕ → List Way → ℕ → ℕ → Term → Type 0
OtherArrow look first level b j v =
    (c : ℕ) × (i : ℕ) × (p : Bool) × (y : Way) × At level c y × (first ≤ c) × Step look y.node i p v × (c ≡ b → i ≡ j → ⊥)

-- z is made by an arrow before (a, i)
pub record IsMade (look : EntryLook) (first : ℕ) (level : List Way) (a i : ℕ) (z : Way) : Type 0 where
  pub b : ℕ
  pub j : ℕ
  pub p : Bool
  pub y : Way
  pub before : Before b j a i
  pub at : At level b y
  pub in_level : first ≤ b
  pub step : Step look y.node j p z.node
  pub path : z.path ≡ y.path ++ j ∷ []
  pub pointer : z.pointer ≡ y.pointer || p
  pub other : z.many ≡ true → (y.many ≡ true) ⊎ OtherArrow look first level b j z.node

-- the next level has the arrow
abbrev pub Carries : ℕ → List Way → Way → ℕ → Term → Type 0
Carries begin ws y j v = (n : ℕ) × (z : Way) × At ws n z × (begin ≤ n) × (z.node ≡ v) × ((z.many ≡ true) ⊎ ((z.path ≡ y.path ++ j ∷ []) × (z.many ≡ y.many)))

abbrev pub entry_weight : ℕ → Option Entry → ℕ
entry_weight h None = 1
entry_weight h (Some e) = suc (suc h)

-- what falls from a type to a type that it embeds, unless that is of the table
abbrev pub weight : List Entry → Term → ℕ
weight es NoType = 1
weight es (Predeclared b) = 1
weight es ErrorType = 1
weight es (Defined k) = entry_weight (deepest es) (find_entry es k)
weight es (PointerTo t) = 1
weight es (StructOf path fs) = suc (nesting (StructOf path fs))
weight es (InterfaceOf path ms) = 1

abbrev pub is_free : Option ℕ → ℕ
is_free None = 1
is_free (Some p) = 0

-- how many numbers below n are not met
abbrev pub left_below : ℕ → List (ℕ × ℕ) → ℕ
left_below zero met = 0
left_below (suc n) met = left_below n met + is_free (lookup (nat_eq n) met)

abbrev pub left : List Entry → List (ℕ × ℕ) → ℕ
left es met = left_below (length es) met

-- the greatest weight from a place on
abbrev pub peak : List Entry → ℕ → List Way → ℕ
peak es n [] = 0
peak es zero (w ∷ ws) = max (weight es w.node) (peak es zero ws)
peak es (suc n) (w ∷ ws) = peak es n ws

abbrev pub bound : List Entry → Term → ℕ
bound es t = suc (suc (deepest es + nesting t))

-- what falls from level to level
abbrev pub height : List Entry → Term → ℕ → List Way → List (ℕ × ℕ) → ℕ
height es t first ws met = suc (bound es t) * left es met + peak es first ws

-- each type behind the level is lighter than one of the level
abbrev pub IsLighter : List Entry → ℕ → List Way → List Way → Type 0
IsLighter es first level ws =
    (n : ℕ) (z : Way) → At ws n z → length level ≤ n → (b : ℕ) × (y : Way) × At level b y × (first ≤ b) × (weight es z.node < weight es y.node)

-- the types that the level from a place on leads to stand behind it, as far as the arrows before (a, i) go
pub record IsNext (es : List Entry) (first : ℕ) (level : List Way) (met : List (ℕ × ℕ)) (a i : ℕ) (ws : List Way) (met' : List (ℕ × ℕ)) : Type 0 where
  pub longer : length level ≤ length ws
  pub same : (n : ℕ) → n < length level → slice_get ws n ≡ slice_get level n
  pub made : (n : ℕ) (z : Way) → At ws n z → length level ≤ n → IsMade (find_entry es) first level a i z
  pub apart : Apart first level → Apart (length level) ws
  pub covers : (b j : ℕ) (p : Bool) (y : Way) (v : Term) → Before b j a i → At level b y → first ≤ b → Step (find_entry es) y.node j p v
      → Carries (length level) ws y j v ⊎ ((n : ℕ) × (z : Way) × At level n z × (z.node ≡ v))
  pub right : IsRight es ws met'
  pub falls : (left es met' < left es met) ⊎ ((left es met' ≡ left es met) × IsLighter es first level ws)

-- the only member of a level that the identifier names, with one path
pub record IsOnly (look : EntryLook) (name from : List ℕ) (types : List Reached) (first n : ℕ) (f : Found) : Type 0 where
  pub x : Reached
  pub m : ℕ
  pub at : At types n x
  pub in_level : first ≤ n
  pub one : x.many ≡ false
  pub has : IsNamedAt (owner_in look (shape x.term.now)) name from m f
  pub only : (i : ℕ) (y : Reached) (j : ℕ) (g : Found) → At types i y → first ≤ i → IsNamedAt (owner_in look (shape y.term.now)) name from j g → (i ≡ n) × (j ≡ m)

-- two members of a level that the identifier names, or one with many paths
pub record IsClash (look : EntryLook) (name from : List ℕ) (types : List Reached) (first : ℕ) : Type 0 where
  pub n : ℕ
  pub x : Reached
  pub m : ℕ
  pub f : Found
  pub at : At types n x
  pub in_level : first ≤ n
  pub has : IsNamedAt (owner_in look (shape x.term.now)) name from m f
  pub more : (x.many ≡ true)
      ⊎ ((i : ℕ) × (y : Reached) × (j : ℕ) × (g : Found) × At types i y × (first ≤ i) × IsNamedAt (owner_in look (shape y.term.now)) name from j g × (n ≡ i → m ≡ j → ⊥))

abbrev pub IsNone : EntryLook → List ℕ → List ℕ → List Reached → ℕ → Type 0
IsNone look name from types first = (i : ℕ) (y : Reached) (j : ℕ) (g : Found) → At types i y → first ≤ i → IsNamedAt (owner_in look (shape y.term.now)) name from j g → ⊥

-- whether a type of the level has a member that is spelled so
abbrev pub IsSpelt : EntryLook → List ℕ → List Reached → ℕ → Bool → Type 0
IsSpelt look name types first true = (i : ℕ) × (y : Reached) × At types i y × (first ≤ i) × Spells look name (shape y.term.now)
IsSpelt look name types first false = (i : ℕ) (y : Reached) → At types i y → first ≤ i → Spells look name (shape y.term.now) → ⊥

abbrev pub IsJudged : EntryLook → List ℕ → List ℕ → List Reached → ℕ → Judged → Type 0
IsJudged look name from types first (judged.Nothing spelled) = IsNone look name from types first × IsSpelt look name types first spelled
IsJudged look name from types first (judged.One n member) = IsOnly look name from types first n (found_shown member)
IsJudged look name from types first judged.More = IsClash look name from types first
