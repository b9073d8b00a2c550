-- Two tables of values that differ at some nodes, and the nodes that all of these need.
use Rattle.std.specs.Prelude.{◌≡◌, ◌⊎◌, ℕ, List, Option, Contains, length}
use Rattle.go_digraph_core.specs.needs.Needs.{needed, NeedsLead, known_in, LooksAtNeeds, AreValues}

-- a node needs the same in both, and what it needs makes the same value of it
pub record IsSame (V : Type 0) (rows others : List (List ℕ)) (value other : (ℕ → Option V) → ℕ → V) (a : ℕ) : Type 0 where
  pub row : needed rows a ≡ needed others a
  pub rule : (known : ℕ → Option V) → value known a ≡ other known a

-- a node needs another in both
pub record NeedsInBoth (rows others : List (List ℕ)) (a n : ℕ) : Type 0 where
  pub before : Contains (needed rows a) n
  pub after : Contains (needed others a) n

-- Each node is the same in both, or needs the node n in both: then n has the same value in both tables, or none in both. For where n
-- leads to a node that differs, it leads back to itself in both, and is endless; and where it leads to none, it sees none.
abbrev pub NeededStays : Type 0 → Type 0
NeededStays V =
    (rows others : List (List ℕ)) (value other : (ℕ → Option V) → ℕ → V) (t u : List (Option V)) (n : ℕ) → LooksAtNeeds rows value → LooksAtNeeds others other
    → length rows ≡ length others → ((a : ℕ) → IsSame V rows others value other a ⊎ NeedsInBoth rows others a n)
    → AreValues V rows value t → AreValues V others other u → known_in t n ≡ known_in u n

-- each node to which n leads, itself included, is the same in both: then n has the same value in both tables, or none in both
abbrev pub UntouchedStays : Type 0 → Type 0
UntouchedStays V =
    (rows others : List (List ℕ)) (value other : (ℕ → Option V) → ℕ → V) (t u : List (Option V)) (n : ℕ) → LooksAtNeeds rows value → LooksAtNeeds others other
    → length rows ≡ length others → ((a : ℕ) (path : List ℕ) → NeedsLead rows n path a → IsSame V rows others value other a)
    → AreValues V rows value t → AreValues V others other u → known_in t n ≡ known_in u n
