-- Laws of what needs one another.
use Rattle.std.specs.Prelude.{◌≡◌, ℕ, List, Option}
use Rattle.go_digraph_core.specs.needs.Needs.{EndsWithin, IsEndless, LooksAtNeeds, AreValues}

-- where what a node needs leads back to itself, no bound holds for the node's paths
abbrev pub EndlessNeverEnds : Type 0
EndlessNeverEnds = (rows : List (List ℕ)) (n a : ℕ) → IsEndless rows a → EndsWithin rows n a → ⊥

-- there is one table of values
abbrev pub OneTableOfValues : Type 0 → Type 0
OneTableOfValues V =
    (rows : List (List ℕ)) (value : (ℕ → Option V) → ℕ → V) (t u : List (Option V)) → LooksAtNeeds rows value
    → AreValues V rows value t → AreValues V rows value u → t ≡ u
