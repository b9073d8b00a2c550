-- Laws of paths, of the rule of internal directories, and of modules.
use Rattle.std.specs.Prelude.{◌≡◌, ◌≢◌, ℕ, ◌⊎◌, ◌↔◌, List, ◌∷◌, ◌++◌, All, IsTrue, codes}
use Rattle.go_path_core.specs.Path.{elements, internal, overlap, IsPrefix, MayImport}

-- two texts of the same elements are the same text
abbrev pub ElementsDecide : Type 0
ElementsDecide = (s t : List ℕ) → elements s ≡ elements t → s ≡ t

-- a path may import itself
abbrev pub ImportsItself : Type 0
ImportsItself = (p : List (List ℕ)) → MayImport p p

-- a path without an element `internal` may be imported by every path
abbrev pub OpenToAll : Type 0
OpenToAll = (p q : List (List ℕ)) → All (λ e. e ≢ internal) p → MayImport q p

-- the last element `internal` of a path decides who may import it
abbrev pub LastInternalDecides : Type 0
LastInternalDecides = (a b q : List (List ℕ)) → All (λ e. e ≢ internal) b → (MayImport q (a ++ internal ∷ b) ↔ IsPrefix a q)

-- what a path may import, the paths below it may import
abbrev pub BelowAnImporter : Type 0
BelowAnImporter = (p q r : List (List ℕ)) → MayImport q p → IsPrefix q r → MayImport r p

-- a path below a directory `internal`
abbrev pub hidden : List ℕ
hidden = codes "ex.com/a/internal/x"

-- below is said of elements: a directory whose name goes on with other bytes is another
abbrev pub PrefixByElements : Type 0
PrefixByElements =
    (¬ IsPrefix (elements (codes "ex.com/a")) (elements (codes "ex.com/ab")))
    × (¬ MayImport (elements (codes "ex.com/ab")) (elements hidden))
    × MayImport (elements (codes "ex.com/a/b")) (elements hidden)

-- two modules overlap
abbrev pub Overlap : List (List ℕ) → List (List ℕ) → Type 0
Overlap a b = IsPrefix a b ⊎ IsPrefix b a

-- modules with a path in common overlap
abbrev pub OneModuleOfAPath : Type 0
OneModuleOfAPath = (a b p : List (List ℕ)) → IsPrefix a p → IsPrefix b p → Overlap a b

-- overlapping is symmetric
abbrev pub OverlapIsSymmetric : Type 0
OverlapIsSymmetric = (a b : List (List ℕ)) → Overlap a b → Overlap b a

-- a module overlaps itself
abbrev pub OverlapIsReflexive : Type 0
OverlapIsReflexive = (a : List (List ℕ)) → Overlap a a

-- whether modules overlap is what the test of their elements says
abbrev pub OverlapIsDecided : Type 0
OverlapIsDecided = (a b : List ℕ) → IsTrue (overlap a b) ↔ Overlap (elements a) (elements b)
