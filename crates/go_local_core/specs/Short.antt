-- What the names to the left of `:=` break, by what each of them is.
use Rattle.std.specs.Prelude.{◌≡◌, ℕ, suc, List, [], ◌∷◌, ◌++◌, map, if◌then◌else◌}
use Rattle.go_tree_nodes.specs.text_core.declared.rule.Rule.TheVariants.{B1, B4}
use Rattle.go_scope_stack.specs.Blocks.{short_names, is_short_new, any_new, block_after}
use Rattle.go_scope_stack.specs.declared.short.ShortName.{ShortName}
use Rattle.go_scope_stack.specs.declared.short.ShortName.TheVariants.{New, Old, Blank, Repeated}
use Rattle.go_tree_nodes.specs.declared.names.Ident.{Ident}
use Rattle.go_local_core.specs.declared.Fault.{Fault}
use Rattle.go_local_core.specs.Steps.{OneNew}
use Rattle.go_local_core.specs.mirrors.Walk.{names_of, news, with_names}
use Rattle.go_local_core.specs.Faults.{spellings, ident_fault, name_faults}

-- what one name breaks
abbrev pub fault_of_short : ShortName → Ident → List Fault
fault_of_short New x = []
fault_of_short Old x = []
fault_of_short Blank x = []
fault_of_short Repeated x = ident_fault x B1 ∷ []

-- what each of them breaks, in their order
abbrev pub faults_of_each : List ShortName → List Ident → List Fault
faults_of_each [] xs = []
faults_of_each (s ∷ shorts) [] = []
faults_of_each (s ∷ shorts) (x ∷ xs) = fault_of_short s x ++ faults_of_each shorts xs

-- what they break together: B4 at the first where none is new, and what each breaks
abbrev pub short_faults : List ShortName → List Ident → List Fault
short_faults shorts [] = []
short_faults shorts (x ∷ xs) = (if any_new shorts then [] else ident_fault x B4 ∷ []) ++ faults_of_each shorts (x ∷ xs)

-- the faults of names of which one is to be new are those of what these names are in any block
abbrev pub ShortFaults : Type 0 → Type 0
ShortFaults X =
    (block : List (List ℕ × X)) (xs : List Ident)
    → name_faults OneNew (map is_short_new (short_names block (spellings xs))) xs ≡ short_faults (short_names block (spellings xs)) xs

-- names with what they mean, by their numbers
abbrev pub meant : {X : Type 0} → (ℕ → X) → ℕ → List Ident → List (List ℕ × X)
meant means n [] = []
meant means n (x ∷ xs) = (x.name, means n) ∷ meant means (suc n) xs

-- on the way through a function the names that are new are those that are new in the block that is open, and it gains them
pub record ShortWalk (X : Type 0) : Type 0 where
  pub firsts : (block : List (List ℕ × X)) (xs : List Ident) → news (names_of block) xs ≡ map is_short_new (short_names block (spellings xs))
  pub gained : (block : List (List ℕ × X)) (means : ℕ → X) (xs : List Ident) → with_names block means 0 xs ≡ block_after block (meant means 0 xs)
