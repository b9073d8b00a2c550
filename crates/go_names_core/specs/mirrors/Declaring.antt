-- The faults of names that are declared, by what each of them is in its block.
use Rattle.std.specs.Prelude.{◌≡◌, ℕ, map, Bool, true, false, not, List, [], ◌∷◌, ◌++◌, if◌then◌else◌}
use Rattle.go_scope_core.specs.text_core.declared.rule.Rule.TheVariants.{B1}
use Rattle.go_tree_nodes.specs.declared.names.Ident.{Ident}
use Rattle.go_local_core.specs.scope_stack.Blocks.{any_new, short_names, is_short_new}
use Rattle.go_local_core.specs.scope_stack.declared.short.ShortName.{ShortName}
use Rattle.go_local_core.specs.scope_stack.declared.short.ShortName.TheVariants.{New, Old, Blank, Repeated}
use Rattle.go_local_core.specs.declared.Fault.{Fault}
use Rattle.go_local_core.specs.Faults.{ident_fault, none_new_fault, spellings}
use Rattle.go_names_core.specs.declared.declaring.NewNames.{NewNames}
use Rattle.go_local_core.specs.Steps.{Newness, EachFirst, OneNew}

-- names before `:=`, or others
abbrev pub manner_of : Bool → Newness
manner_of true = OneNew
manner_of false = EachFirst

-- a name breaks B1
abbrev pub is_second : Bool → ShortName → Bool
is_second is_short New = false
is_second is_short Old = not is_short
is_second is_short Blank = false
is_second is_short Repeated = true

abbrev pub faults_of_second : Bool → List ShortName → List Ident → List Fault
faults_of_second is_short [] xs = []
faults_of_second is_short (s ∷ shorts) [] = []
faults_of_second is_short (s ∷ shorts) (x ∷ xs) = (if is_second is_short s then ident_fault x B1 ∷ [] else []) ++ faults_of_second is_short shorts xs

abbrev pub found_faults : Bool → List ShortName → List Ident → List Fault
found_faults true shorts xs = none_new_fault (any_new shorts) xs ++ faults_of_second true shorts xs
found_faults false shorts xs = faults_of_second false shorts xs

-- these names are about to be declared in a block
abbrev pub AreNew : {X : Type 0} → List (List ℕ × X) → List Ident → NewNames → Type 0
AreNew block xs names =
    (map (λ i. i.now) names.idents.items ≡ xs) × (names.shorts.items ≡ short_names block (spellings xs)) × (names.firsts.items ≡ map is_short_new (short_names block (spellings xs)))
