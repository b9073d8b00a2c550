-- The faults of names that are declared, by what each of them is in its block.
use Rattle.std.proofs.Common.{◌≡◌, ℕ, Bool, true, false, not, ◌&&◌, List, [], ◌∷◌, ◌++◌, map, is_some, if◌then◌else◌, refl, sym, ap, ◌∙◌}
use Rattle.go_scope_core.specs.text_core.Text.{is_blank}
use Rattle.go_scope_core.specs.text_core.declared.rule.Rule.TheVariants.{B1}
use Rattle.go_tree_nodes.specs.declared.names.Ident.{Ident}
use Rattle.go_local_core.specs.scope_stack.Blocks.{in_block, is_listed, any_new, short_name, short_names, short_names_behind, is_short_new}
use Rattle.go_local_core.specs.scope_stack.declared.short.ShortName.{ShortName}
use Rattle.go_local_core.specs.scope_stack.declared.short.ShortName.TheVariants.{New, Old, Blank, Repeated}
use Rattle.go_local_core.specs.Faults.{ident_fault, name_faults, second_faults, none_new_fault, spellings}
use Rattle.go_local_core.specs.Short.{fault_of_short, faults_of_each, short_faults}
use Rattle.go_local_core.proofs.Short.{short_faults_are}
use Rattle.go_names_core.specs.mirrors.Declaring.{manner_of, is_second, faults_of_second, found_faults}

module _ {X : Type 0} (block : List (List ℕ × X)) where
  -- names that each are to be the first of their block
  second_are : (xs : List Ident) (before : List (List ℕ)) → faults_of_second false (short_names_behind block before (spellings xs)) xs ≡ second_faults (map is_short_new (short_names_behind block before (spellings xs))) xs
  second_are [] before = refl
  second_are (x ∷ xs) before =
      ap (λ fs. fs ++ faults_of_second false (short_names_behind block (before ++ x.name ∷ []) (spellings xs)) xs) (by (is_blank x.name) (is_listed before x.name) (is_some (in_block block x.name)))
      ∙ ap (λ fs. (if not (is_blank x.name) && not (is_short_new (short_name block before x.name)) then ident_fault x B1 ∷ [] else []) ++ fs) (second_are xs (before ++ x.name ∷ []))
    where
      by : (b l s : Bool) → (if is_second false (if not b && l then Repeated else (if b then Blank else (if s then Old else New))) then ident_fault x B1 ∷ [] else []) ≡ (if not b && not (is_short_new (if not b && l then Repeated else (if b then Blank else (if s then Old else New)))) then ident_fault x B1 ∷ [] else [])
      by true true s = refl
      by true false s = refl
      by false true s = refl
      by false false true = refl
      by false false false = refl

each_are : (shorts : List ShortName) (xs : List Ident) → faults_of_second true shorts xs ≡ faults_of_each shorts xs
each_are [] xs = refl
each_are (s ∷ shorts) [] = refl
each_are (s ∷ shorts) (x ∷ xs) = ap (λ fs. fs ++ faults_of_second true shorts xs) (by s) ∙ ap (λ fs. fault_of_short s x ++ fs) (each_are shorts xs)
  where
    by : (s : ShortName) → (if is_second true s then ident_fault x B1 ∷ [] else []) ≡ fault_of_short s x
    by New = refl
    by Old = refl
    by Blank = refl
    by Repeated = refl

each_none : (shorts : List ShortName) → faults_of_second true shorts [] ≡ []
each_none [] = refl
each_none (s ∷ shorts) = refl

short_are : (shorts : List ShortName) (xs : List Ident) → found_faults true shorts xs ≡ short_faults shorts xs
short_are shorts [] = each_none shorts
short_are shorts (x ∷ xs) = ap (λ fs. none_new_fault (any_new shorts) (x ∷ xs) ++ fs) (each_are shorts (x ∷ xs))

-- what is found by what each name is, are the faults of the names
pub found_are : {X : Type 0} (is_short : Bool) (block : List (List ℕ × X)) (xs : List Ident) → found_faults is_short (short_names block (spellings xs)) xs ≡ name_faults (manner_of is_short) (map is_short_new (short_names block (spellings xs))) xs
found_are {X} true block xs = short_are (short_names block (spellings xs)) xs ∙ sym (short_faults_are X block xs)
found_are false block xs = second_are block xs []
