-- How a program is put together.
use Rattle.std.specs.Prelude.{◌≡◌, ℕ, List, [], ◌∷◌, ◌++◌, length, map, Option}
use Rattle.std.specs.List.{flat_map}
use Rattle.go_object_core.specs.Objects.{ObjectOf}
use Rattle.go_machine_core.specs.Programs.{LinkedOf, linked_shown}
use Rattle.go_machine_core.specs.declared.link.linking.Linking.{Linking}
use Rattle.go_machine_core.specs.declared.link.linking.Beginning.{Beginning}
use Rattle.go_machine_core.specs.declared.link.linking.Beginning.TheVariants as beginnings
use Rattle.go_machine_core.specs.declared.link.linking.Layout.{Layout}
use Rattle.go_machine_core.specs.link.Functions.{PlaceModel, linked_of}
use Rattle.go_machine_core.specs.link.Packages.{PackageOf, package_shown, package_of}
use Rattle.go_machine_core.specs.link.Linked.{ProgramOf, RunnableOf, HasNoMain, IsCut, IsLedOutside, IsRunnable}
use Rattle.go_machine_core.specs.link.mirrors.Numbering.{AreBelow, AreRowsBelow}

-- functions and packages
pub record LayoutOf : Type 0 where
  pub functions : List LinkedOf
  pub packages : List PackageOf

abbrev pub layout_of : List LinkedOf → List PackageOf → LayoutOf
layout_of functions packages = record { functions = functions; packages = packages }

abbrev pub layout_shown : Layout → LayoutOf
layout_shown l = layout_of (map linked_shown l.functions.items) (map package_shown l.packages.items)

-- an object more
abbrev pub layout_more : {D : Type 0} → (D → Option ℕ) → (List ℕ → Option ℕ) → LayoutOf → ObjectOf D → LayoutOf
layout_more number path_number l o = layout_of (l.functions ++ map (linked_of number) o.functions) (l.packages ++ package_of path_number (length l.functions) o ∷ [])

abbrev pub program_with : LayoutOf → List ℕ → Option ℕ → ProgramOf
program_with l order main = record { functions = l.functions; packages = l.packages; order = order; main = main }

-- the numbers of a program are those of its functions and packages
pub record AreWithin (l : LayoutOf) : Type 0 where
  pub callees : AreRowsBelow (length l.functions) (map (λ f. f.callees) l.functions)
  pub imports : AreRowsBelow (length l.packages) (map (λ p. p.imports) l.packages)
  pub inits : AreBelow (length l.functions) (flat_map (λ p. p.inits) l.packages)
  pub mains : AreBelow (length l.functions) (flat_map (λ p. p.mains) l.packages)

-- functions with those that begin a program
abbrev pub runnable_with : List LinkedOf → List ℕ → RunnableOf
runnable_with functions starts = record { functions = functions; starts = starts }

-- what begins a program
abbrev pub IsBeginning : ProgramOf → Beginning → Type 0
IsBeginning p beginnings.NoMain = HasNoMain p
IsBeginning p beginnings.Cut = IsCut p
IsBeginning p (beginnings.Outside number) = IsLedOutside p number
IsBeginning p (beginnings.Starts starts) = IsRunnable p (runnable_with p.functions starts.items)

-- the functions of a program, and what begins it
pub record IsLinking (p : ProgramOf) (l : Linking) : Type 0 where
  pub functions : map linked_shown l.functions.items ≡ p.functions
  pub beginning : IsBeginning p l.beginning
