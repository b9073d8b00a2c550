-- What can be run.
use Rattle.std.specs.Prelude.{◌≡◌, ℕ, ◌⊎◌, Bool, List, map, Option, Some, None, slice_get}
use Rattle.go_object_core.specs.Objects.{FunctionOf, ObjectOf}
use Rattle.go_machine_core.specs.Programs.{LinkedOf, linked_shown}
use Rattle.go_machine_core.specs.declared.link.linking.Entry.{Entry}
use Rattle.go_machine_core.specs.declared.link.linking.Runnable.{Runnable}
use Rattle.go_machine_core.specs.link.Functions.{PlaceModel, all_functions, functions_of}
use Rattle.go_machine_core.specs.link.Packages.{PackageOf, entry_in, package_number, packages_of, path_order}
use Rattle.go_machine_core.specs.link.Reaching.{AreReached, IsFirstOutside, ReachesMissing, ReachesOutside}
use Rattle.go_machine_core.specs.link.Order.{starts_of}

-- a program: its functions, its packages, their numbers in the order of their paths, and the number of the package that is to be run, if it has an
-- object
pub record ProgramOf : Type 0 where
  pub functions : List LinkedOf
  pub packages : List PackageOf
  pub order : List ℕ
  pub main : Option ℕ

-- the program of the package of a path, from objects whose declarations are at places
abbrev pub program_of : {D : Type 0} → (D → Option PlaceModel) → List (ObjectOf D) → List ℕ → ProgramOf
program_of place os main = record { functions = functions_of place os; packages = packages_of os; order = path_order os; main = package_number os main }

-- functions, and those that begin a program, one after another, by their numbers
pub record RunnableOf : Type 0 where
  pub functions : List LinkedOf
  pub starts : List ℕ

abbrev pub runnable_shown : Runnable → RunnableOf
runnable_shown r = record { functions = map linked_shown r.functions.items; starts = r.starts.items }

-- the package to be run has no object, or is not called `main`, or has no function `main`
abbrev pub HasNoMain : ProgramOf → Type 0
HasNoMain p = entry_in p.packages p.main ≡ None

-- a program with what begins it: the `init` functions of the packages that are reached, and `main`
pub record IsBegun (p : ProgramOf) (r : RunnableOf) : Type 0 where
  pub entry : Entry
  pub marks : List Bool
  pub begins : entry_in p.packages p.main ≡ Some entry
  pub reached : AreReached p.packages entry.root marks
  pub functions : r.functions ≡ p.functions
  pub starts : r.starts ≡ starts_of p.packages p.order marks entry.main

-- a package that is reached has no object
abbrev pub IsCut : ProgramOf → Type 0
IsCut p = (e : Entry) × (entry_in p.packages p.main ≡ Some e) × ReachesMissing p.packages e.root

-- what cannot be run: a package that is reached has no object, or of a function that is reached no code is made
abbrev pub IsBeyond : ProgramOf → Type 0
IsBeyond p = IsCut p ⊎ ((r : RunnableOf) × IsBegun p r × ReachesOutside r.functions r.starts)

-- what can be run: all that is reached has an object, and code
pub record IsRunnable (p : ProgramOf) (r : RunnableOf) : Type 0 where
  pub begun : IsBegun p r
  pub whole : IsCut p → ⊥
  pub inside : ReachesOutside r.functions r.starts → ⊥

-- all packages that are reached have objects, and the function of a number is the first that is reached and of which no code is made
pub record IsLedOutside (p : ProgramOf) (number : ℕ) : Type 0 where
  pub r : RunnableOf
  pub begun : IsBegun p r
  pub whole : IsCut p → ⊥
  pub first : IsFirstOutside r.functions r.starts number

-- the same, where the function is one of these objects
pub record IsOutsideOf {D : Type 0} (p : ProgramOf) (os : List (ObjectOf D)) (f : FunctionOf D) : Type 0 where
  pub number : ℕ
  pub led : IsLedOutside p number
  pub is : slice_get (all_functions os) number ≡ Some f

-- no function is to blame: there is no `main`, or a package that is reached has no object, or the program can be run
abbrev pub HasNoneOutside : ProgramOf → Type 0
HasNoneOutside p = HasNoMain p ⊎ IsCut p ⊎ ((r : RunnableOf) × IsRunnable p r)
