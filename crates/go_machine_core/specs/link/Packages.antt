-- The packages of a program, by their numbers.
--
-- The Go specification, "Package clause", "Import declarations", "Program execution".
use Rattle.std.specs.Prelude.{ℕ, ◌+◌, Bool, true, false, List, [], ◌∷◌, length, map, codes, Option, Some, None, insert, option_map, slice_get, slice_index_or}
use Rattle.std.specs.List.{prefix_len}
use Rattle.std.specs.Ordering.{is_lt, nat_cmp}
use Rattle.std.specs.Cmp.Lexicographic.{slice_cmp}
use Rattle.std.specs.Str.{bytes_eq}
use Rattle.go_object_core.specs.Objects.{ObjectOf}
use Rattle.go_collections_core.specs.spelling_index.Spelled.{spelled}
use Rattle.go_machine_core.specs.declared.link.packages.Package.{Package}
use Rattle.go_machine_core.specs.declared.link.linking.Entry.{Entry}
use Rattle.go_machine_core.specs.link.Functions.{numbers_called}

-- a package: whether it is called `main`, the packages that its imports come to, by their numbers, none where one has no object, and its functions
-- `init` and `main`, by their numbers
pub record PackageOf : Type 0 where
  pub is_main : Bool
  pub imports : List (Option ℕ)
  pub inits : List ℕ
  pub mains : List ℕ

abbrev pub package_shown : Package → PackageOf
package_shown p = record { is_main = p.is_main; imports = p.imports.items; inits = p.inits.items; mains = p.mains.items }

-- one text stands before another in byte order
abbrev pub is_before : List ℕ → List ℕ → Bool
is_before a b = is_lt (slice_cmp nat_cmp a b)

-- a number among others, behind those whose paths stand before its path
abbrev pub placed : List (List ℕ) → ℕ → List ℕ → List ℕ
placed paths n order = insert order (prefix_len (λ k. is_before (slice_index_or paths k []) (slice_index_or paths n [])) order) n

-- the numbers of paths in their order, from the n-th on
abbrev pub order_from : List (List ℕ) → ℕ → List (List ℕ) → List ℕ
order_from paths n [] = []
order_from paths n (p ∷ ps) = placed paths n (order_from paths (n + 1) ps)

-- the numbers of packages in the order of their paths
abbrev pub path_order : {D : Type 0} → List (ObjectOf D) → List ℕ
path_order os = order_from (map (λ o. o.path) os) 0 (map (λ o. o.path) os)

-- the number of the first package of a path
abbrev pub package_number : {D : Type 0} → List (ObjectOf D) → List ℕ → Option ℕ
package_number os path = option_map (λ s. s.first) (spelled (map (λ o. o.path) os) path)

-- the package of an object whose functions are numbered from the n-th on
abbrev pub package_of : {D : Type 0} → (List ℕ → Option ℕ) → ℕ → ObjectOf D → PackageOf
package_of number n o = record {
  is_main = bytes_eq o.name (codes "main");
  imports = map number o.imports;
  inits = numbers_called (codes "init") n o.functions;
  mains = numbers_called (codes "main") n o.functions;
}

abbrev pub packages_from : {D : Type 0} → (List ℕ → Option ℕ) → ℕ → List (ObjectOf D) → List PackageOf
packages_from number n [] = []
packages_from number n (o ∷ os) = package_of number n o ∷ packages_from number (n + length o.functions) os

-- the packages of a program
abbrev pub packages_of : {D : Type 0} → List (ObjectOf D) → List PackageOf
packages_of os = packages_from (package_number os) 0 os

abbrev pub entry_at : ℕ → List ℕ → Option Entry
entry_at root [] = None
entry_at root (main ∷ others) = Some (record { root = root; main = main })

abbrev pub entry_if : Bool → ℕ → List ℕ → Option Entry
entry_if true root mains = entry_at root mains
entry_if false root mains = None

abbrev pub entry_of : ℕ → Option PackageOf → Option Entry
entry_of root None = None
entry_of root (Some p) = entry_if p.is_main root p.mains

-- where a program begins whose main package has a number: at the first function `main` of that package, if it is called `main`
abbrev pub entry_in : List PackageOf → Option ℕ → Option Entry
entry_in ps None = None
entry_in ps (Some root) = entry_of root (slice_get ps root)
