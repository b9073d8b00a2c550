-- How a table holds its packages.
use Rattle.std.specs.Prelude.{◌≡◌, ◌<◌, ◌+◌, ℕ, ⊤, List, [], ◌∷◌, ◌++◌, length, Option, None}
use Rattle.std.specs.Str.{bytes_eq}
use Rattle.std.specs.Map.{lookup}
use Rattle.go_term_core.specs.Terms.{Term, NoType}
use Rattle.go_table_core.specs.declared.table.Numbered.{Numbered}
use Rattle.go_table_core.specs.Entries.{Entry}
use Rattle.go_table_core.specs.Tables.{PackageTypesModel, ArePackageTypes}

-- the types of packages by their paths, one package's behind the other's
abbrev pub all_entries : List (List ℕ × Numbered) → List Entry
all_entries [] = []
all_entries (p ∷ ps) = p.1.types.entries ++ all_entries ps

-- the package of a path
abbrev pub package_at : List (List ℕ × Numbered) → List ℕ → Option Numbered
package_at ps path = lookup (bytes_eq path) ps

-- a package is kept with the number of its first type, under its path, and is the only one of it
pub record IsKept (n : ℕ) (path : List ℕ) (p : Numbered) (behind : List (List ℕ × Numbered)) : Type 0 where
  pub first : p.first ≡ n
  pub keyed : path ≡ p.types.path
  pub well : ArePackageTypes p.types.path p.types.entries
  pub some : 0 < length p.types.entries
  pub once : package_at behind path ≡ None

abbrev pub AreKept : ℕ → List (List ℕ × Numbered) → Type 0
AreKept n [] = ⊤
AreKept n (p ∷ ps) = IsKept n p.0 p.1 ps × AreKept (n + length p.1.types.entries) ps

-- what a table holds
pub record IsTable (len : ℕ) (ps : List (List ℕ × Numbered)) (nothing : Term) : Type 0 where
  pub kept : AreKept 0 ps
  pub none : nothing ≡ NoType
  pub counted : len ≡ length (all_entries ps)

abbrev pub numbered : ℕ → PackageTypesModel → Numbered
numbered first types = record { first = first; types = types }
