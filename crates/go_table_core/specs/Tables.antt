-- Tables of defined types.
use Rattle.std.specs.Prelude.{◌≡◌, ℕ, true, ◌&&◌, ◌||◌, List, [], ◌∷◌, Some, slice_get, nat_eq, nat_lt, ⊤, All}
use Rattle.go_term_core.specs.decl_core.declared.keys.DeclKey.{DeclKey}
use Rattle.go_table_core.specs.Entries.{Entry, find_entry, IsUnnamed}

-- the types of a package: its path, and entries in order of their keys
pub record PackageTypesModel : Type 0 where
  pub path : List ℕ
  pub entries : List Entry

abbrev pub package_types : List ℕ → List Entry → PackageTypesModel
package_types path entries = record { path = path; entries = entries }

-- entries of one package
abbrev pub AreOf : List ℕ → List Entry → Type 0
AreOf path [] = ⊤
AreOf path (e ∷ es) = (e.key.path ≡ path) × AreOf path es

-- keys of one package rise by file, then by number there
abbrev pub IsKeyBefore : DeclKey → DeclKey → Type 0
IsKeyBefore a b = (nat_lt a.decl.file b.decl.file || (nat_eq a.decl.file b.decl.file && nat_lt a.decl.number b.decl.number)) ≡ true

abbrev pub KeysRise : List Entry → Type 0
KeysRise [] = ⊤
KeysRise (e ∷ []) = ⊤
KeysRise (e ∷ f ∷ es) = IsKeyBefore e.key f.key × KeysRise (f ∷ es)

-- the number of the entry of a key in a list
abbrev pub IsPlaceOf : List Entry → DeclKey → ℕ → Type 0
IsPlaceOf es k n = (e : Entry) × (slice_get es n ≡ Some e) × (find_entry es k ≡ Some e) × (e.key ≡ k)

-- the types of a package: entries of its path in order of their keys, each with its underlying type
pub record ArePackageTypes (path : List ℕ) (entries : List Entry) : Type 0 where
  pub own : AreOf path entries
  pub rising : KeysRise entries
  pub plain : All (λ e. IsUnnamed e.term) entries

-- no entry is of that package
abbrev pub AreOthers : List ℕ → List Entry → Type 0
AreOthers path es = All (λ e. e.key.path ≡ path → ⊥) es
