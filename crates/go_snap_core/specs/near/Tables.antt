-- What is near: declared types that lead to none beside themselves, packages that show no others, and what mentions no others.
use Rattle.std.specs.Prelude.{◌≡◌, ℕ, Bool, true, List, Some, Contains, ⊤}
use Rattle.go_term_core.specs.decl_core.declared.keys.DeclKey.{DeclKey}
use Rattle.go_term_core.specs.Terms.{Term, Sign, term_keys, sign_keys}
use Rattle.go_body_core.specs.table_core.Entries.{Entry, find_entry, entry_keys}
use Rattle.go_report_core.specs.handle_core.Declarations.{Declaration, Universe, OfError, Package, InFile}
use Rattle.go_snap_core.specs.near.Near.{NearRest}

-- any declared types, by their keys, and any packages, by their paths
pub record Nearby : Type 1 where
  pub types : DeclKey → Type 0
  pub packages : List ℕ → Type 0

-- those that two tests accept
pub record NearTests : Type 0 where
  pub types : DeclKey → Bool
  pub packages : List ℕ → Bool

abbrev pub near_by : NearTests → Nearby
near_by tests = record { types = λ k. tests.types k ≡ true; packages = λ path. tests.packages path ≡ true }

abbrev pub IsNear : Nearby → Term → Type 0
IsNear near t = (k : DeclKey) → Contains (term_keys t) k → near.types k

abbrev pub IsNearSign : Nearby → Sign → Type 0
IsNearSign near g = (k : DeclKey) → Contains (sign_keys g) k → near.types k

-- the name of a package stands for a near one; nothing else has names behind a dot that packages show
abbrev pub IsNearPackage : Nearby → Declaration → Type 0
IsNearPackage near (Universe p) = ⊤
IsNearPackage near OfError = ⊤
IsNearPackage near (Package path) = near.packages path
IsNearPackage near (InFile path place) = ⊤

abbrev pub near_rest : Nearby → NearRest Sign Declaration
near_rest near = record { sign = IsNearSign near; decl = IsNearPackage near }

-- two tables have the same of each near key, and what its entry mentions is near: its term, and the signatures of its methods
pub record AgreeOn (near : Nearby) (es others : List Entry) : Type 0 where
  pub same : (k : DeclKey) → near.types k → find_entry es k ≡ find_entry others k
  pub closed : (k : DeclKey) (e : Entry) → near.types k → find_entry es k ≡ Some e → (j : DeclKey) → Contains (entry_keys e) j → near.types j
