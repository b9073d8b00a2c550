-- Where something is declared outside functions, and tables of what it comes to in code.
use Rattle.std.specs.Prelude.{ℕ, Bool, ◌&&◌, nat_eq, List, Option}
use Rattle.std.specs.Map.{lookup}
use Rattle.std.specs.Str.{bytes_eq}
use Rattle.go_term_core.specs.decl_core.declared.keys.DeclRef.{DeclRef}
use Rattle.go_code_core.specs.declared.fragments.names.Meaning.{Meaning}

-- where something is declared outside functions: the package of a path, the number of a file, and a number there
pub record DeclSpotModel : Type 0 where
  pub path : List ℕ
  pub file : ℕ
  pub number : ℕ

abbrev pub decl_spot : List ℕ → DeclRef → DeclSpotModel
decl_spot path d = record { path = path; file = d.file; number = d.number }

abbrev pub same_spot : DeclSpotModel → DeclSpotModel → Bool
same_spot a b = bytes_eq a.path b.path && (nat_eq a.file b.file && nat_eq a.number b.number)

-- what declarations come to: of one place the first
abbrev pub Spotted : Type 0
Spotted = List (DeclSpotModel × Meaning)

abbrev pub spotted_meaning : Spotted → DeclSpotModel → Option Meaning
spotted_meaning ms s = lookup (same_spot s) ms
