-- Where things are declared.
use Rattle.std.specs.Prelude.{ℕ, List}
use Rattle.go_universe_core.specs.declared.Predeclared.{Predeclared}
use Rattle.go_term_core.specs.declared.term.MemberPlace.{MemberPlace}
use Rattle.go_mset_core.specs.embed_core.Owners.{Found, AFieldOf, AMethodOf, AnInterfaces, TheErrorMethod}
use Rattle.go_handle_core.specs.declared.decls.DeclSite.{DeclSite}
use Rattle.go_handle_core.specs.declared.decls.DeclSite.TheVariants as sites

-- a predeclared name, the method `Error` of the predeclared type `error`, the package of a path, or an identifier of a file of the package
-- of a path: by its number outside function bodies, and by its offset inside
pub data Declaration : Type 0 where
  Universe : Predeclared → Declaration
  OfError : Declaration
  Package : List ℕ → Declaration
  InFile : List ℕ → MemberPlace → Declaration

abbrev pub site_shown : DeclSite → Declaration
site_shown (sites.Universe name) = Universe name
site_shown sites.ErrorMethod = OfError
site_shown (sites.«Package» path) = Package path.now
site_shown (sites.InFile path place) = InFile path.now place

-- the declaration of a member
abbrev pub declaration_found : Found → Declaration
declaration_found (AFieldOf path place t) = InFile path place
declaration_found (AMethodOf path place pointer g) = InFile path place
declaration_found (AnInterfaces path place g) = InFile path place
declaration_found TheErrorMethod = OfError
