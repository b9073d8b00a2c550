-- The aliases that values of the program hold.
use Rattle.go_term_core.specs.decl_core.declared.keys.DeclRef.{DeclRef}
use Rattle.go_term_core.specs.Shapes.{shape}
use Rattle.go_term_core.specs.Terms.{Term}
use Rattle.go_typexpr_core.specs.declared.aliases.written.Alias.{Alias}

abbrev pub alias_shown : Alias → DeclRef × Term
alias_shown a = (a.decl, shape a.term)
