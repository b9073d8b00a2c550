-- How aliases are stored, so that a model may hold them.
use Rattle.std.specs.Prelude.{List}
use Rattle.std.specs.Coded.{Coded, coded×, coded_list}
use Rattle.go_term_core.specs.decl_core.declared.keys.DeclRef.{DeclRef}
use Rattle.go_term_core.specs.decl_core.contracts.keys.DeclRef as decl_ref
use Rattle.go_term_core.specs.Terms.{Term}
use Rattle.go_term_core.specs.codes.TermCodes.{coded_term}

abbrev pub coded_aliases : Coded (List (DeclRef × Term))
coded_aliases = coded_list (coded× decl_ref.the_row.coded coded_term)
