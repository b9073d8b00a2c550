use Rattle.std.proofs.Common.{subst}
use Rattle.std.specs.Prelude.{Option, IfSome}
use Rattle.go_term_core.specs.Shapes.{shape}
use Rattle.go_collections_core.specs.declared.spelling_index.spellings.Spellings.{Spellings}
use Rattle.go_collections_core.specs.spelling_index.Spelled.{AreSpelled, places_of}
use Rattle.go_table_core.specs.MemberNames.{term_names}
use Rattle.go_table_core.proofs.indexed.IndexedTerm.members.Goals as goal

pub returns-in-Some : goal.returns-in-Some
returns-in-Some c =
    let are : AreSpelled (places_of c.in-Some.members) (term_names (shape c.self.inside.term)) =
    subst (λ (o : Option Spellings). IfSome o (λ s. AreSpelled (places_of s) (term_names (shape c.self.inside.term)))) c.in-Some.is c.self.invariant.spelled in
    subst (λ t. AreSpelled (places_of c.in-Some.members) (term_names t)) c.self.view_is are
