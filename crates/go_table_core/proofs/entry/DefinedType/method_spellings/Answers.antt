use Rattle.std.proofs.Common.{map, subst}
use Rattle.std.specs.Prelude.{Option, IfSome}
use Rattle.go_collections_core.specs.declared.spelling_index.spellings.Spellings.{Spellings}
use Rattle.go_collections_core.specs.spelling_index.Spelled.{AreSpelled, places_of}
use Rattle.go_table_core.specs.Entries.{Entry}
use Rattle.go_table_core.specs.Shown.{member_shown}
use Rattle.go_table_core.proofs.entry.DefinedType.method_spellings.Goals as goal

pub returns-in-Some : goal.returns-in-Some
returns-in-Some c =
    let are : AreSpelled (places_of c.in-Some.spellings) (map (λ m. m.name) (map member_shown c.self.inside.methods.items)) =
    subst (λ (o : Option Spellings). IfSome o (λ s. AreSpelled (places_of s) (map (λ m. m.name) (map member_shown c.self.inside.methods.items)))) c.in-Some.is c.self.invariant.spelled in
    subst (λ (e : Entry). AreSpelled (places_of c.in-Some.spellings) (map (λ m. m.name) e.methods)) c.self.view_is are
