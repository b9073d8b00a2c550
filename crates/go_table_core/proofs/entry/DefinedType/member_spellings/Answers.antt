use Rattle.std.proofs.Common.{ap, subst, ◌∙◌}
use Rattle.std.specs.Prelude.{IfSome}
use Rattle.go_collections_core.specs.spelling_index.Spelled.{AreSpelled, places_of}
use Rattle.go_table_core.specs.Entries.{Entry}
use Rattle.go_table_core.specs.MemberNames.{term_names}
use Rattle.go_table_core.proofs.entry.DefinedType.member_spellings.Goals as goal

pub returns : goal.returns
returns c = subst (λ t. IfSome c.members.result (λ s. AreSpelled (places_of s.now) (term_names t))) (c.deref.ensures ∙ ap (λ (e : Entry). e.term) c.self.view_is) c.members.ensures
