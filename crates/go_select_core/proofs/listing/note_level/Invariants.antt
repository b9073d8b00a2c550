use Rattle.go_embed_core.specs.table_core.Entries.{find_entry}
use Rattle.go_select_core.specs.mirrors.Names.{names_of, AreNamed}
use Rattle.go_select_core.proofs.Naming.{AreNotedTo}
use Rattle.go_select_core.proofs.listing.note_level.Given as goal

abbrev pub invariant-types : goal.invariant-types
invariant-types l = AreNotedTo (find_entry l.table) l.types l.first l.n 0 (names_of l.fn.names) (names_of l.names) × AreNamed (names_of l.names)

abbrev pub invariant-members : goal.invariant-members
invariant-members l = AreNotedTo (find_entry l.table) l.types l.first l.n l.member-index (names_of l.fn.names) (names_of l.names) × AreNamed (names_of l.names)
