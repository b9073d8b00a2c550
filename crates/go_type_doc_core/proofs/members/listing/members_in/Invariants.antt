use Rattle.std.proofs.Common.{◌≡◌, map, take}
use Rattle.go_summary_core.specs.table_core.Entries.{find_entry}
use Rattle.go_term_core.specs.Shapes.{shape}
use Rattle.go_type_doc_core.specs.members.Members.{member_with, type_member_shown}
use Rattle.go_type_doc_core.proofs.members.listing.members_in.Given as goal

abbrev pub invariant-loop-entry : goal.invariant-loop-entry
invariant-loop-entry l = map type_member_shown l.members.items ≡ map (member_with (find_entry l.table) (shape l.start)) (take l.entry-index l.listed)
