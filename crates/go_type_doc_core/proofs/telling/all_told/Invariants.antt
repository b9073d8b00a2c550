use Rattle.std.proofs.Common.{map}
use Rattle.std.specs.Vec.Iter.{into_iter_items}
use Rattle.go_type_doc_core.specs.members.Members.{type_member_shown}
use Rattle.go_type_doc_core.specs.TypeDocs.{member_shown}
use Rattle.go_type_doc_core.specs.mirrors.Read.{AreRead}
use Rattle.go_type_doc_core.proofs.Zipped.{SoFar}
use Rattle.go_type_doc_core.proofs.telling.all_told.Given as goal

abbrev pub invariant-loop-member : goal.invariant-loop-member
invariant-loop-member l = record {
  read : AreRead l.snapshot l.read.files.entries;
  so_far : SoFar l.snapshot (map type_member_shown l.fn.members.items) (map type_member_shown (into_iter_items l.member-iterator)) (map member_shown l.told.items);
}
