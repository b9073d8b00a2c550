use Rattle.std.proofs.Common.{map, sym, ap, ◌∙◌}
use Rattle.std.proofs.lemmas.List.{map-append}
use Rattle.std.specs.Vec.Iter.{into_iter_items}
use Rattle.go_type_doc_core.specs.members.Members.{type_member_shown}
use Rattle.go_type_doc_core.specs.TypeDocs.{member_shown}
use Rattle.go_type_doc_core.proofs.Zipped.{ended, nothing_left, one_more}
use Rattle.go_type_doc_core.proofs.telling.all_told.Goals as goal

pub loop-member-preserved : goal.loop-member-preserved
loop-member-preserved c = record {
  read = c.in_ok-member.ensures.read;
  so_far =
      one_more c.args.snapshot.now (map type_member_shown c.args.members.items) (into_iter_items c.loop-member.member-iterator) (into_iter_items c.next.new.self) c.in-Some.member (member_shown c.in_ok-member.member) (map member_shown c.loop-member.told.items)
      (map member_shown c.add.new.all.items) c.in-Some.ensures.steps.0 c.in_ok-member.ensures.told (ap (map member_shown) c.in_ok-add.ensures ∙ map-append member_shown c.loop-member.told.items _) c.loop-member.invariant.so_far;
}

pub returns : goal.returns
returns c =
    let left = into_iter_items c.loop-member.member-iterator in
    let none = nothing_left left (sym c.loop-member.member-iterator.rest.ok.0 ∙ c.in-None.ensures.steps.0) in
    ended c.args.snapshot.now c.args.members.items left c.loop-member.told.items none c.loop-member.invariant.so_far
