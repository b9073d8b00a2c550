use Rattle.std.proofs.Common.{map, sym, ap, ◌∙◌, subst}
use Rattle.go_summary_core.specs.table_core.Entries.{find_entry}
use Rattle.go_term_core.specs.Shapes.{shape}
use Rattle.go_type_doc_core.specs.members.Members.{AreMembers, member_with}
use Rattle.go_type_doc_core.proofs.MembersDenoting.{are_members}
use Rattle.go_type_doc_core.proofs.members.listing.members_of.Goals as goal

pub returns : goal.returns
returns c =
    let es = c.args.table.now in
    let t = shape c.args.term.now in
    let listed = c.in_ok-listed.listed.items in
    let start = shape c.start_of-start.result.now in
    let is = c.in_ok-members.ensures ∙ (ap (map (member_with (find_entry es) start)) c.deref.ensures.value ∙ ap (λ u. map (member_with (find_entry es) u) listed) c.start_of-start.ensures) in
    subst (AreMembers es t c.args.from.now) (sym is) (are_members es t c.args.from.now listed c.in_ok-listed.ensures)
