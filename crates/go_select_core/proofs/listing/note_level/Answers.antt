use Rattle.std.proofs.Common.{length, map, ap, ◌∙◌, arith}
use Rattle.std.proofs.lemmas.List.{length-map}
use Rattle.go_embed_core.specs.table_core.Entries.{find_entry}
use Rattle.go_embed_core.specs.Owners.{members_of}
use Rattle.go_embed_core.specs.OwnersShown.{owner_shown, named_shown}
use Rattle.go_select_core.specs.mirrors.Names.{names_of}
use Rattle.go_select_core.proofs.LevelsListLemmas.{at_read}
use Rattle.go_select_core.proofs.Naming.{are_noted_start, are_noted_more, are_named_more, are_noted_row, are_noted_end, member_at}
use Rattle.go_select_core.proofs.listing.note_level.Goals as goal

pub types-init : goal.types-init
types-init c = (are_noted_start (find_entry c.args.table.now) c.args.types.now c.args.first (names_of c.args.names.now), c.requires.named)

pub members-preserved : goal.members-preserved
members-preserved c =
    let look = find_entry c.args.table.now in
    let types = c.args.types.now in
    let o = owner_shown c.of.result in
    let at = at_read types c.types.n c.index-types-n.result (omega arith) c.index-types-n.is in
    let all = ap (map named_shown) c.deref-member-items.ensures.value ∙ c.in_ok-members.ensures in
    let has = member_at c.deref-member-items.result.now (members_of o) c.members.member-index c.member-item.result all c.members-test.true c.member-item.is in (
      are_noted_more look types c.args.first c.types.n c.index-types-n.result at c.types.auto.n o c.of.ensures c.members.member-index c.member-item.result has (names_of c.members.names) (names_of c.note.new.self) c.in_ok-note.ensures (names_of c.args.names.now) c.requires.before c.members.invariant.0,
      are_named_more look types c.args.first c.types.n c.index-types-n.result at c.types.auto.n o c.of.ensures c.members.member-index c.member-item.result has (names_of c.members.names) (names_of c.note.new.self) c.in_ok-note.ensures c.members.invariant.1,
    )

pub types-preserved : goal.types-preserved
types-preserved c =
    let look = find_entry c.args.table.now in
    let types = c.args.types.now in
    let o = owner_shown c.of.result in
    let at = at_read types c.types.n c.index-types-n.result (omega arith) c.index-types-n.is in
    let all = ap length (ap (map named_shown) c.deref-member-items.ensures.value ∙ c.in_ok-members.ensures) in
    let l = length-map c.deref-member-items.result.now named_shown in
    (are_noted_row look types c.args.first c.types.n c.index-types-n.result at o c.of.ensures c.members.member-index (omega (arith, all, l, c.members-test.false)) (names_of c.args.names.now) (names_of c.members.names) c.members.invariant.0, c.members.invariant.1)

pub returns-clause-said : goal.returns-clause-said
returns-clause-said c = are_noted_end (find_entry c.args.table.now) c.args.types.now c.args.first c.types.n (names_of c.args.names.now) (names_of c.types.names) (omega arith) c.types.invariant.0
