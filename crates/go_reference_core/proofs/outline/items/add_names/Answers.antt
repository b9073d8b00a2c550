use Rattle.std.proofs.Common.{◌++◌, ◌∷◌, [], map, ap, ◌∙◌}
use Rattle.go_reference_core.specs.outline.Outlines.{EntryTree, entry, entry_shown}
use Rattle.go_reference_core.proofs.OutlineAdding.{step, whole}
use Rattle.go_reference_core.proofs.OutlineListed.{idents_list, next_entries}
use Rattle.go_reference_core.proofs.outline.items.add_names.Goals as goal

pub loop-next-init : goal.loop-next-init
loop-next-init c = c.in_ok-put.ensures ∙ ap (λ (e : EntryTree). map entry_shown c.args.entries.now.items ++ e ∷ []) c.named.ensures

pub loop-next-preserved : goal.loop-next-preserved
loop-next-preserved c =
    let p = c.args.part in
    step (next_entries c.args.kind c.args.is_member p.start p.end) (map entry_shown c.args.entries.now.items) (map entry_shown c.loop-next.entries.items) (map entry_shown c.put-in-loop-next.new.entries.items)
    (entry c.args.idents.now.first c.args.kind c.args.is_member p.start p.end p.end ∷ []) c.deref-next-items.result.now c.loop-next.next-index c.next-item.result c.loop-next-test.true c.next-item.is c.loop-next.invariant
    (c.in_ok-put-2.ensures ∙ ap (λ (e : EntryTree). map entry_shown c.loop-next.entries.items ++ e ∷ []) c.named-in-loop-next.ensures)

pub returns : goal.returns
returns c =
    let p = c.args.part in
    whole (next_entries c.args.kind c.args.is_member p.start p.end) (map entry_shown c.args.entries.now.items) (map entry_shown c.loop-next.entries.items)
    (entry c.args.idents.now.first c.args.kind c.args.is_member p.start p.end p.end ∷ []) c.deref-next-items.result.now c.args.idents.now.more.items c.loop-next.next-index _ c.deref-next-items.ensures.value c.loop-next-test.false
    (idents_list c.args.kind c.args.is_member p.start p.end c.args.idents.now.first c.args.idents.now.more.items) c.loop-next.invariant
