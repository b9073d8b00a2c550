use Rattle.std.proofs.Common.{◌≡◌, None, length, sym, ap, ◌∙◌, arith}
use Rattle.go_collections_core.specs.name_table.Named.{entries_named, value_at}
use Rattle.go_collections_core.specs.name_table.Placed.{ArePlaced}
use Rattle.go_collections_core.proofs.NameTableOnce.{once_more}
use Rattle.go_collections_core.proofs.NameTableEntries.{named_push, named_size, table_same}
use Rattle.go_collections_core.proofs.NameTablePlacing.{placed_still, placed_besides, placed_more}
use Rattle.go_collections_core.proofs.name_table.named.NameTable.add.Goals as goal

pub invariant_of-self-in_err-note : goal.invariant_of-self-in_err-note
invariant_of-self-in_err-note g c =
    let before = c.widen.new.self in
    let ns = entries_named c.self.inside.entries.items in
    let placed : ArePlaced before.slots.items before.more ns = rw (ap entries_named (sym c.as_slice.ensures.value)) c.widen.ensures in
    (placed_still before.slots.items c.note.new.self.slots.items before.more c.note.new.self.more ns placed c.in_err-note.ensures.slots c.in_err-note.ensures.map, c.self.invariant.1)

pub invariant_of-self-in_err-push : goal.invariant_of-self-in_err-push
invariant_of-self-in_err-push g c =
    let before = c.widen.new.self in
    let after = c.note.new.self in
    let es = c.self.inside.entries.items in
    let ns = entries_named es in
    let placed : ArePlaced before.slots.items before.more ns = rw (ap entries_named (sym c.as_slice.ensures.value)) c.widen.ensures in
    let absent : value_at ns c.args.name.now ≡ None = ap (λ t. value_at t.names c.args.name.now) c.self.view_is ∙ c.requires in
    let size : length ns ≡ length es = named_size es in
    let count : c.len-place.result ≡ length ns = omega (arith, c.len-place.ensures, c.self.inside.entries.ok.0, size) in
    table_same after.slots.items after.more es c.push.new.self.items c.in_err-push.ensures.items (placed_besides before.slots.items after.slots.items before.more after.more ns c.args.name.now c.len-place.result placed absent count c.in_ok-note.ensures.ok, c.self.invariant.1)

pub invariant_of-self-2 : goal.invariant_of-self-2
invariant_of-self-2 g c =
    let before = c.widen.new.self in
    let after = c.note.new.self in
    let es = c.self.inside.entries.items in
    let ns = entries_named es in
    let placed : ArePlaced before.slots.items before.more ns = rw (ap entries_named (sym c.as_slice.ensures.value)) c.widen.ensures in
    let absent : value_at ns c.args.name.now ≡ None = ap (λ t. value_at t.names c.args.name.now) c.self.view_is ∙ c.requires in
    let size : length ns ≡ length es = named_size es in
    let count : c.len-place.result ≡ length ns = omega (arith, c.len-place.ensures, c.self.inside.entries.ok.0, size) in
    let more = ap entries_named c.in_ok-push.ensures.items ∙ named_push es c.in_ok-key.key c.args.name.now c.args.value c.in_ok-key.ensures.ok in
    (placed_more before.slots.items after.slots.items before.more after.more ns (entries_named c.push.new.self.items) c.args.name.now c.args.value c.len-place.result placed absent count more c.in_ok-note.ensures.ok, once_more ns (entries_named c.push.new.self.items) c.args.name.now c.args.value c.self.invariant.1 absent more)
