use Rattle.std.proofs.Common.{◌≡◌, length, Some, None, refl, sym, ap, ◌∙◌}
use Rattle.std.proofs.lemmas.Bool.{true≢false}
use Rattle.std.proofs.lemmas.Option.{slice_get_read, slice_get_past, same_Some}
use Rattle.go_type_core.specs.table_core.declared.entry.TypeEntry.{TypeEntry}
use Rattle.go_typexpr_core.proofs.EntryPlacing.{entry_here, entry_nowhere}
use Rattle.go_typexpr_core.proofs.entry.methods.entry_of.Goals as goal

pub returns-then-is_same : goal.returns-then-is_same
returns-then-is_same c =
    let ws = c.args.entries.now in
    let place = c.count_before-place.result in
    let read = slice_get_read ws (length ws) place c.in-Some.entry.now refl c.in-Some.ensures.lookup.3.0 c.in-Some.ensures.lookup.1 in
    entry_here ws c.args.key.now place c.in-Some.entry.now read (c.is_same.ensures.0 c.if-is_same.true)

pub returns-else-is_same : goal.returns-else-is_same
returns-else-is_same c =
    let ws = c.args.entries.now in
    let place = c.count_before-place.result in
    let read = slice_get_read ws (length ws) place c.in-Some.entry.now refl c.in-Some.ensures.lookup.3.0 c.in-Some.ensures.lookup.1 in
    entry_nowhere ws c.args.key.now place c.requires c.count_before-place.ensures.split
    (λ w at key. true≢false (sym (c.is_same.ensures.1 (ap (λ (e : TypeEntry). e.key) (same_Some c.in-Some.entry.now w (sym read ∙ at)) ∙ key)) ∙ c.if-is_same.false))

pub returns-in-None : goal.returns-in-None
returns-in-None c =
    let ws = c.args.entries.now in
    let place = c.count_before-place.result in
    let past = slice_get_past ws place c.in-None.ensures.lookup.3 in
    entry_nowhere ws c.args.key.now place c.requires c.count_before-place.ensures.split (λ w at key. absurd (let none : None ≡ Some w = sym past ∙ at in cc))
