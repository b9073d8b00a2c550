use Rattle.std.proofs.Common.{List, None, Some, map, refl, sym, subst, arith}
use Rattle.std.proofs.lemmas.List.{length-map}
use Rattle.std.proofs.lemmas.Option.{slice_get_within}
use Rattle.std.proofs.lemmas.Result.{on_ok_weaker}
use Rattle.go_type_core.specs.table_core.declared.entry.TypeEntry.{TypeEntry}
use Rattle.go_type_core.specs.table_core.Shown.{entry_shown}
use Rattle.go_tree_nodes.specs.Shapes.{func_of}
use Rattle.go_term_core.specs.decl_core.Shown.{decl_shown}
use Rattle.go_typexpr_core.specs.written.Written.{in_file}
use Rattle.go_typexpr_core.specs.entry.Entries.{received_of}
use Rattle.go_typexpr_core.specs.entry.mirrors.Gaining.{IsMeantAt}
use Rattle.go_typexpr_core.proofs.EntryGains.{gain_none}
use Rattle.go_typexpr_core.proofs.EntryReceiving.{put_to}
use Rattle.go_typexpr_core.proofs.entry.methods.add_received.Goals as goal

pub returns-in-None : goal.returns-in-None
returns-in-None g c =
    let mean = g.N.TypeNames.meaning c.args.names.now in
    let r = received_of mean (in_file c.args.at.now) (decl_shown c.args.decl.now) (func_of c.args.func.now) c.args.receiver.now in
    let at = subst (λ o. IsMeantAt (map entry_shown c.deref.result.now) r.base o) c.in-None.is c.in_ok-place.ensures in
    sym (gain_none r (map entry_shown c.args.entries.now.items) (subst (λ (ws : List TypeEntry). IsMeantAt (map entry_shown ws) r.base None) c.deref.ensures.value at))

pub index_mut-entry-requires : goal.index_mut-entry-requires
index_mut-entry-requires g c =
    let ws = c.args.entries.now.items in
    let base = g.N.TypeNames.meaning c.args.names.now c.args.receiver.now.base in
    let at = subst (λ o. IsMeantAt (map entry_shown c.deref.result.now) base o) c.in-Some.is c.in_ok-place.ensures in
    let own = subst (λ (es : List TypeEntry). IsMeantAt (map entry_shown es) base (Some c.in-Some.place)) c.deref.ensures.value at in
    let within = slice_get_within (map entry_shown ws) c.in-Some.place own.0 own.1 in
    omega (arith, within, length-map ws entry_shown, c.args.entries.now.ok)

pub returns : goal.returns
returns g c =
    let ws = c.args.entries.now.items in
    let mean = g.N.TypeNames.meaning c.args.names.now in
    let r = received_of mean (in_file c.args.at.now) (decl_shown c.args.decl.now) (func_of c.args.func.now) c.args.receiver.now in
    let at = subst (λ o. IsMeantAt (map entry_shown c.deref.result.now) r.base o) c.in-Some.is c.in_ok-place.ensures in
    let own = subst (λ (es : List TypeEntry). IsMeantAt (map entry_shown es) r.base (Some c.in-Some.place)) c.deref.ensures.value at in
    let old = c.index_mut-entry.result.now in
    let new : TypeEntry = record { key = old.key; name = old.name; term = old.term; methods = c.add.new.all } in
    on_ok_weaker c.add.result
    (λ added. put_to r ws c.in-Some.place c.requires own old new c.in_ok-method.method c.index_mut-entry.ensures.value refl refl refl added c.in_ok-method.ensures)
    c.add.ensures
