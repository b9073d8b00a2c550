use Rattle.std.proofs.Common.{map, ap, ◌++◌, ◌∙◌}
use Rattle.go_type_core.specs.table_core.Shown.{entry_shown}
use Rattle.go_body_core.specs.typexpr_core.EntryOutlines.{outline_shown}
use Rattle.go_package_core.specs.prepare.Packages.{package_in_shown}
use Rattle.go_package_core.proofs.PrepareMade.{all_outlines, types_are}
use Rattle.go_package_core.proofs.prepare.types.package_types.Goals as goal

pub type_entries-requires : goal.type_entries-requires
type_entries-requires g c =
    let p = package_in_shown g.P.ImportedNames.shows c.args.at.now in
    all_outlines (map outline_shown c.args.outlines.now) p.trees c.requires.outlines

pub returns-clause-types : goal.returns-clause-types
returns-clause-types g c =
    let p = package_in_shown g.P.ImportedNames.shows c.args.at.now in
    types_are p (g.N.ImportedNames.shows c.args.names.now) c.args.types.now c.in_ok-own.own.entries c.add.new.self c.path-path.result.now (map outline_shown c.args.outlines.now) (map entry_shown c.in_ok-entries.entries.items)
    (map entry_shown c.deref.result.now) (map entry_shown c.deref-2.result.now) c.in_ok-looped.looped.items c.deref-4.result.now c.in_ok-own.loops.items c.deref-3.result.now c.in_ok-faults.faults.items
    c.requires.names c.path-path.ensures c.requires.outlines c.in_ok-entries.ensures.entries
    (ap (map entry_shown) c.deref.ensures.value) c.in_ok-own.ensures.types
    (c.in_ok-add.ensures.ok ∙ ap (λ t. c.args.types.now ++ t.entries) c.in_ok-share-2.ensures)
    (ap (map entry_shown) c.deref-2.ensures.value) c.in_ok-looped.ensures c.deref-4.ensures.value c.deref-3.ensures.value c.in_ok-faults.ensures
