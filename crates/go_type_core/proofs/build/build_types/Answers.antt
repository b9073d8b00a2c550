use Rattle.std.proofs.Common.{ap, ◌∙◌, subst, sym}
use Rattle.go_table_core.specs.Entries.{find_entry}
use Rattle.go_table_core.specs.Tables.{PackageTypesModel}
use Rattle.go_type_core.specs.Built.{IsBuilt}
use Rattle.go_type_core.specs.mirrors.Making.{marked_faults}
use Rattle.go_type_core.proofs.Joining.{shown, made_own, made_rise, made_plain, made_built}
use Rattle.go_type_core.proofs.build.build_types.Goals as goal

pub new-requires-clause-own : goal.new-requires-clause-own
new-requires-clause-own c = made_own c.args.entries.now c.args.imported.now c.in_ok-keys.keys c.in_ok-looped.looped.items c.deref-2.result.now c.in_ok-types.types.items c.requires.rising c.in_ok-keys.ensures c.in_ok-looped.ensures.looped c.in_ok-looped.ensures.falls c.deref-2.ensures.value c.in_ok-types.ensures c.args.path c.requires.own

pub new-requires-clause-rising : goal.new-requires-clause-rising
new-requires-clause-rising c = made_rise c.args.entries.now c.args.imported.now c.in_ok-keys.keys c.in_ok-looped.looped.items c.deref-2.result.now c.in_ok-types.types.items c.requires.rising c.in_ok-keys.ensures c.in_ok-looped.ensures.looped c.in_ok-looped.ensures.falls c.deref-2.ensures.value c.in_ok-types.ensures

pub new-requires-clause-plain : goal.new-requires-clause-plain
new-requires-clause-plain c = made_plain c.args.entries.now c.args.imported.now c.in_ok-keys.keys c.in_ok-looped.looped.items c.deref-2.result.now c.in_ok-types.types.items c.requires.rising c.in_ok-keys.ensures c.in_ok-looped.ensures.looped c.in_ok-looped.ensures.falls c.deref-2.ensures.value c.in_ok-types.ensures c.len-plain.ensures.plain

pub returns-clause-types : goal.returns-clause-types
returns-clause-types c =
    let built = made_built c.args.entries.now c.args.imported.now c.in_ok-keys.keys c.in_ok-looped.looped.items c.deref-2.result.now c.in_ok-types.types.items c.requires.rising c.in_ok-keys.ensures c.in_ok-looped.ensures.looped c.in_ok-looped.ensures.falls c.deref-2.ensures.value c.in_ok-types.ensures c.in_ok-faults.faults.items c.in_ok-looped.ensures.len (c.in_ok-faults.ensures ∙ ap (marked_faults 0) c.deref.ensures.value) in
    subst (λ l. IsBuilt (find_entry c.args.imported.now) (shown c.args.entries.now) l c.in_ok-faults.faults.items) (sym (ap (λ (t : PackageTypesModel). t.entries) c.in_ok-new.ensures)) built
