use Rattle.std.proofs.Common.{map, ap, sym, subst, ◌∙◌}
use Rattle.std.proofs.lemmas.Result.{IfOk-weaker}
use Rattle.go_type_core.specs.table_core.Shown.{entry_shown}
use Rattle.go_type_core.specs.table_core.Tables.{AreOf, KeysRise}
use Rattle.go_body_core.specs.typexpr_core.EntryOutlines.{outline_shown}
use Rattle.go_package_core.specs.prepare.Packages.{package_in_shown}
use Rattle.go_package_core.proofs.PrepareMade.{all_outlines, looped_in}
use Rattle.go_package_core.proofs.prepare.types.looped_aliases.Goals as goal

pub all_types-requires : goal.all_types-requires
all_types-requires g c =
    let p = package_in_shown g.P.ImportedNames.shows c.args.at.now in
    all_outlines (map outline_shown c.args.outlines.now) p.trees c.requires.outlines

pub alias_loops-requires-clause-own : goal.alias_loops-requires-clause-own
alias_loops-requires-clause-own g c = subst (λ es. AreOf c.path-path.result.now (map entry_shown es)) (sym c.deref.ensures.value) c.in_ok-written.ensures.own

pub alias_loops-requires-clause-rising : goal.alias_loops-requires-clause-rising
alias_loops-requires-clause-rising g c = subst (λ es. KeysRise (map entry_shown es)) (sym c.deref.ensures.value) c.in_ok-written.ensures.rising

pub returns : goal.returns
returns g c =
    let p = package_in_shown g.P.ImportedNames.shows c.args.at.now in
    IfOk-weaker c.alias_loops.result _ _
    (λ looped are.
    looped_in p (map entry_shown c.deref.result.now) c.path-path.result.now (map outline_shown c.args.outlines.now) c.args.aliases.now looped.items (ap (map entry_shown) c.deref.ensures.value ∙ c.in_ok-written.ensures.entries)
    c.path-path.ensures c.requires.outlines c.requires.aliases are)
    c.alias_loops.ensures
