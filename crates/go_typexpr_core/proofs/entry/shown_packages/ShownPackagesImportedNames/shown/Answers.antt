use Rattle.std.proofs.Common.{sym, ap, ◌∙◌, arith, rules}
use Rattle.go_typexpr_core.specs.entry.Showing.{shown_in}
use Rattle.go_typexpr_core.specs.entry.mirrors.Indexing.{number_of}
use Rattle.go_typexpr_core.proofs.EntryShown.{number_within, shown_there, shown_nowhere}
use Rattle.go_typexpr_core.proofs.entry.shown_packages.ShownPackagesImportedNames.shown.Goals as goal

pub index-requires : goal.index-requires
index-requires c =
    let packages = c.self.inside.packages in
    let l = number_within packages.items c.args.path.now c.in-Some.number (ap (λ ps. number_of ps c.args.path.now) c.self.view_is ∙ (sym c.number.ensures ∙ c.in-Some.is)) in
    omega (arith, l, packages.ok.0)

pub returns-in-Some : goal.returns-in-Some
returns-in-Some c =
    let ps = c.self.inside.packages.items in
    let at = ap (λ l. number_of l c.args.path.now) c.self.view_is ∙ (sym c.number.ensures ∙ c.in-Some.is) in
    c.decl.ensures
    ∙ (shown_there ps c.args.path.now c.args.name.now c.in-Some.number c.index.result.now at c.index.ensures (search rules)
    ∙ ap (λ l. shown_in l c.args.path.now c.args.name.now) c.self.view_is)

pub returns-in-None : goal.returns-in-None
returns-in-None c =
    let ps = c.self.inside.packages.items in
    let at = ap (λ l. number_of l c.args.path.now) c.self.view_is ∙ (sym c.number.ensures ∙ c.in-None.is) in
    shown_nowhere ps c.args.path.now c.args.name.now at ∙ ap (λ l. shown_in l c.args.path.now c.args.name.now) c.self.view_is
