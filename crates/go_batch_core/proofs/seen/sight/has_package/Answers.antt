use Rattle.std.proofs.Common.{◌≡◌, is_some, ap, ◌∙◌}
use Rattle.go_summary_core.specs.declared_core.Packages.{package_in}
use Rattle.go_batch_core.proofs.SeenLooking.{looked, some_copied}
use Rattle.go_batch_core.proofs.seen.sight.has_package.Goals as goal

pub returns-clause-there : goal.returns-clause-there
returns-clause-there c =
    let view = c.args.view.now in
    let is : c.is_some.result ≡ is_some (package_in view.faces c.args.path.now) = c.is_some.ensures ∙ (some_copied c.locate.result ∙ ap is_some c.locate.ensures) in
    (looked c.args.told.now.items view.types view.shown view.faces c.args.path.now c.is_some.result c.requires is).there

pub returns-clause-none : goal.returns-clause-none
returns-clause-none c =
    let view = c.args.view.now in
    let is : c.is_some.result ≡ is_some (package_in view.faces c.args.path.now) = c.is_some.ensures ∙ (some_copied c.locate.result ∙ ap is_some c.locate.ensures) in
    (looked c.args.told.now.items view.types view.shown view.faces c.args.path.now c.is_some.result c.requires is).none
