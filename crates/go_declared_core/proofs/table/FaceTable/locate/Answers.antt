use Rattle.std.proofs.Common.{sym, ap, ◌∙◌, arith}
use Rattle.go_declared_core.specs.Packages.{package_in}
use Rattle.go_declared_core.specs.mirrors.Tables.{keyed, place_of}
use Rattle.go_declared_core.proofs.Keyed.{package_within, package_there, package_missing}
use Rattle.go_declared_core.proofs.table.FaceTable.locate.Goals as goal

pub index-requires : goal.index-requires
index-requires c =
    let packages = c.self.inside.packages in
    let l = package_within packages.items c.args.path.now c.in-Some.place (ap (λ ps. place_of (keyed ps) c.args.path.now) c.self.view_is ∙ (sym c.place.ensures ∙ c.in-Some.is)) in
    omega (arith, l, packages.ok.0)

pub returns-in-Some : goal.returns-in-Some
returns-in-Some c =
    let at = ap (λ ps. place_of (keyed ps) c.args.path.now) c.self.view_is ∙ (sym c.place.ensures ∙ c.in-Some.is) in
    package_there c.self.inside.packages.items c.args.path.now c.in-Some.place c.index.result.now at c.index.ensures ∙ ap (λ ps. package_in ps c.args.path.now) c.self.view_is

pub returns-in-None : goal.returns-in-None
returns-in-None c =
    let at = ap (λ ps. place_of (keyed ps) c.args.path.now) c.self.view_is ∙ (sym c.place.ensures ∙ c.in-None.is) in
    package_missing c.self.inside.packages.items c.args.path.now at ∙ ap (λ ps. package_in ps c.args.path.now) c.self.view_is
