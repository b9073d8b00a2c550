use Rattle.std.proofs.Common.{subst, sym}
use Rattle.go_graph_core.specs.Imports.{IsNumbered}
use Rattle.go_reference_core.specs.rename.Moving.{moves_of}
use Rattle.go_reference_core.proofs.RenameMoved.{local_elsewhere, local_found, local_nowhere}
use Rattle.go_reference_core.proofs.rename.places.is_moved_local.Goals as goal

pub package_of-requires : goal.package_of-requires
package_of-requires c = c.requires.order

pub returns-then-new-old : goal.returns-then-new-old
returns-then-new-old c = local_elsewhere (moves_of c.args.names.now) c.args.packages.now c.requires c.args.path.now c.args.old c.args.new c.if-new-old.true

pub returns-in-Some : goal.returns-in-Some
returns-in-Some c =
    let ps = c.args.packages.now in
    let found = c.in-Some.ensures in
    local_found (moves_of c.args.names.now) ps c.requires c.args.path.now c.args.old c.args.new c.in-Some.«package» found.0 c.lies.result c.if-new-old.false (subst (λ p. IsNumbered ps p c.in-Some.«package» found.0) c.as_str.ensures.text found.1) c.lies.ensures

pub returns-in-None : goal.returns-in-None
returns-in-None c = local_nowhere (moves_of c.args.names.now) c.args.packages.now c.requires c.args.path.now c.args.old c.args.new (λ number files at. c.in-None.ensures number files (subst (λ p. IsNumbered c.args.packages.now p number files) (sym c.as_str.ensures.text) at))
