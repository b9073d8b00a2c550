use Rattle.std.proofs.Common.{◌≡◌, ◌<◌, ◌≤◌, [], length, get_or, sym, ap, subst, arith}
use Rattle.go_handle_core.specs.Declarations.{site_shown}
use Rattle.go_reference_core.specs.References.{IsReference}
use Rattle.go_reference_core.specs.mirrors.Adding.{Adds}
use Rattle.go_reference_core.proofs.Found.{all_references, parts_start, parts_step}
use Rattle.go_reference_core.proofs.finding.references.Goals as goal

pub loop-package-init : goal.loop-package-init
loop-package-init c =
    let s = c.args.snapshot.now in
    let d = site_shown c.args.site in
    subst (Adds (λ r. IsReference s d r × (r.«package» < 0)) []) (sym c.new-references.ensures.items) (parts_start s d)

pub loop-package-preserved : goal.loop-package-preserved
loop-package-preserved c =
    let s = c.args.snapshot.now in
    let d = site_shown c.args.site in
    let same = c.parts-parts.ensures in
    let i = c.loop-package.«package» in
    let lt : i < length s.parts = omega (arith, c.loop-package-test.true, ap length same) in
    let at = subst (λ (l : _). c.index-parts-package.result ≡ get_or l i c.index-parts-package.result) same c.index-parts-package.is in
    parts_step s d i c.index-parts-package.result c.loop-package.references.items c.add_slot.new.references.items lt at c.loop-package.invariant c.in_ok-add_slot.ensures

pub returns : goal.returns
returns c =
    let s = c.args.snapshot.now in
    let d = site_shown c.args.site in
    let le : length s.parts ≤ c.loop-package.«package» = omega (arith, c.loop-package-test.false, ap length c.parts-parts.ensures) in
    all_references s d c.loop-package.«package» c.loop-package.references.items le c.loop-package.invariant
