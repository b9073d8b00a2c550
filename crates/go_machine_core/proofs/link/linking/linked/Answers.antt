use Rattle.std.proofs.Common.{◌≡◌, ◌+◌, ℕ, List, length, map, sym, ap, ap₂, ◌∙◌, subst, arith}
use Rattle.std.specs.Borrow.{Bor}
use Rattle.std.proofs.lemmas.List.{length-map}
use Rattle.go_object_core.specs.Objects.{ObjectOf, object_shown}
use Rattle.go_machine_core.specs.declared.linked.Linked.{Linked}
use Rattle.go_machine_core.specs.Programs.{linked_shown}
use Rattle.go_machine_core.specs.declared.link.packages.Package.{Package}
use Rattle.go_machine_core.specs.link.Packages.{order_from, package_number, package_shown}
use Rattle.go_machine_core.specs.link.mirrors.Layouts.{AreWithin, LayoutOf, layout_of}
use Rattle.go_machine_core.specs.link.mirrors.Numbering.{AreBelow}
use Rattle.go_machine_core.proofs.LinkTurning.{order_below}
use Rattle.go_machine_core.proofs.LinkWithin.{packages_many, program_within}
use Rattle.go_machine_core.proofs.link.linking.linked.Goals as goal

pub begin-requires-clause-within : goal.begin-requires-clause-within
begin-requires-clause-within g c =
    let os = map object_shown c.args.objects.now in
    let is = ap₂ (λ (fs : List Linked) (ps : List Package). layout_of (map linked_shown fs) (map package_shown ps)) c.deref-3.ensures.value c.deref-4.ensures.value ∙ c.in_ok-layout.ensures in
    subst AreWithin (sym is) (program_within (g.P.Places.place_of c.args.places.now) os)

pub begin-requires-clause-order : goal.begin-requires-clause-order
begin-requires-clause-order g c =
    let os = map object_shown c.args.objects.now in
    let paths = map (λ (p : Bor (List ℕ)). p.now) c.deref.result.now in
    let packages = c.in_ok-layout.layout.packages.items in
    let many : 0 + length paths ≡ length c.deref-4.result.now = omega (
      arith,
      length-map c.deref.result.now (λ (p : Bor (List ℕ)). p.now),
      ap length c.deref.ensures.value,
      ap length c.in_ok-paths.ensures,
      length-map c.in_ok-paths.paths.items (λ (p : Bor (List ℕ)). p.now),
      length-map os (λ (o : ObjectOf g.row.D.Denot). o.path),
      packages_many (package_number os) 0 os,
      ap (λ (l : LayoutOf). length l.packages) c.in_ok-layout.ensures,
      length-map packages package_shown,
      ap length c.deref-4.ensures.value,
    ) in
    subst (λ (ns : List ℕ). AreBelow (length c.deref-4.result.now) ns) (sym (c.deref-5.ensures.value ∙ c.in_ok-order.ensures))
    (subst (λ (n : ℕ). AreBelow n (order_from paths 0 paths)) many (order_below paths 0 paths))
