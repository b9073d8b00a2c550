use Rattle.std.proofs.Common.{rules, ◌≡◌, ◌<◌, ◌≤◌, length, Some, None, sym, ap, subst, ◌∙◌, arith}
use Rattle.go_snap_core.specs.Snapshots.{contents_of}
use Rattle.go_snap_core.proofs.Faulty.{all_added, none_added, none_assembled, package_there, part_added, slot_at, slot_below, source_at}
use Rattle.go_snap_core.proofs.Reporting.{no_faults}
use Rattle.go_snap_core.specs.mirrors.Reports.{AddsUnassembled, AreFaultsTo}
use Rattle.go_snap_core.proofs.fault.faults_of.Goals as goal
use Rattle.go_snap_core.proofs.fault.faults_of.Goals.{in-None+in_ok-add_unassembled-in-None, in-Some+in_ok-add_part-in-Some}

pub loop-package-init : goal.loop-package-init
loop-package-init c = subst (AreFaultsTo c.args.workspace.now (contents_of c.args.parts.now) 0) (sym c.new-faults.ensures.items) (no_faults c.args.workspace.now (contents_of c.args.parts.now))

pub bounds-parts-package : goal.bounds-parts-package
bounds-parts-package c =
    slot_below c.args.workspace.now c.args.parts.now c.packages-packages.ensures.read c.requires c.packages-packages.result.now c.loop-package.package c.packages-packages.ensures.packages c.loop-package-test.true

pub offset_bounds-parts-package : goal.offset_bounds-parts-package
offset_bounds-parts-package c =
    let lt : c.loop-package.package < length c.args.parts.now =
    slot_below c.args.workspace.now c.args.parts.now c.packages-packages.ensures.read c.requires c.packages-packages.result.now c.loop-package.package c.packages-packages.ensures.packages c.loop-package-test.true in
    search rules

pub add_unassembled-requires : goal.add_unassembled-requires
add_unassembled-requires c =
    let ps = c.args.workspace.now in
    let parts = c.args.parts.now in
    let read = c.packages-packages.ensures.read in
    let sources = c.packages-packages.result.now in
    let same = c.packages-packages.ensures.packages in
    let n = c.loop-package.package in
    let lt = c.loop-package-test.true in
    none_assembled ps parts read c.requires n c.index-packages-package.result (source_at ps parts read c.requires sources n c.index-packages-package.result same lt c.index-packages-package.is)
    (slot_at ps parts read c.requires sources n c.index-parts-package.result None same lt c.index-parts-package.is c.in-None.is)

pub loop-package-preserved : goal.loop-package-preserved
loop-package-preserved c =
    let ps = c.args.workspace.now in
    let parts = c.args.parts.now in
    let read = c.packages-packages.ensures.read in
    let sources = c.packages-packages.result.now in
    let same = c.packages-packages.ensures.packages in
    let n = c.loop-package.package in
    let lt = c.loop-package-test.true in
    let old = c.loop-package.faults.items in
    elim c.match-parts-package.branch [
      | in-Some+in_ok-add_part-in-Some w ↦
          (let p = package_there ps parts read c.requires sources n same lt in
          part_added ps parts read c.requires n p.0 w.in-Some.part old c.match-parts-package.faults.items p.1
          (slot_at ps parts read c.requires sources n c.index-parts-package.result (Some w.in-Some.part) same lt c.index-parts-package.is w.in-Some.is) c.loop-package.invariant
          (ap (λ v. v.items) w.faults-is ∙ w.in_ok-add_part-in-Some.ensures))
      | in-None+in_ok-add_unassembled-in-None w ↦
          none_added ps parts read c.requires n w.index-packages-package.result old c.match-parts-package.faults.items
          (source_at ps parts read c.requires sources n w.index-packages-package.result same lt w.index-packages-package.is) (slot_at ps parts read c.requires sources n c.index-parts-package.result None same lt c.index-parts-package.is w.in-None.is) c.loop-package.invariant
          (subst (λ v. AddsUnassembled n w.index-packages-package.result.1 old v.items) (sym w.faults-is) w.in_ok-add_unassembled-in-None.ensures)
    ]

pub returns : goal.returns
returns c = all_added c.args.workspace.now c.args.parts.now c.packages-packages.ensures.read c.requires c.loop-package.faults.items c.loop-package.package (omega (arith, c.loop-package-test.false, c.loop-package.auto.package-end, ap length c.packages-packages.ensures.packages)) c.loop-package.invariant
