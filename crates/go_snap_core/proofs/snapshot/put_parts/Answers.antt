use Rattle.std.proofs.Common.{◌≡◌, [], Option, length, None, ap, subst, ◌∙◌, rules}
use Rattle.std.specs.List.Sorted.{IsPermutation}
use Rattle.std.proofs.lemmas.List.{length-replicate}
use Rattle.std.proofs.lemmas.List.Sorted.{IsPermutation-sym}
use Rattle.go_emit_core.specs.package_core.PackagePartParts.{PartModel}
use Rattle.go_snap_core.specs.whole_workspace.Inputs.{AreParts}
use Rattle.go_snap_core.proofs.Putting.{IsPut, all_put, put_next, put_none}
use Rattle.go_snap_core.proofs.snapshot.put_parts.Goals as goal
use Rattle.go_emit_core.specs.package_core.PackagePartSlots.{somes}

pub loop-part-init : goal.loop-part-init
loop-part-init c = (
  (λ all are same. put_none c.args.packages.now all c.args.slots.now c.args.parts.now.items are c.requires.none same),
  ap length c.requires.none ∙ length-replicate {A = Option PartModel} (length c.args.packages.now) None,
  search rules,
)

pub loop-part-preserved : goal.loop-part-preserved
loop-part-preserved c = (
  (λ all are same. put_next c.args.packages.now all c.loop-part.slots c.put_part.new.slots c.loop-part.parts.items c.pop.new.self.items c.in-Some.part c.requires.well are c.in-Some.ensures.items c.put_part.ensures.put (c.loop-part.invariant.0 all are same)),
  c.put_part.ensures.many ∙ c.loop-part.invariant.1,
  search rules,
)

pub returns-clause-parts : goal.returns-clause-parts
returns-clause-parts c =
    let none : c.loop-part.parts.items ≡ [] = search rules in
    let all = c.requires.parts.parts in
    let put : IsPut all c.loop-part.slots [] = subst (λ l. IsPut all c.loop-part.slots l) none (c.loop-part.invariant.0 all c.requires.parts.are c.requires.parts.same) in
    subst (λ l. AreParts c.args.packages.now l) (all_put all c.loop-part.slots put) c.requires.parts.are

pub returns-clause-same : goal.returns-clause-same
returns-clause-same c =
    let none : c.loop-part.parts.items ≡ [] = search rules in
    let all = c.requires.parts.parts in
    let put : IsPut all c.loop-part.slots [] = subst (λ l. IsPut all c.loop-part.slots l) none (c.loop-part.invariant.0 all c.requires.parts.are c.requires.parts.same) in
    subst (λ l. IsPermutation c.args.parts.now.items (somes l)) (all_put all c.loop-part.slots put) (IsPermutation-sym (somes all) c.args.parts.now.items c.requires.parts.same)
