use Rattle.std.proofs.Common.{◌≡◌, ◌≤◌, length, sym, ap, subst, ◌∙◌, arith}
use Rattle.std.specs.Prelude.{vec_capacity}
use Rattle.std.specs.List.Sorted.{IsPermutation}
use Rattle.std.proofs.lemmas.List.Sorted.{length_permutation}
use Rattle.go_snap_core.specs.whole_workspace.Inputs.{AreParts}
use Rattle.go_snap_core.proofs.snapshot.join.Goals as goal
use Rattle.go_emit_core.specs.package_core.PackagePartSlots.{somes}

pub join_parts-requires : goal.join_parts-requires
join_parts-requires c = subst (λ l. AreParts l c.put_parts.new.slots) c.packages-2.ensures.packages c.put_parts.ensures.parts

pub take_back-requires-clause-room : goal.take_back-requires-clause-room
take_back-requires-clause-room c =
    let counted = length_permutation c.args.parts.items (somes c.put_parts.new.slots) c.put_parts.ensures.same in
    subst (λ l. length (somes l) ≤ vec_capacity c.put_parts.new.parts) (sym c.in-Err.ensures.given_back.1) (omega (arith, counted, c.put_parts.ensures.room))

pub returns-in-Ok-join_parts-clause-parts : goal.returns-in-Ok-join_parts-clause-parts
returns-in-Ok-join_parts-clause-parts c = subst (λ l. IsPermutation c.args.parts.items (somes l)) (sym c.in-Ok-join_parts.ensures.parts) c.put_parts.ensures.same

pub returns-in-Err-clause-given_back : goal.returns-in-Err-clause-given_back
returns-in-Err-clause-given_back c = (
  c.in-Err.ensures.given_back.0,
  subst (IsPermutation c.args.parts.items) (sym (c.take_back.ensures ∙ ap somes c.in-Err.ensures.given_back.1)) c.put_parts.ensures.same,
)
