use Rattle.std.proofs.Common.{◌≡◌, true, false, refl, sym, ap, subst, ◌∙◌}
use Rattle.go_graph_core.proofs.OutcomeLaws.{all_at_place}
use Rattle.go_graph_core.specs.Workspaces.{AreAllRead}
use Rattle.go_body_core.specs.table_core.Tables.{AreOthers}
use Rattle.go_emit_core.specs.package_core.PackagePartInputs.{path_in}
use Rattle.go_emit_core.specs.package_core.PackagePartParts.{IsPart, PartModel}
use Rattle.go_snap_core.proofs.WholeWorkspaceNext.{next_assembled, next_is, next_others, next_reached, next_right}
use Rattle.go_snap_core.specs.make.Keeping.{WasThere}
use Rattle.go_snap_core.proofs.MakeMarking.{made_alone, marked_for, none_found, one_found, types_own}
use Rattle.go_snap_core.proofs.make.making.next_part.Goals as goal

pub input_of-requires-clause-assembled : goal.input_of-requires-clause-assembled
input_of-requires-clause-assembled c = next_assembled c.args.workspace.now c.args.plan.now c.requires.well c.requires.plan c.args.parts.now c.args.number c.args.seen.now.types c.args.seen.now.shown c.args.seen.now.faces c.requires.next

pub input_of-requires-clause-parts : goal.input_of-requires-clause-parts
input_of-requires-clause-parts c = next_reached c.args.workspace.now c.args.plan.now c.requires.well c.requires.plan c.args.parts.now c.args.number c.args.seen.now.types c.args.seen.now.shown c.args.seen.now.faces c.requires.next

pub earlier_part-requires-clause-own : goal.earlier_part-requires-clause-own
earlier_part-requires-clause-own c = all_at_place AreAllRead c.args.workspace.now c.args.number c.in_ok-input.input.source c.requires.read c.in_ok-input.ensures.input.numbered

pub earlier_part-requires-clause-again : goal.earlier_part-requires-clause-again
earlier_part-requires-clause-again c = marked_for c.args.earlier.now c.args.again.now c.args.parts.now c.args.reached.now c.args.number c.in_ok-input.input.reached c.requires.again c.in_ok-input.ensures.told

pub new_part-requires-clause-others : goal.new_part-requires-clause-others
new_part-requires-clause-others c =
    next_others c.args.workspace.now c.args.plan.now c.requires.well c.requires.plan c.args.parts.now c.args.number c.args.seen.now.types c.args.seen.now.shown c.args.seen.now.faces c.requires.next
    c.in_ok-input.input c.in_ok-input.ensures.input

pub new_part-requires-clause-alone : goal.new_part-requires-clause-alone
new_part-requires-clause-alone c = λ content made.
    next_is c.args.workspace.now c.args.plan.now c.requires.well c.requires.plan c.args.parts.now c.args.number c.args.seen.now.types c.args.seen.now.shown c.args.seen.now.faces c.requires.next
    c.check_is_local.ensures c.imports_bind_theirs.ensures c.in_ok-input.input content c.in_ok-input.ensures.input made

pub keep-requires : goal.keep-requires
keep-requires c =
    let part = c.in-Some.part.now in
    let found = one_found c.args.earlier.now c.in_ok-input.input c.in_ok-found.found c.in-Some.part c.in-Some.is c.in_ok-found.ensures in
    let types = c.args.seen.now.types in
    let others =
    next_others c.args.workspace.now c.args.plan.now c.requires.well c.requires.plan c.args.parts.now c.args.number types c.args.seen.now.shown c.args.seen.now.faces c.requires.next
    c.in_ok-input.input c.in_ok-input.ensures.input in
    subst (λ path. AreOthers path types) (sym (types_own c.args.sources.now c.args.earlier.now c.requires.earlier found.0.0 part found.0.1 ∙ ap path_in found.1)) others

pub returns-in_ok-kept-in-Some-clause-right : goal.returns-in_ok-kept-in-Some-clause-right
returns-in_ok-kept-in-Some-clause-right c =
    let part = c.in-Some.part.now in
    let found = one_found c.args.earlier.now c.in_ok-input.input c.in_ok-found.found c.in-Some.part c.in-Some.is c.in_ok-found.ensures in
    let kept = c.in_ok-kept-in-Some.kept in
    let same : kept ≡ part = c.in_ok-kept-in-Some.ensures.part in
    let made : IsPart part.input part.content = made_alone c.args.sources.now c.args.earlier.now c.requires.earlier found.0.0 part found.0.1 in
    next_right c.args.workspace.now c.args.plan.now c.requires.well c.requires.plan c.args.parts.now c.args.number c.args.seen.now.types c.args.seen.now.shown c.args.seen.now.faces c.requires.next
    c.in_ok-input.input kept c.in_ok-input.ensures.input (ap (λ (p : PartModel). p.input) same ∙ found.1) (subst (λ (p : PartModel). IsPart p.input p.content) (sym same) made)

pub returns-in_ok-kept-in-Some-clause-kept : goal.returns-in_ok-kept-in-Some-clause-kept
returns-in_ok-kept-in-Some-clause-kept c =
    let found = one_found c.args.earlier.now c.in_ok-input.input c.in_ok-found.found c.in-Some.part c.in-Some.is c.in_ok-found.ensures in
    (λ yes. subst (WasThere c.args.earlier.now) (sym c.in_ok-kept-in-Some.ensures.part) found.0, λ was. refl)

pub returns-in_ok-made-in-None-clause-right : goal.returns-in_ok-made-in-None-clause-right
returns-in_ok-made-in-None-clause-right c =
    next_right c.args.workspace.now c.args.plan.now c.requires.well c.requires.plan c.args.parts.now c.args.number c.args.seen.now.types c.args.seen.now.shown c.args.seen.now.faces c.requires.next
    c.in_ok-input.input c.in_ok-made-in-None.made c.in_ok-input.ensures.input c.in_ok-made-in-None.ensures.input c.in_ok-made-in-None.ensures.made

pub returns-in_ok-made-in-None-clause-kept : goal.returns-in_ok-made-in-None-clause-kept
returns-in_ok-made-in-None-clause-kept c =
    let made = c.in_ok-made-in-None in
    let none = none_found c.args.earlier.now c.in_ok-input.input c.in_ok-found.found c.in-None.is c.in_ok-found.ensures in
    (λ yes. absurd (let no : false ≡ true = yes in cc), λ was. absurd (none made.made was made.ensures.input))
