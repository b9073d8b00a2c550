-- A variable is over what its declaration gives it.
use Rattle.std.proofs.Common.{ap, subst}
use Rattle.go_body_core.specs.Notes.{TheValue}
use Rattle.go_body_core.specs.Rules.{value_at}
use Rattle.go_emit_core.specs.package_core.PackagePartInputs.{path_in}
use Rattle.go_workspace_laws.proofs.ConstantLists.{HasItem}
use Rattle.go_program_laws.specs.types.Functions.{known_types}
use Rattle.go_program_laws.specs.types.Locals.{LocalsAreTyped}
use Rattle.go_program_laws.proofs.TypesReady.{AreGiven, single, typed_local}
use Rattle.go_program_laws.proofs.TypesWords.{value_over}

pub locals_typed : AreGiven → LocalsAreTyped
locals_typed laws i c n t f g all h p piece x e named w s none =
    let there = (single laws i c n t f g all h p piece x e named).1 in
    let value = ap (λ vs. value_at vs 0) s.alone in
    typed_local laws i c n t f g all h x.span.start s.operand w (subst (λ (v : TheValue). HasItem f.answers.locals (record { offset = x.span.start; value = v })) value there) none
    (value_over (known_types i c) (path_in i) s.operand.value_type w s.over)
