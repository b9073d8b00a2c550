use Rattle.std.proofs.Common.{◌≡◌, ◌+◌, Some, sym, ap, ◌∙◌, subst, arith}
use Rattle.go_term_core.specs.Shapes.{shape}
use Rattle.go_table_core.specs.Entries.{find_entry}
use Rattle.go_table_core.specs.Tables.{ArePackageTypes, IsPlaceOf}
use Rattle.go_table_core.specs.mirrors.Holding.{package_at}
use Rattle.go_table_core.proofs.Finding.{at_path, find_empty, find_nowhere, find_there, stands_at}
use Rattle.go_table_core.proofs.table.TypeTable.locate.Goals as goal

pub returns-then-self-eq0-clause-entry : goal.returns-then-self-eq0-clause-entry
returns-then-self-eq0-clause-entry c =
    sym (ap (λ es. find_entry es c.args.key.now) (sym c.self.view_is)
    ∙ find_empty c.self.inside.len c.self.inside.packages.names (shape c.self.inside.nothing) c.args.key.now c.self.invariant c.if-self-eq0.true)

pub returns-in_err-numbered-clause-entry : goal.returns-in_err-numbered-clause-entry
returns-in_err-numbered-clause-entry c =
    rw c.from_residual.ensures
    (sym (ap (λ es. find_entry es c.args.key.now) (sym c.self.view_is)
    ∙ find_nowhere c.self.inside.len c.self.inside.packages.names (shape c.self.inside.nothing) c.args.key.now c.self.invariant (ap (package_at c.self.inside.packages.names) (sym c.as_str.ensures.text) ∙ sym c.in_err-numbered.ensures)))

pub locate_in-requires : goal.locate_in-requires
locate_in-requires c =
    let there : package_at c.self.inside.packages.names c.args.key.now.path ≡ Some c.in_ok-numbered.numbered.now =
    ap (package_at c.self.inside.packages.names) (sym c.as_str.ensures.text) ∙ sym c.in_ok-numbered.ensures in
    let path = at_path 0 c.self.inside.packages.names c.args.key.now.path c.in_ok-numbered.numbered.now c.self.invariant.kept there in
    subst (λ p. ArePackageTypes p c.types.result.now) (sym path) (subst (λ es. ArePackageTypes c.in_ok-numbered.numbered.now.types.path es) (sym c.types.ensures.value) c.types.ensures.well)

pub returns-in_err-found-clause-entry : goal.returns-in_err-found-clause-entry
returns-in_err-found-clause-entry c =
    let there : package_at c.self.inside.packages.names c.args.key.now.path ≡ Some c.in_ok-numbered.numbered.now =
    ap (package_at c.self.inside.packages.names) (sym c.as_str.ensures.text) ∙ sym c.in_ok-numbered.ensures in
    rw c.from_residual-in_err-found.ensures
    (sym (ap (λ es. find_entry es c.args.key.now) (sym c.self.view_is)
    ∙ (find_there c.self.inside.len c.self.inside.packages.names (shape c.self.inside.nothing) c.args.key.now c.in_ok-numbered.numbered.now c.self.invariant there
    ∙ (ap (λ es. find_entry es c.args.key.now) (sym c.types.ensures.value) ∙ sym c.in_err-found.ensures.entry))))

pub overflow_add-result : goal.overflow_add-result
overflow_add-result c =
    let there : package_at c.self.inside.packages.names c.args.key.now.path ≡ Some c.in_ok-numbered.numbered.now =
    ap (package_at c.self.inside.packages.names) (sym c.as_str.ensures.text) ∙ sym c.in_ok-numbered.ensures in
    let place : IsPlaceOf c.in_ok-numbered.numbered.now.types.entries c.args.key.now c.in_ok-found.found.number = subst (λ es. IsPlaceOf es c.args.key.now c.in_ok-found.found.number) c.types.ensures.value c.in_ok-found.ensures.number in
    let below = (stands_at c.self.inside.len c.self.inside.packages.names (shape c.self.inside.nothing) c.args.key.now c.in_ok-numbered.numbered.now c.in_ok-found.found.number c.self.invariant there place).1 in
    omega (arith, below)

pub returns-clause-entry : goal.returns-clause-entry
returns-clause-entry c =
    let there : package_at c.self.inside.packages.names c.args.key.now.path ≡ Some c.in_ok-numbered.numbered.now =
    ap (package_at c.self.inside.packages.names) (sym c.as_str.ensures.text) ∙ sym c.in_ok-numbered.ensures in
    c.in_ok-found.ensures.entry
    ∙ (ap (λ es. find_entry es c.args.key.now) c.types.ensures.value
    ∙ (sym (find_there c.self.inside.len c.self.inside.packages.names (shape c.self.inside.nothing) c.args.key.now c.in_ok-numbered.numbered.now c.self.invariant there)
    ∙ ap (λ es. find_entry es c.args.key.now) c.self.view_is))

pub returns-clause-number : goal.returns-clause-number
returns-clause-number c =
    let there : package_at c.self.inside.packages.names c.args.key.now.path ≡ Some c.in_ok-numbered.numbered.now =
    ap (package_at c.self.inside.packages.names) (sym c.as_str.ensures.text) ∙ sym c.in_ok-numbered.ensures in
    let place : IsPlaceOf c.in_ok-numbered.numbered.now.types.entries c.args.key.now c.in_ok-found.found.number = subst (λ es. IsPlaceOf es c.args.key.now c.in_ok-found.found.number) c.types.ensures.value c.in_ok-found.ensures.number in
    subst (λ es. IsPlaceOf es c.args.key.now (c.in_ok-numbered.numbered.now.first + c.in_ok-found.found.number)) c.self.view_is
    (stands_at c.self.inside.len c.self.inside.packages.names (shape c.self.inside.nothing) c.args.key.now c.in_ok-numbered.numbered.now c.in_ok-found.found.number c.self.invariant there place).0
