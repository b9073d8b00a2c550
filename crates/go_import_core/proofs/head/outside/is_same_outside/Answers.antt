use Rattle.std.proofs.Common.{◌≡◌, false, sym, ap, ◌∙◌}
use Rattle.go_import_core.specs.head.Outside.{is_inside_any}
use Rattle.go_import_core.proofs.HeadReplacing.{one_package, untrue}
use Rattle.go_import_core.proofs.head.outside.is_same_outside.Goals as goal

pub returns-then-is_same-clause-same : goal.returns-then-is_same-clause-same
returns-then-is_same-clause-same c = λ said.
    let p = c.args.one.now in
    let q = c.args.other.now in
    let ms = c.args.modules.now in
    let paths : p.0 ≡ q.0 = sym c.path.ensures ∙ c.is_same.ensures.0 c.if-is_same.true ∙ c.path-2.ensures in
    let outside : is_inside_any ms q.0 ≡ false = ap (is_inside_any ms) (sym c.path-then-is_same.ensures) ∙ sym c.is_inside_any.ensures ∙ untrue c.is_inside_any.result said in
    one_package p q paths (c.requires paths outside)
