use Rattle.std.proofs.Common.{◌≡◌, ◌+◌, suc, length, ap, sym, ◌∙◌, arith}
use Rattle.go_value_core.proofs.Owning.{in_single, in_several, in_none}
use Rattle.go_value_core.proofs.specs.expr_in.Goals as goal

pub returns-then-more-eq0 : goal.returns-then-more-eq0
returns-then-more-eq0 c =
    let es = c.args.exprs.now in
    in_single c.args.count c.args.at es.first es.more.items (omega (arith, c.len-more.ensures, es.more.ok.0, c.if-more-eq0.true))

pub returns-then-more-count : goal.returns-then-more-count
returns-then-more-count c =
    let es = c.args.exprs.now in
    in_none c.args.count c.args.at es.first es.more.items (λ h. c.if-more-eq0.false (omega (arith, c.len-more.ensures, es.more.ok.0, h))) (λ h. c.if-more-count.true (omega (arith, c.len-more.ensures, es.more.ok.0, h)))

pub returns : goal.returns
returns c =
    let es = c.args.exprs.now in
    c.expr_at.ensures ∙ in_several c.args.count c.args.at es.first es.more.items (λ h. c.if-more-eq0.false (omega (arith, c.len-more.ensures, es.more.ok.0, h))) (omega (arith, c.len-more.ensures, es.more.ok.0, c.if-more-count.false))
