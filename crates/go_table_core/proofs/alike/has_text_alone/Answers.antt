use Rattle.std.proofs.Common.{◌≡◌, sym, ◌∙◌}
use Rattle.go_term_core.specs.declared.term.Basic.TheVariants as basics
use Rattle.go_term_core.specs.Terms.{NoType, Predeclared, sign_results}
use Rattle.go_term_core.specs.Shapes.{shape, sign_of}
use Rattle.go_term_core.proofs.SameLists.{fails}
use Rattle.go_table_core.proofs.Underlying.{not_alone, alone}
use Rattle.go_table_core.proofs.alike.has_text_alone.Goals as goal

pub returns-then-result_count-ne1 : goal.returns-then-result_count-ne1
returns-then-result_count-ne1 c =
    let ts = sign_results (sign_of c.args.signature.now) in
    fails (λ h. not_alone ts (λ one. c.if-result_count-ne1.true (c.result_count.ensures ∙ one)) h)

pub returns-in-Some : goal.returns-in-Some
returns-in-Some c =
    let ts = sign_results (sign_of c.args.signature.now) in
    let same = alone ts (shape c.in-Some.term.now) (sym c.result_count.ensures ∙ c.if-result_count-ne1.false) c.in-Some.ensures in
    ((λ h. same.0 (c.is_text.ensures.0 h)), (λ e. c.is_text.ensures.1 (same.1 e)))

pub returns-in-None : goal.returns-in-None
returns-in-None c =
    let ts = sign_results (sign_of c.args.signature.now) in
    let same = alone ts NoType (sym c.result_count.ensures ∙ c.if-result_count-ne1.false) c.in-None.ensures in
    fails (λ h. let e : NoType ≡ Predeclared basics.Text = same.1 h in cc)
