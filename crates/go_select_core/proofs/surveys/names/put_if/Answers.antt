use Rattle.std.proofs.Common.{Some, None, if◌then◌else◌, sym, ap, ◌∙◌}
use Rattle.std.proofs.lemmas.Result.{on_ok_weaker}
use Rattle.go_select_core.specs.surveys.mirrors.Seen.{seen_of, first_seen}
use Rattle.go_select_core.proofs.SurveysNoting.{seen_alone, of_name, off_name}
use Rattle.go_select_core.proofs.surveys.names.put_if.Goals as goal

pub returns-then-is_of : goal.returns-then-is_of
returns-then-is_of c =
    let id = c.args.id in
    on_ok_weaker c.put.result
    (λ h n. h n ∙ ap (λ b. first_seen (seen_of c.args.known.now.entries n) (if b then Some c.args.new else None)) (of_name id.0.now id.1.now c.args.from.now n (sym c.is_of.ensures ∙ c.if-is_of.true)))
    c.put.ensures

pub returns : goal.returns
returns c n =
    let id = c.args.id in
    seen_alone (seen_of c.args.known.now.entries n)
    ∙ sym (ap (λ b. first_seen (seen_of c.args.known.now.entries n) (if b then Some c.args.new else None)) (off_name id.0.now id.1.now c.args.from.now n (sym c.is_of.ensures ∙ c.if-is_of.false)))
