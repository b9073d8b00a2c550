use Rattle.std.proofs.Common.{Some, sym, ap, ◌∙◌}
use Rattle.std.proofs.lemmas.Bool.{true≢false}
use Rattle.std.proofs.lemmas.Option.{slice_get-get_or}
use Rattle.std.proofs.lemmas.Result.{IfOk-weaker}
use Rattle.go_import_core.proofs.ListJudged.{importable_is}
use Rattle.go_import_core.proofs.list.listing.is_importable.Goals as goal

pub returns : goal.returns
returns c =
    let ps = c.args.packages.now in
    let q = c.index-packages-own.result in
    let p = c.index-packages-number.result in
    let at_own = slice_get-get_or ps c.args.own q c.requires.own ∙ ap Some (sym c.index-packages-own.is) in
    let at = slice_get-get_or ps c.args.number p c.requires.number ∙ ap Some (sym c.index-packages-number.is) in
    IfOk-weaker c.may_use.result _ _
    (λ b h. importable_is ps c.requires.well c.args.own c.args.number q p at_own at c.path.result.now b c.path.ensures (λ lies. absurd (true≢false (sym (c.requires.mark.1 lies) ∙ c.if-lies_on_cycle.false))) h)
    c.may_use.ensures
