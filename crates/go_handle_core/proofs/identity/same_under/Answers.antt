use Rattle.std.proofs.Common.{true, false, ap, ◌∙◌, sym}
use Rattle.go_term_core.specs.Shapes.{shape}
use Rattle.go_table_core.specs.Underlying.{IdenticalUnder}
use Rattle.go_handle_core.specs.deciding.Identity.{identical_under_of}
use Rattle.go_handle_core.proofs.DecidingAlike.{identity_decided}
use Rattle.go_handle_core.proofs.Starred.{same_test}
use Rattle.go_handle_core.proofs.identity.same_under.Goals as goal

pub returns-then-tags : goal.returns-then-tags
returns-then-tags c =
    let a = shape c.args.a.now in
    let b = shape c.args.b.now in
    same_test c.identical_under.result (identical_under_of true a b) (IdenticalUnder true a b) c.identical_under.ensures (identity_decided.under true a b) ∙ ap (λ tags. identical_under_of tags a b) (sym c.if-tags.true)

pub returns-else-tags : goal.returns-else-tags
returns-else-tags c =
    let a = shape c.args.a.now in
    let b = shape c.args.b.now in
    same_test c.identical_under_but_for_tags.result (identical_under_of false a b) (IdenticalUnder false a b) c.identical_under_but_for_tags.ensures (identity_decided.under false a b) ∙ ap (λ tags. identical_under_of tags a b) (sym c.if-tags.false)
