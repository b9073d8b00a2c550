use Rattle.std.proofs.Common.{ap, ◌∙◌, sym}
use Rattle.go_term_core.specs.Shapes.{shape}
use Rattle.go_term_core.specs.Identity.{Identical, IdenticalButForTags}
use Rattle.go_handle_core.specs.deciding.Identity.{identical_by, identical_of, identical_but_for_tags_of}
use Rattle.go_handle_core.proofs.DecidingAlike.{identity_decided}
use Rattle.go_handle_core.proofs.Starred.{same_test}
use Rattle.go_handle_core.proofs.identity.same_terms.Goals as goal

pub returns-then-tags : goal.returns-then-tags
returns-then-tags c =
    let a = shape c.args.a.now in
    let b = shape c.args.b.now in
    same_test c.identical.result (identical_of a b) (Identical a b) c.identical.ensures (identity_decided.identical a b) ∙ ap (λ tags. identical_by tags a b) (sym c.if-tags.true)

pub returns-else-tags : goal.returns-else-tags
returns-else-tags c =
    let a = shape c.args.a.now in
    let b = shape c.args.b.now in
    same_test c.identical_but_for_tags.result (identical_but_for_tags_of a b) (IdenticalButForTags a b) c.identical_but_for_tags.ensures (identity_decided.but_for_tags a b) ∙ ap (λ tags. identical_by tags a b) (sym c.if-tags.false)
