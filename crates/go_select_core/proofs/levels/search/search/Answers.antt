use Rattle.std.proofs.Common.{false, subst, sym, inr}
use Rattle.go_term_core.specs.Shapes.{shape}
use Rattle.go_embed_core.specs.table_core.Entries.{find_entry}
use Rattle.go_embed_core.specs.OwnersShown.{IsNamedAt, found_shown}
use Rattle.go_select_core.specs.levels.Paths.{IsSelected}
use Rattle.go_select_core.specs.levels.Selectors.{ambiguous}
use Rattle.go_select_core.proofs.LevelsWalks.{selects_here, clashes_here}
use Rattle.go_select_core.proofs.levels.search.search.Goals as goal

pub search_deeper-requires-clause-none : goal.search_deeper-requires-clause-none
search_deeper-requires-clause-none c = λ h. c.in-Nothing.ensures h.0 h.1 (subst (λ o. IsNamedAt o c.args.name.now c.args.from.now h.0 h.1) (sym c.of-owner.ensures) h.2)

pub returns-in-One : goal.returns-in-One
returns-in-One c =
    let one = c.in-One.ensures in
    subst (λ p. IsSelected (find_entry c.args.table.now) (shape c.args.start.now) c.args.name.now c.args.from.now p false (found_shown c.in-One.member)) (sym c.new.ensures)
    (selects_here (find_entry c.args.table.now) (shape c.args.start.now) c.args.name.now c.args.from.now one.0 (found_shown c.in-One.member) (subst (λ o. IsNamedAt o c.args.name.now c.args.from.now one.0 (found_shown c.in-One.member)) c.of-owner.ensures one.1)
    (λ j g h. one.2 j g (subst (λ o. IsNamedAt o c.args.name.now c.args.from.now j g) (sym c.of-owner.ensures) h)))

pub returns-in-More : goal.returns-in-More
returns-in-More c =
    let more = c.in-More.ensures in
    inr (ambiguous (clashes_here (find_entry c.args.table.now) (shape c.args.start.now) c.args.name.now c.args.from.now more.0 more.3.0 more.1 more.3.1 (subst (λ o. IsNamedAt o c.args.name.now c.args.from.now more.0 more.1) c.of-owner.ensures more.2)
    (subst (λ o. IsNamedAt o c.args.name.now c.args.from.now more.3.0 more.3.1) c.of-owner.ensures more.3.2) more.3.3))
