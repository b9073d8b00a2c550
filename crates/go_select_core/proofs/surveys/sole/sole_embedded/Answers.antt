use Rattle.std.proofs.Common.{sym, ap, ◌∙◌, subst}
use Rattle.go_term_core.specs.Shapes.{shape}
use Rattle.go_embed_core.specs.table_core.Entries.{find_entry}
use Rattle.go_embed_core.specs.Owners.{has_spelled}
use Rattle.go_embed_core.specs.OwnersShown.{IsNamedAt}
use Rattle.go_select_core.proofs.surveys.sole.sole_embedded.Goals as goal

pub returns-in_ok-sole-in-Nothing : goal.returns-in_ok-sole-in-Nothing
returns-in_ok-sole-in-Nothing c =
    record {
      sole = c.in_ok-sole-in-Nothing.ensures (find_entry c.args.table.now) (shape c.args.term.now) c.of-owner.ensures;
      unnamed = λ m f has. c.in-Nothing.ensures m f (subst (λ o. IsNamedAt o c.args.name.now c.args.from.now m f) (sym c.of-owner.ensures) has);
      unspelled = sym (ap (λ o. has_spelled o c.args.name.now) c.of-owner.ensures) ∙ (sym c.has_spelled.ensures ∙ c.if-has_spelled.false);
    }
