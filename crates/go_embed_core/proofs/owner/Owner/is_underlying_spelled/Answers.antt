use Rattle.std.proofs.Common.{ap, sym, ◌∙◌}
use Rattle.go_embed_core.specs.declared.owner.Source.{Source}
use Rattle.go_embed_core.specs.Owners.{term_found, is_spelled_in, nobody}
use Rattle.go_embed_core.specs.OwnersShown.{source_shown}
use Rattle.go_embed_core.proofs.owner.Owner.is_underlying_spelled.Goals as goal

pub returns-in-Entry : goal.returns-in-Entry
returns-in-Entry c = c.is_under_spelled.ensures ∙ ap (λ (s : Source). is_spelled_in (term_found nobody (source_shown s).underlying) c.args.name.now) (sym c.in-Entry.is)

pub returns-in-Missing : goal.returns-in-Missing
returns-in-Missing c = ap (λ (s : Source). is_spelled_in (term_found nobody (source_shown s).underlying) c.args.name.now) (sym c.in-Missing.is)

pub returns-in-Plain : goal.returns-in-Plain
returns-in-Plain c = c.is_spelled.ensures ∙ ap (λ (s : Source). is_spelled_in (term_found nobody (source_shown s).underlying) c.args.name.now) (sym c.in-Plain.is)
