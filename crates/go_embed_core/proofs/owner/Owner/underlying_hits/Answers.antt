use Rattle.std.proofs.Common.{ap, sym, ◌∙◌}
use Rattle.go_embed_core.specs.declared.owner.Source.{Source}
use Rattle.go_embed_core.specs.Owners.{term_found, nobody}
use Rattle.go_embed_core.specs.OwnersShown.{source_shown}
use Rattle.go_embed_core.specs.mirrors.Tallies.{tallies, tally_of}
use Rattle.go_embed_core.proofs.owner.Owner.underlying_hits.Goals as goal

pub returns-in-Entry : goal.returns-in-Entry
returns-in-Entry c = c.under_hits.ensures ∙ ap (λ (s : Source). tallies (tally_of c.args.name.now c.args.from.now) (term_found nobody (source_shown s).underlying)) (sym c.in-Entry.is)

pub returns-in-Missing : goal.returns-in-Missing
returns-in-Missing c = ap (λ (s : Source). tallies (tally_of c.args.name.now c.args.from.now) (term_found nobody (source_shown s).underlying)) (sym c.in-Missing.is)

pub returns-in-Plain : goal.returns-in-Plain
returns-in-Plain c = c.term_hits.ensures ∙ ap (λ (s : Source). tallies (tally_of c.args.name.now c.args.from.now) (term_found nobody (source_shown s).underlying)) (sym c.in-Plain.is)
