use Rattle.std.proofs.Common.{sym, refl, subst}
use Rattle.go_embed_core.specs.declared.owner.Source.{Source}
use Rattle.go_embed_core.specs.OwnersShown.{source_shown}
use Rattle.go_embed_core.specs.mirrors.Edges.{IsHiding}
use Rattle.go_embed_core.proofs.Keeping.{plain_hiding, missing_hiding}
use Rattle.go_embed_core.proofs.owner.Owner.hides.Goals as goal
use Rattle.go_embed_core.specs.declared.owner.Source.TheVariants as sources
use Rattle.std.specs.Prelude.{false}

pub returns-in-Entry : goal.returns-in-Entry
returns-in-Entry c = subst (λ (s : Source). IsHiding c.is_kept.result (source_shown s) c.args.name.now) (sym c.in-Entry.is) c.is_kept.ensures

pub returns-in-Missing : goal.returns-in-Missing
returns-in-Missing c = subst (λ (s : Source). IsHiding false (source_shown s) c.args.name.now) (sym c.in-Missing.is) (missing_hiding c.in-Missing.field-0.now c.args.name.now)

pub returns-in-Plain : goal.returns-in-Plain
returns-in-Plain c = subst (λ (s : Source). IsHiding false (source_shown s) c.args.name.now) (sym c.in-Plain.is) (plain_hiding (source_shown (sources.Plain c.in-Plain.field-0)) c.args.name.now refl refl)
