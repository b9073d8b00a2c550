use Rattle.std.proofs.Common.{[], ◌∷◌, sym, ap, subst, ◌∙◌}
use Rattle.go_summary_core.specs.Summaries.{SummaryModel}
use Rattle.go_package_core.specs.package_part.Parts.{PartModel}
use Rattle.go_batch_core.specs.seen.Sights.{Agrees, AreWithReached}
use Rattle.go_parallel_core.specs.Told.{summary_in}
use Rattle.go_parallel_core.proofs.Seeing.{told_agrees}
use Rattle.go_parallel_core.proofs.seers.told_of.Goals as goal

pub with_told-requires : goal.with_told-requires
with_told-requires c = record {
  agrees =
      subst (λ (t : SummaryModel). Agrees c.args.sight (t ∷ [])) (sym (c.summary.ensures ∙ ap summary_in c.get.ensures.value))
      (told_agrees c.args.batch.now c.args.sight (summary_in c.args.part.now) c.requires.once c.requires.seen c.requires.told);
}

pub returns : goal.returns
returns c = subst (λ (t : SummaryModel). AreWithReached c.args.sight (t ∷ []) c.in_ok-more.more) (c.summary.ensures ∙ ap summary_in c.get.ensures.value) c.in_ok-more.ensures
