use Rattle.go_headline_laws.proofs.Joining.{headline}
use Rattle.go_headline_laws.proofs.laws.headline.Goals as goal

pub returns : goal.returns
returns c =
    headline c.runs_are_sound.ensures c.trees_are_well.ensures.trees c.trees_are_well.ensures.sources c.own_paths.ensures c.published_trees.ensures c.submissions_are_own.ensures
    c.edits_change_one_file.ensures c.batches_replace.ensures c.last_trees.ensures c.one_worker.ensures c.outcomes_are_of_occurrences.ensures.answers c.added_imports_are_judged.ensures c.completions_are_exact.ensures.exact c.types_are_exact.ensures
