use Rattle.std.proofs.Common.{◌∙◌}
use Rattle.go_collections_core.proofs.SpellingIndexInserting.{in_names}
use Rattle.go_collections_core.proofs.spelling_index.spellings.Spellings.find.Goals as goal

pub returns : goal.returns
returns c = c.copied.ensures ∙ (c.get.ensures.value ∙ in_names c.args.name.now _)
