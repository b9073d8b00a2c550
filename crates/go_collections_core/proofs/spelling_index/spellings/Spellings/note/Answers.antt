use Rattle.std.proofs.Common.{ap, ◌∙◌}
use Rattle.std.specs.Prelude.{Some, false}
use Rattle.go_collections_core.specs.spelling_index.Spelled.{spelling, joined}
use Rattle.go_collections_core.proofs.SpellingIndexInserting.{name_noted}
use Rattle.go_collections_core.proofs.spelling_index.spellings.Spellings.note.Goals as goal

pub returns : goal.returns
returns c = name_noted c.args.self.now.places c.insert.new.self c.in_ok-key.key c.args.name.now c.args.at c.noted-spelling.result c.in_ok-key.ensures.ok (c.noted-spelling.ensures ∙ ap (λ o. joined o (Some (spelling c.args.at false))) c.find.ensures) c.in_ok-insert.ensures.updates
