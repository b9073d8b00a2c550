use Rattle.std.proofs.Common.{map, ap, ◌∙◌}
use Rattle.go_typexpr_core.specs.entry.Outlines.{outline_shown}
use Rattle.go_complete_core.specs.package_core.PrepareMade.{all_outlines}
use Rattle.go_judge_core.proofs.known.decl_places.Goals as goal

pub written_faces-requires : goal.written_faces-requires
written_faces-requires c = all_outlines (map outline_shown c.deref.result.now) _ (ap (λ os. map outline_shown os) c.deref.ensures.value ∙ c.in_ok-outlines.ensures.outlines)
