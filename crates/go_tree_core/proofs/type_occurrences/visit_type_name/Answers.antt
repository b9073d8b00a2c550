use Rattle.std.proofs.Common.{ap}
use Rattle.go_tree_core.specs.Occurrences.{type_name_occs}
use Rattle.go_tree_core.proofs.Visits.{sees_both}
use Rattle.go_tree_core.proofs.type_occurrences.visit_type_name.Goals as goal

pub returns-in-Qualified : goal.returns-in-Qualified
returns-in-Qualified g c = sees_both g.V.Visitor.Sees g.met.V.Visitor.sees_more _ _ _ _ _ _ (ap type_name_occs c.in-Qualified.is) c.visit_ident-in-Qualified.ensures c.visit_ident-in-Qualified-2.ensures
