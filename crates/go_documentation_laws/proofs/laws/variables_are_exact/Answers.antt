use Rattle.go_documentation_laws.proofs.Variables.{variables_exact}
use Rattle.go_documentation_laws.proofs.laws.variables_are_exact.Goals as goal

pub returns : goal.returns
returns c = variables_exact c.one_part.ensures c.check_is_local.ensures c.imports_bind_theirs.ensures c.added_imports_are_judged.ensures c.members_are_local.ensures c.workspaces_have_snapshots.ensures.snapshots c.parts_show_their_types.ensures
