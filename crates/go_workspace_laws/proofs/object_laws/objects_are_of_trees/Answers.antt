use Rattle.std.proofs.Common.{subst}
use Rattle.std.specs.List.{AllZip}
use Rattle.go_snap_core.specs.whole_workspace.Entries.{IsPartEntry}
use Rattle.go_workspace_laws.proofs.Telling.{object_is, told_by_trees}
use Rattle.go_workspace_laws.proofs.object_laws.objects_are_of_trees.Goals as goal

pub returns : goal.returns
returns c = record {
  told = λ ps parts faults ws well snapshot are.
      told_by_trees ws parts (subst (λ v. AllZip IsPartEntry v parts) (c.one_whole.ensures ps snapshot.whole ws well snapshot.is_whole are) snapshot.parts_are);
  objects = λ ps parts faults ws well snapshot are n p w mine whole.
      object_is ws parts (subst (λ v. AllZip IsPartEntry v parts) (c.one_whole.ensures ps snapshot.whole ws well snapshot.is_whole are) snapshot.parts_are) n p w mine whole;
}
