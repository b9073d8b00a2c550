use Rattle.std.proofs.Common.{map}
use Rattle.std.specs.Borrow.{Bor}
use Rattle.std.specs.Prelude.{List, ℕ}
use Rattle.go_object_core.specs.Objects.{object_shown}
use Rattle.govisd_folders.proofs.RunsRunLemmas.{several}
use Rattle.govisd_folders.proofs.runs.packages.run_one.Goals as goal

pub returns-in_default : goal.returns-in_default
returns-in_default c =
    several c.refuse_several.result (λ (m : Bor (List ℕ)). m.now) c.args.folder.now c.args.workspace.now (map object_shown c.args.objects.now) c.args.before.now c.args.mains.now c.args.steps c.in_default.len_at_least c.refuse_several.ensures
