use Rattle.std.specs.Prelude.{option_map}
use Rattle.govisd_disk.specs.Finds.{read_shown}
use Rattle.govisd_folders.proofs.RunsRunLemmas.{of_read}
use Rattle.govisd_folders.proofs.runs.running.run_read.Goals as goal

pub returns : goal.returns
returns g c =
    of_read c.answer_on.result c.args.order.now.folder.now (option_map (λ m. m.now) c.args.order.now.main_path) c.args.order.now.steps (option_map (λ m. m.now) c.args.order.now.module_path) (read_shown c.in_ok-read.read) c.in_ok-read.ensures c.answer_on.ensures
