use Rattle.test_probe.proofs.ShowFileNames.{distinct_names}
use Rattle.test_probe.proofs.show.archive.put.Goals as goal

pub put-requires : goal.put-requires
put-requires c = distinct_names c.in-Ok.files.items c.in-Ok.ensures
