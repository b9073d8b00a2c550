use Rattle.go_parallel_core.proofs.Telling.{begun_untold}
use Rattle.go_parallel_core.proofs.compiling.compile_at_once.Goals as goal

pub compile_levels-requires : goal.compile_levels-requires
compile_levels-requires g c = begun_untold c.in_ok-sources.sources c.in_ok-batch.batch c.in_ok-batch.ensures.begun
