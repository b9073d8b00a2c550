use Rattle.std.proofs.Common.{sym, ap, subst, ◌∙◌}
use Rattle.go_summary_core.specs.Summaries.{path_of}
use Rattle.go_package_core.specs.package_part.Inputs.{InputModel, path_in}
use Rattle.go_package_core.specs.package_part.Parts.{PartModel}
use Rattle.go_batch_core.specs.seen.Local.{AreAmong, IsLocal, NoneIsOf}
use Rattle.go_parallel_core.specs.Told.{summary_in}
use Rattle.go_parallel_core.proofs.worker.compile_next.Goals as goal

pub compile_seen-requires-clause-local : goal.compile_seen-requires-clause-local
compile_seen-requires-clause-local c = subst IsLocal (sym c.get.ensures.value) c.get.ensures.local

pub compile_seen-requires-clause-none : goal.compile_seen-requires-clause-none
compile_seen-requires-clause-none c = subst (λ (i : InputModel). NoneIsOf c.args.sight (path_in i)) (sym c.get.ensures.value) c.requires.none

pub compile_seen-requires-clause-all : goal.compile_seen-requires-clause-all
compile_seen-requires-clause-all c = subst (λ (i : InputModel). AreAmong i.reached c.args.sight) (sym c.get.ensures.value) c.requires.all

pub returns-clause-path : goal.returns-clause-path
returns-clause-path c = ap (λ (p : PartModel). path_of (summary_in p)) c.new.ensures ∙ (ap path_of c.in_ok-compiled.ensures.made.summary ∙ ap path_in c.get.ensures.value)
