use Rattle.std.proofs.Common.{List, subst}
use Rattle.std.specs.Prelude.{MatchOption}
use Rattle.go_query_core.specs.report_core.UsageUsed.{FileUse}
use Rattle.go_reference_core.specs.rename.Moving.{AllPaired, IsMovedUse, moves_of}
use Rattle.go_reference_core.proofs.rename.comparing.first_in_file.Goals as goal

pub returns : goal.returns
returns c =
    let m = moves_of c.args.names.now in
    let ps = c.args.packages.now in
    let r = c.first_use.result in
    let R = λ (us : List FileUse). λ (vs : List FileUse). AllPaired (λ _. IsMovedUse m ps c.args.«package» c.args.file) us vs in
    subst (λ (us : List FileUse). MatchOption r (R us c.args.new.now.answers.answers.items) (λ at. ¬ R us c.args.new.now.answers.answers.items)) c.as_slice-had.ensures.value
    (subst (λ (vs : List FileUse). MatchOption r (R c.as_slice-had.result.now vs) (λ at. ¬ R c.as_slice-had.result.now vs)) c.as_slice-has.ensures.value c.first_use.ensures)
