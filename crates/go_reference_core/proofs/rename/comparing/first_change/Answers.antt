use Rattle.std.proofs.Common.{sym, subst, ◌∙◌}
use Rattle.std.specs.Prelude.{MatchOption}
use Rattle.go_graph_core.specs.Workspaces.{IsWorkspace}
use Rattle.go_reference_core.specs.rename.Moving.{AllPaired, IsSamePath, moves_of}
use Rattle.go_reference_core.specs.rename.mirrors.Pairs.{Stay}
use Rattle.go_reference_core.proofs.RenamePaired.{rest_decides}
use Rattle.go_reference_core.proofs.rename.comparing.first_change.Goals as goal

pub first_in_content-requires : goal.first_in_content-requires
first_in_content-requires c = subst IsWorkspace (sym c.packages-own.ensures.packages) c.packages-own.ensures.well

pub returns-in-Some : goal.returns-in-Some
returns-in-Some c =
    let own = c.packages-own.ensures.packages ∙ c.sources.ensures.value in
    let its = c.packages-its.ensures.packages ∙ c.sources-2.ensures.value in
    λ all. c.in-Some.ensures (subst (λ ps. AllPaired IsSamePath ps c.packages-its.result.now) (sym own) (subst (AllPaired IsSamePath c.args.old.now.sources) (sym its) all.paths))

pub returns-in-None : goal.returns-in-None
returns-in-None c =
    let m = moves_of c.args.names.now in
    let s = c.args.old.now in
    let t = c.args.new.now in
    let own = c.packages-own.ensures.packages ∙ c.sources.ensures.value in
    let its = c.packages-its.ensures.packages ∙ c.sources-2.ensures.value in
    let paths = subst (AllPaired IsSamePath s.sources) its (subst (λ ps. AllPaired IsSamePath ps c.packages-its.result.now) own c.in-None.ensures) in
    rest_decides c.first_in_content.result m s t paths (subst (λ ps. MatchOption c.first_in_content.result (Stay m ps s t) (λ at. ¬ Stay m ps s t)) own c.first_in_content.ensures)
