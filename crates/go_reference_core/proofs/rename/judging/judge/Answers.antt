use Rattle.std.proofs.Common.{sym, subst, ◌∙◌}
use Rattle.go_reference_core.specs.rename.Moving.{moves_of}
use Rattle.go_reference_core.specs.rename.Renaming.{AreRenamed}
use Rattle.go_reference_core.proofs.RenameMoved.{off}
use Rattle.go_reference_core.proofs.RenameRetold.{kept_where}
use Rattle.go_reference_core.proofs.rename.judging.judge.Goals as goal

pub returns-then-names-new : goal.returns-then-names-new
returns-then-names-new c = λ keeps. c.if-names-new.true (sym keeps.len)

pub returns-then-not-are : goal.returns-then-not-are
returns-then-not-are c =
    let m = moves_of c.args.names.now in
    let own = c.packages-own.ensures.packages ∙ c.sources.ensures.value in
    let its = c.packages-its.ensures.packages ∙ c.sources-2.ensures.value in
    λ keeps. off _ _ c.in_ok-are.ensures c.if-not-are.true (subst (λ ps. AreRenamed m c.args.new.now ps c.packages-its.result.now) (sym own) (subst (AreRenamed m c.args.new.now c.args.old.now.sources) (sym its) keeps.texts))

pub returns : goal.returns
returns c =
    let m = moves_of c.args.names.now in
    let own = c.packages-own.ensures.packages ∙ c.sources.ensures.value in
    let its = c.packages-its.ensures.packages ∙ c.sources-2.ensures.value in
    let renamed = c.in_ok-are.ensures.0 c.if-not-are.false in
    let texts = subst (AreRenamed m c.args.new.now c.args.old.now.sources) its (subst (λ ps. AreRenamed m c.args.new.now ps c.packages-its.result.now) own renamed) in
    kept_where c.first_change.result m c.args.new.now c.args.old.now c.args.renamed.now (sym c.if-names-new.false) texts c.first_change.ensures
