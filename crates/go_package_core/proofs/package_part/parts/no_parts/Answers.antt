use Rattle.std.proofs.Common.{◌≡◌, [], ◌∷◌, ◌++◌, None, replicate, ap, ◌∙◌, arith}
use Rattle.std.proofs.lemmas.List.{replicate_more}
use Rattle.go_package_core.proofs.package_part.parts.no_parts.Goals as goal

pub loop-package-init : goal.loop-package-init
loop-package-init c = c.in_ok-parts.ensures.items

pub loop-package-preserved : goal.loop-package-preserved
loop-package-preserved c = c.in_ok-add.ensures ∙ (ap (λ l. l ++ None ∷ []) c.loop-package.invariant ∙ replicate_more c.loop-package._package None)

pub returns : goal.returns
returns c =
    let e : c.loop-package._package ≡ c.args.count = omega (arith, c.loop-package-test.false, c.loop-package.auto._package-end) in
    c.loop-package.invariant ∙ ap (λ n. replicate n None) e
