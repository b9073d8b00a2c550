use Rattle.std.proofs.Common.{◌≡◌, ◌++◌, ◌∷◌, [], true, false, None, sym, ap, ◌∙◌}
use Rattle.go_block_core.specs.Tables.{has, in_block}
use Rattle.go_declared_core.specs.Packages.{as_seen}
use Rattle.go_declared_core.proofs.Seeing.{not_seen, seen_before, seen_last}
use Rattle.go_declared_core.proofs.seen.SeenNames.add.Goals as goal

pub returns-then-has : goal.returns-then-has
returns-then-has c =
    let named = c.args.named.now in
    let there : has c.args.self.now named.name ≡ true = ap (has c.args.self.now) (sym c.as_str-name.ensures) ∙ (sym c.has.ensures ∙ c.if-has.true) in
    seen_before c.args.self.now named.name (as_seen named.name named.decl) there

pub add-requires : goal.add-requires
add-requires c = ap (λ es. in_block es c.as_str-name.result.now) c.self.view_is ∙ not_seen c.args.self.now c.as_str-name.result.now (sym c.has.ensures ∙ c.if-has.false)

pub returns : goal.returns
returns c =
    let named = c.args.named.now in
    let absent : has c.args.self.now named.name ≡ false = ap (has c.args.self.now) (sym c.as_str-name.ensures) ∙ (sym c.has.ensures ∙ c.if-has.false) in
    c.in_ok-add.ensures.ok
    ∙ (ap (λ es. es ++ (c.as_str-name.result.now, c.as_seen.result) ∷ []) c.self.view_is
    ∙ (ap (λ n. c.args.self.now ++ (n, c.as_seen.result) ∷ []) c.as_str-name.ensures
    ∙ (ap (λ x. c.args.self.now ++ (named.name, x) ∷ []) c.as_seen.ensures ∙ seen_last c.args.self.now named.name (as_seen named.name named.decl) absent)))
