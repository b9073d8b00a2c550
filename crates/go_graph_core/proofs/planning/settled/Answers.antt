use Rattle.std.proofs.Common.{◌≡◌, ◌∙◌, sym, subst, refl, inl, inr, true, false}
use Rattle.go_collections_core.specs.text_core.declared.rule.Rule.TheVariants.{I4}
use Rattle.go_graph_core.specs.declared.imports.ImportOutcome.{ImportOutcome}
use Rattle.go_graph_core.specs.declared.imports.ImportOutcome.TheVariants.{Package, Refused}
use Rattle.go_graph_core.specs.mirrors.Targets.{IsSettled}
use Rattle.go_graph_core.proofs.planning.settled.Goals as goal

pub returns-then-is_on_cycle : goal.returns-then-is_on_cycle
returns-then-is_on_cycle c = subst (λ (t : ImportOutcome). IsSettled c.args.ranked.now.ranks c.args.from t (Refused I4)) (sym c.in-Package.is) (λ edges ranking there. inl (refl, (c.is_on_cycle.ensures edges ranking there).0 c.if-is_on_cycle.true))

pub returns-else-is_on_cycle : goal.returns-else-is_on_cycle
returns-else-is_on_cycle c = subst (λ (t : ImportOutcome). IsSettled c.args.ranked.now.ranks c.args.from t (Package c.in-Package.to)) (sym c.in-Package.is) (λ edges ranking there. inr (refl, λ on. let yes : c.is_on_cycle.result ≡ true = (c.is_on_cycle.ensures edges ranking there).1 on in let no : true ≡ false = sym yes ∙ c.if-is_on_cycle.false in cc))
