use Rattle.std.proofs.Common.{rules, of_calls}
use Rattle.std.specs.Prelude.{nat_lt}
use Rattle.std.proofs.lemmas.Fn.{always_returns_same}
use Rattle.go_doc_core.proofs.SymbolRising.{part_rising, place_found}
use Rattle.go_doc_core.proofs.symbol.docs.place_of.Goals as goal

pub returns-clause-bound : goal.returns-clause-bound
returns-clause-bound c =
    (place_found c.args.decls.now c.args.number c.partition_point.result c.requires.rising c.requires.some
    (c.partition_point.ensures.partitioned (λ x. nat_lt x.number c.args.number) (always_returns_same _ _ _ (λ a r f k. search (rules, of_calls))) (part_rising c.args.decls.now c.args.number c.requires.rising))).0

pub returns-clause-there : goal.returns-clause-there
returns-clause-there c =
    (place_found c.args.decls.now c.args.number c.partition_point.result c.requires.rising c.requires.some
    (c.partition_point.ensures.partitioned (λ x. nat_lt x.number c.args.number) (always_returns_same _ _ _ (λ a r f k. search (rules, of_calls))) (part_rising c.args.decls.now c.args.number c.requires.rising))).1
