use Rattle.std.proofs.Common.{rules, of_calls}
use Rattle.std.specs.Ordering.{is_lt}
use Rattle.std.proofs.lemmas.Fn.{always_returns_same}
use Rattle.go_block_core.specs.graph_core.Workspaces.{by_bytes}
use Rattle.go_doc_core.specs.declared.symbol.symbols.Symbol.{Symbol}
use Rattle.go_doc_core.proofs.SymbolSorting.{name_weak}
use Rattle.go_doc_core.proofs.symbol.symbols.sort.Goals as goal

pub returns-clause-sorted : goal.returns-clause-sorted
returns-clause-sorted c = c.sort_unstable_by.ensures.sorted (λ (x y : Symbol). is_lt (by_bytes x.name.now y.name.now)) name_weak (always_returns_same _ _ _ (λ a r f k. search (rules, of_calls)))
