use Rattle.std.proofs.Common.{List, map, subst, sym}
use Rattle.std.specs.Prelude.{string_bytes}
use Rattle.std.specs.Global.{Global}
use Rattle.std.specs.List.Sorted.{IsStrictlySortedBy}
use Rattle.std.specs.declared.string.String.{String}
use Rattle.go_graph_core.specs.Workspaces.{by_bytes}
use Rattle.go_candidate_core.proofs.FittingFits.{each_behind, none_sorted}
use Rattle.go_candidate_core.proofs.fitting.behind.names_behind.Goals as goal

pub returns-in-None-clause-order : goal.returns-in-None-clause-order
returns-in-None-clause-order c = subst (λ (l : List (String Global)). IsStrictlySortedBy by_bytes (map string_bytes l)) (sym c.new.ensures.items) none_sorted

pub returns-in-Ok-clause-each : goal.returns-in-Ok-clause-each
returns-in-Ok-clause-each c = each_behind c.args.reached.now c.args.path.now c.args.usage c.in-Some.summary.now (map string_bytes c.in-Ok.found.items) c.requires c.in-Some.ensures c.in-Ok.ensures.each
