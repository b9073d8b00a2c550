use Rattle.std.proofs.Common.{Bool, Vec, length, refl}
use Rattle.std.specs.Global.{Global}
use Rattle.std.proofs.lemmas.Result.{IfOk-weaker}
use Rattle.go_type_core.specs.mirrors.Edges.{Falls, MarksTo}
use Rattle.go_type_core.proofs.Joining.{shown, range_of, looped_of, falls_of}
use Rattle.go_type_core.proofs.looped.looped_types.Goals as goal
use Rattle.go_type_core.specs.Built.{AreLoopedEntries}

pub rank_and_order-requires : goal.rank_and_order-requires
rank_and_order-requires c = range_of c.args.keys.now c.args.entries.now c.requires.keys c.requires.rising c.in_ok-edges.edges.items c.deref.result.now (length c.args.entries.now) c.in_ok-edges.ensures c.deref.ensures.value refl

pub mark_loops-requires-clause-range : goal.mark_loops-requires-clause-range
mark_loops-requires-clause-range c = range_of c.args.keys.now c.args.entries.now c.requires.keys c.requires.rising c.in_ok-edges.edges.items c.deref-2.result.now (length c.args.entries.now) c.in_ok-edges.ensures c.deref-2.ensures.value refl

pub returns-clause-looped : goal.returns-clause-looped
returns-clause-looped c = IfOk-weaker c.mark_loops.result (λ (m : Vec Bool Global). MarksTo c.deref-2.result.now c.deref-2.result.now (length c.args.entries.now) m.items) (λ m. AreLoopedEntries (shown c.args.entries.now) m.items)
    (λ m h. looped_of c.args.keys.now c.args.entries.now c.requires.keys c.requires.rising c.in_ok-edges.edges.items c.deref-2.result.now (length c.args.entries.now) m.items c.in_ok-edges.ensures c.deref-2.ensures.value refl h) c.mark_loops.ensures

pub returns-clause-falls : goal.returns-clause-falls
returns-clause-falls c = IfOk-weaker c.mark_loops.result (λ (m : Vec Bool Global). MarksTo c.deref-2.result.now c.deref-2.result.now (length c.args.entries.now) m.items) (λ m. Falls (shown c.args.entries.now) m.items)
    (λ m h. falls_of c.args.keys.now c.args.entries.now c.requires.keys c.requires.rising c.in_ok-edges.edges.items c.deref-2.result.now c.deref.result.now (length c.args.entries.now) m.items c.in_ok-ranked.ranked.ranks c.in_ok-edges.ensures c.deref-2.ensures.value c.deref.ensures.value refl c.in_ok-ranked.ensures.ranks h) c.mark_loops.ensures
