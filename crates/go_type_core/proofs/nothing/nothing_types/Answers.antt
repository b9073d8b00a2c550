use Rattle.std.proofs.Common.{Bool, Vec, length}
use Rattle.std.specs.Global.{Global}
use Rattle.std.proofs.lemmas.Result.{IfOk-weaker}
use Rattle.go_table_core.specs.Entries.{find_entry}
use Rattle.go_type_core.specs.mirrors.Chained.{nothing_at, AreNothing}
use Rattle.go_type_core.specs.mirrors.Numbers.{IsTable}
use Rattle.go_type_core.proofs.Joining.{shown, bare_inside, nothing_of}
use Rattle.go_type_core.proofs.nothing.nothing_types.Goals as goal

pub chain_ends-requires : goal.chain_ends-requires
chain_ends-requires c = bare_inside c.args.keys.now c.args.entries.now c.requires.keys c.requires.rising c.args.looped.now c.in_ok-next.next.items c.deref.result.now c.in_ok-next.ensures c.deref.ensures.value

pub returns : goal.returns
returns c = IfOk-weaker c.mark_nothing.result (λ (m : Vec Bool Global). IsTable m.items (length c.args.entries.now) (nothing_at (find_entry c.args.imported.now) c.args.looped.now (shown c.args.entries.now) c.deref-2.result.now)) (λ m. AreNothing (shown c.args.entries.now) (find_entry c.args.imported.now) m.items)
    (λ m h. nothing_of c.args.keys.now c.args.entries.now c.requires.keys c.requires.rising (find_entry c.args.imported.now) c.args.looped.now c.in_ok-next.next.items c.deref.result.now c.in_ok-ends.ends.items c.deref-2.result.now m.items c.in_ok-next.ensures c.deref.ensures.value c.requires.looped c.in_ok-ends.ensures c.deref-2.ensures.value h) c.mark_nothing.ensures
