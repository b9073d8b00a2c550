use Rattle.std.proofs.Common.{ℕ, Option, Vec}
use Rattle.std.specs.Global.{Global}
use Rattle.std.proofs.lemmas.Result.{IfOk-weaker}
use Rattle.go_digraph_core.specs.chain.Chains.{AreEnds}
use Rattle.go_type_core.specs.mirrors.Chained.{AreRootEnds}
use Rattle.go_type_core.proofs.Joining.{shown, named_inside, roots_of}
use Rattle.go_type_core.proofs.roots.root_ends.Goals as goal

pub chain_ends-requires : goal.chain_ends-requires
chain_ends-requires c = named_inside c.args.keys.now c.args.entries.now c.requires.keys c.requires.rising c.args.looped.now c.in_ok-next.next.items c.deref.result.now c.in_ok-next.ensures c.deref.ensures.value

pub returns : goal.returns
returns c = IfOk-weaker c.chain_ends.result (λ (e : Vec (Option ℕ) Global). AreEnds c.deref.result.now e.items) (λ e. AreRootEnds (shown c.args.entries.now) c.args.looped.now e.items)
    (λ e h. roots_of c.args.keys.now c.args.entries.now c.requires.keys c.requires.rising c.args.looped.now c.in_ok-next.next.items c.deref.result.now e.items c.in_ok-next.ensures c.deref.ensures.value h) c.chain_ends.ensures
