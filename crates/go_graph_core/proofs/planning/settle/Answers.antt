use Rattle.std.proofs.Common.{◌≡◌, ◌∙◌, sym, ap, subst, arith, length, List, ℕ, Vec, get_or, rules}
use Rattle.std.proofs.lemmas.List.{with_items_is}
use Rattle.std.specs.Vec.{with_items}
use Rattle.std.specs.declared.alloc.Global.{Global}
use Rattle.go_graph_core.specs.declared.imports.ImportOutcome.{ImportOutcome}
use Rattle.go_graph_core.specs.mirrors.Targets.{AreSettled}
use Rattle.go_graph_core.proofs.Zips.{all_numbered_so_far, one_more_numbered}
use Rattle.go_graph_core.proofs.planning.settle.Goals as goal

pub loop-from-preserved : goal.loop-from-preserved
loop-from-preserved c =
    let i = c.loop-from.from in
    let ranks = c.args.ranked.now.ranks in
    let d = c.index-packages-from.result in
    let same = c.deref_mut.ensures.value ∙ ap (λ (v : Vec (Vec ImportOutcome Global) Global). v.items) (c.loop-from.invariant.2 i d (omega arith)) in
    let long : length c.settle_package.new.files ≡ d.len = search rules in
    let given : (with_items (get_or c.loop-from.packages i d) c.settle_package.new.files).items ≡ c.settle_package.new.files = with_items_is (get_or c.loop-from.packages i d) c.settle_package.new.files (long ∙ ap (λ (v : Vec (Vec ImportOutcome Global) Global). v.len) c.index-packages-from.is) in
    one_more_numbered (λ (k : ℕ) (ts os : Vec (Vec ImportOutcome Global) Global). AreSettled ranks k ts.items os.items) c.args.packages.now c.loop-from.packages i d (with_items (get_or c.loop-from.packages i d) c.settle_package.new.files) c.loop-from-test.true c.loop-from.invariant
    (subst (λ (l : List (Vec ImportOutcome Global)). AreSettled ranks i (get_or c.args.packages.now i d).items l) (sym given) (subst (λ (l : List (Vec ImportOutcome Global)). AreSettled ranks i l c.settle_package.new.files) same c.settle_package.ensures))

pub returns : goal.returns
returns c = all_numbered_so_far (λ (k : ℕ) (ts os : Vec (Vec ImportOutcome Global) Global). AreSettled c.args.ranked.now.ranks k ts.items os.items) c.args.packages.now c.loop-from.packages c.loop-from.from c.loop-from-test.false c.loop-from.invariant
