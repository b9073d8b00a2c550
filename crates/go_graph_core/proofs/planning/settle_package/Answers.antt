use Rattle.std.proofs.Common.{◌≡◌, ◌∙◌, sym, ap, subst, arith, length, List, Vec, get_or, rules}
use Rattle.std.specs.List.{AllZip}
use Rattle.std.proofs.lemmas.List.{with_items_is}
use Rattle.std.specs.Vec.{with_items}
use Rattle.std.specs.declared.alloc.Global.{Global}
use Rattle.go_graph_core.specs.declared.imports.ImportOutcome.{ImportOutcome}
use Rattle.go_graph_core.specs.mirrors.Targets.{IsSettled}
use Rattle.go_graph_core.proofs.Zips.{all_so_far, one_more_so_far}
use Rattle.go_graph_core.proofs.planning.settle_package.Goals as goal

pub loop-targets-preserved : goal.loop-targets-preserved
loop-targets-preserved c =
    let i = c.loop-targets.targets-index in
    let R = IsSettled c.args.ranked.now.ranks c.args.from in
    let d = c.targets-item.result in
    let same = c.deref_mut.ensures.value ∙ ap (λ (v : Vec ImportOutcome Global). v.items) (c.loop-targets.invariant.2 i d (omega arith)) in
    let long : length c.settle_file.new.targets ≡ d.len = search rules in
    let given : (with_items (get_or c.loop-targets.files i d) c.settle_file.new.targets).items ≡ c.settle_file.new.targets = with_items_is (get_or c.loop-targets.files i d) c.settle_file.new.targets (long ∙ ap (λ (v : Vec ImportOutcome Global). v.len) c.targets-item.is) in
    one_more_so_far (λ (ts os : Vec ImportOutcome Global). AllZip R ts.items os.items) c.args.files.now c.loop-targets.files i d (with_items (get_or c.loop-targets.files i d) c.settle_file.new.targets) c.loop-targets-test.true c.loop-targets.invariant
    (subst (λ (l : List ImportOutcome). AllZip R (get_or c.args.files.now i d).items l) (sym given) (subst (λ (l : List ImportOutcome). AllZip R l c.settle_file.new.targets) same c.settle_file.ensures))

pub returns : goal.returns
returns c = all_so_far (λ (ts os : Vec ImportOutcome Global). AllZip (IsSettled c.args.ranked.now.ranks c.args.from) ts.items os.items) c.args.files.now c.loop-targets.files c.loop-targets.targets-index c.loop-targets-test.false c.loop-targets.invariant
