use Rattle.std.proofs.Common.{ℕ, All, List, get_or, subst}
use Rattle.std.proofs.lemmas.List.{take_all}
use Rattle.std.proofs.lemmas.List.Elements.{All-more}
use Rattle.go_digraph_core.specs.needs.mirrors.Filling.{IsThere}
use Rattle.go_digraph_core.proofs.NeedsReading.{known_of}
use Rattle.go_digraph_core.proofs.needs.table.first_missing.Goals as goal

pub loop-needed-preserved : goal.loop-needed-preserved
loop-needed-preserved g c =
    let i : ℕ = c.loop-needed.needed-index in
    let b : ℕ = get_or c.args.row.now i 0 in
    All-more (IsThere c.args.ranks.now c.args.table.now c.args.node) c.args.row.now i 0 c.loop-needed-test.true c.loop-needed.invariant (c.if-ranks-needed.false, known_of c.args.table.now b c.index-table-needed.result (c.requires.row i 0 c.loop-needed-test.true) c.index-table-needed.is c.if-is_none.ensures)

pub returns : goal.returns
returns g c = (let P : List ℕ → Type 0 = λ l. All (IsThere c.args.ranks.now c.args.table.now c.args.node) l in subst P (take_all c.loop-needed.needed-index c.args.row.now c.loop-needed-test.false) c.loop-needed.invariant)
