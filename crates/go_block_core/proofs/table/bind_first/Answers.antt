use Rattle.std.proofs.Common.{◌≡◌, true, false, sym, ◌∙◌}
use Rattle.go_block_core.specs.Tables.{block_of, has}
use Rattle.go_block_core.proofs.TableLemmas.{bound_before, bound_last, not_there}
use Rattle.go_block_core.proofs.table.bind_first.Goals as goal

-- the table has the name, and stays as it is
pub returns-then-has : goal.returns-then-has
returns-then-has g c =
    let there : has (block_of c.args.table.now) c.args.name.now ≡ true = sym c.has.ensures ∙ c.if-has.true in
    record { had = sym there; table = bound_before (block_of c.args.table.now) c.args.name.now c.args.value there }

-- the name is new, so it goes last
pub add-requires : goal.add-requires
add-requires g c = not_there (block_of c.args.table.now) c.args.name.now (sym c.has.ensures ∙ c.if-has.false)

pub returns-clause-had : goal.returns-clause-had
returns-clause-had g c = sym (sym c.has.ensures ∙ c.if-has.false)

pub returns-clause-table : goal.returns-clause-table
returns-clause-table g c =
    bound_last (block_of c.args.table.now) (block_of c.add.new.self) c.args.name.now c.args.value (sym c.has.ensures ∙ c.if-has.false) c.in_ok-add.ensures.ok
