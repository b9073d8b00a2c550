use Rattle.std.proofs.Common.{◌≡◌, true, false, cond, None, map, refl, sym, ap, ◌∙◌}
use Rattle.go_block_core.specs.Tables.{block_of, has}
use Rattle.go_block_core.specs.Blocks.{blocks_model, file_has, file_binding}
use Rattle.go_block_core.proofs.TableLemmas.{hidden_binding, shown_binding}
use Rattle.go_block_core.proofs.block.Blocks.file.Goals as goal

pub returns-then-has : goal.returns-then-has
returns-then-has c =
    let b = c.self.inside in
    let has_it : has (block_of b.package) c.args.name.now ≡ true = sym c.has.ensures ∙ c.if-has.true in
    hidden_binding (blocks_model (block_of b.package) (map block_of b.files.items) b.faults.items) c.args.file c.args.name.now has_it
    ∙ ap (λ m. file_binding m c.args.file c.args.name.now) c.self.view_is

pub returns : goal.returns
returns c =
    let b = c.self.inside in
    let absent : has (block_of b.package) c.args.name.now ≡ false = sym c.has.ensures ∙ c.if-has.false in
    c.in_file.ensures
    ∙ (ap (λ m. file_has m c.args.file c.args.name.now) (sym c.self.view_is)
    ∙ (shown_binding (blocks_model (block_of b.package) (map block_of b.files.items) b.faults.items) c.args.file c.args.name.now absent
    ∙ ap (λ m. file_binding m c.args.file c.args.name.now) c.self.view_is))
