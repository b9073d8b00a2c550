use Rattle.std.proofs.Common.{◌≡◌, ◌++◌, length, map, take, ap, ◌∙◌, arith}
use Rattle.std.proofs.lemmas.List.{take_all}
use Rattle.go_block_core.specs.Tables.{block_of}
use Rattle.go_block_core.specs.Holding.{file_blocks, imports_in}
use Rattle.go_block_core.specs.Faults.{block_file_faults}
use Rattle.go_block_core.proofs.BlockLemmas.{faults_step, same_count, tables_step, file_faults_step}
use Rattle.go_block_core.proofs.Pieces.{no_pieces}
use Rattle.go_block_core.proofs.package_block.file_blocks.Goals as goal

pub loop-imports-init : goal.loop-imports-init
loop-imports-init c = (ap (map block_of) c.new-tables.ensures.items, no_pieces c.args.faults.now.items)

pub loop-imports-preserved : goal.loop-imports-preserved
loop-imports-preserved c =
    let files = c.deref-imports-items.result.now in
    let i = c.loop-imports.imports-index in
    let d = c.imports-item.result in
    let before = c.loop-imports.invariant in
    let same = same_count c.loop-imports.tables.items (map imports_in (take i files)) before.0 in
    let count : c.len.result ≡ length (map imports_in (take i files)) = omega (arith, c.len.ensures, same) in (
      tables_step c.loop-imports.tables.items c.add.new.all.items c.in_ok-table.table files i d c.loop-imports-test.true c.imports-item.is before.0 c.in_ok-table.ensures.table c.in_ok-add.ensures,
      faults_step c.args.faults.now.items _ _ _ _ _ before.1 c.in_ok-table.ensures.faults (file_faults_step (block_of c.args.names.now) files i d c.len.result c.loop-imports-test.true c.imports-item.is count),
    )

pub returns : goal.returns
returns c =
    let all = ap (map imports_in) (take_all c.loop-imports.imports-index c.deref-imports-items.result.now c.loop-imports-test.false ∙ c.deref-imports-items.ensures.value) in
    record {
      tables = c.loop-imports.invariant.0 ∙ ap file_blocks all;
      faults = c.loop-imports.invariant.1 ∙ ap (λ files. c.args.faults.now.items ++ block_file_faults (block_of c.args.names.now) 0 files) all;
    }
