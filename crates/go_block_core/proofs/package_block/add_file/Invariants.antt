use Rattle.std.proofs.Common.{◌≡◌, ◌++◌, take}
use Rattle.std.specs.List.{flat_map}
use Rattle.go_decl_core.specs.Shown.{decl_shown}
use Rattle.go_decl_core.specs.declared.tops.TopDecl.{TopDecl}
use Rattle.go_block_core.specs.Declarations.{top_declared}
use Rattle.go_block_core.specs.Faults.{block_decl_faults}
use Rattle.go_block_core.specs.Holding.{declared_block}
use Rattle.go_block_core.specs.Tables.{block_of}
use Rattle.go_block_core.proofs.package_block.add_file.Given as goal

abbrev pub invariant-loop-top : goal.invariant-loop-top
invariant-loop-top l =
    (block_of l.table ≡ declared_block (block_of l.fn.table) (flat_map (λ (d : TopDecl). top_declared l.file (decl_shown d)) (take l.top-index l.top-items)))
    × (l.faults.items ≡ l.fn.faults.items ++ block_decl_faults l.is_main (block_of l.fn.table) (flat_map (λ (d : TopDecl). top_declared l.file (decl_shown d)) (take l.top-index l.top-items)))
