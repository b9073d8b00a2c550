use Rattle.std.proofs.Common.{◌≡◌, ◌++◌, [], ◌∷◌, sym, ap, ◌∙◌}
use Rattle.std.proofs.lemmas.Result.{on_ok_weaker}
use Rattle.go_decl_core.specs.Shown.{decl_shown}
use Rattle.go_block_core.specs.Declarations.{top_declared}
use Rattle.go_block_core.specs.Faults.{block_decl_faults}
use Rattle.go_block_core.specs.Holding.{declared_block}
use Rattle.go_block_core.specs.Tables.{block_of}
use Rattle.go_block_core.specs.mirrors.Shown.{declaration_shown, declared_shown}
use Rattle.go_block_core.proofs.BlockLemmas.{one_declared, one_faults}
use Rattle.go_block_core.proofs.Pieces.{no_pieces}
use Rattle.go_block_core.proofs.package_block.add_top.Goals as goal

pub returns-in-Some : goal.returns-in-Some
returns-in-Some c =
    let d = declaration_shown c.in-Some.declared in
    let ds = top_declared c.args.file (decl_shown c.args.top.now) in
    let b = block_of c.args.table.now in
    let is : d ∷ [] ≡ ds = sym (ap declared_shown c.in-Some.is) ∙ c.declaration.ensures in
    record {
      table = on_ok_weaker c.add_declared.result (λ made. one_declared ds d b _ is made) c.add_declared.ensures.table;
      faults = on_ok_weaker c.add_declared.result (λ added. one_faults c.args.is_main ds d b c.args.faults.now.items _ is added) c.add_declared.ensures.faults;
    }

pub returns-in-None : goal.returns-in-None
returns-in-None c =
    let b = block_of c.args.table.now in
    let none : [] ≡ top_declared c.args.file (decl_shown c.args.top.now) = sym (ap declared_shown c.in-None.is) ∙ c.declaration.ensures in
    record {
      table = ap (declared_block b) none;
      faults = no_pieces c.args.faults.now.items ∙ ap (λ ds. c.args.faults.now.items ++ block_decl_faults c.args.is_main b ds) none;
    }
