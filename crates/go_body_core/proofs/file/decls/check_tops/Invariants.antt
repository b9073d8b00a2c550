use Rattle.std.proofs.Common.{◌≡◌, ◌++◌, map, take, drop}
use Rattle.std.specs.List.{AllZip}
use Rattle.go_tree_nodes.specs.Shapes.{top_of}
use Rattle.go_body_core.specs.function.Laws.{AreFuncTypes}
use Rattle.go_body_core.specs.file.Files.{tops_uses, tops_faults, tops_locals}
use Rattle.go_body_core.specs.file.Stands.{stand_of, tops_funcs}
use Rattle.go_body_core.proofs.file.decls.check_tops.Given as goal

abbrev pub invariant-loop-top : goal.invariant-loop-top
invariant-loop-top g l =
    let st = stand_of g.P.ImportedNames.shows l.at in
    record {
      used : l.notes.uses.items ≡ l.fn.notes.uses.items ++ tops_uses st (map top_of (take l.top-index l.decls));
      noted : l.notes.faults.items ≡ l.fn.notes.faults.items ++ tops_faults st (map top_of (take l.top-index l.decls));
      listed : l.declared.items ≡ l.fn.declared.items ++ tops_locals st (map top_of (take l.top-index l.decls));
      typed : AllZip (AreFuncTypes st) (tops_funcs (map top_of (drop l.top-index l.decls))) (drop l.next l.functions);
    }
