use Rattle.std.proofs.Common.{◌≡◌, ◌++◌}
use Rattle.std.specs.List.{flat_map}
use Rattle.std.specs.Vec.Iter.{into_iter_items}
use Rattle.go_body_core.specs.declared.file.whole.CheckedFile.{CheckedFile}
use Rattle.go_body_core.proofs.file.joined.gather.Given as goal

abbrev pub invariant-loop-run : goal.invariant-loop-run
invariant-loop-run l =
    record {
      used : l.notes.uses.items ++ flat_map (λ (c : CheckedFile). c.uses.items) (into_iter_items l.run-iterator) ≡ l.fn.notes.uses.items ++ flat_map (λ (c : CheckedFile). c.uses.items) l.fn.runs.items;
      broken : l.notes.faults.items ++ flat_map (λ (c : CheckedFile). c.faults.items) (into_iter_items l.run-iterator) ≡ l.fn.notes.faults.items ++ flat_map (λ (c : CheckedFile). c.faults.items) l.fn.runs.items;
      listed : l.declared.items ++ flat_map (λ (c : CheckedFile). c.locals.items) (into_iter_items l.run-iterator) ≡ l.fn.declared.items ++ flat_map (λ (c : CheckedFile). c.locals.items) l.fn.runs.items;
    }
