use Rattle.std.specs.Prelude.{string_bytes}
use Rattle.std.specs.Vec.Iter.{into_iter_items}
use Rattle.govisd_disk.specs.Puts.{group_of}
use Rattle.govisd_disk.proofs.GroupLemmas.{AreLeft}
use Rattle.govisd_disk.proofs.putting.put_group.Given as goal

abbrev pub invariant-loop-folder : goal.invariant-loop-folder
invariant-loop-folder g l =
    AreLeft l.module_path (group_of l.fn.group) (l.initial.workspace, string_bytes l.initial.notes) (l.workspace, string_bytes l.notes) (into_iter_items l.folder-iterator) (into_iter_items l.read)
