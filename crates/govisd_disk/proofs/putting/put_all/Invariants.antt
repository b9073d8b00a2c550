use Rattle.std.proofs.Common.{◌≡◌, ◌++◌, map}
use Rattle.std.specs.Prelude.{string_bytes}
use Rattle.std.specs.Vec.Iter.{into_iter_items}
use Rattle.govisd_disk.specs.Puts.{folder_of}
use Rattle.govisd_disk.proofs.GroupLemmas.{AreGrouped}
use Rattle.govisd_disk.proofs.putting.put_all.Given as goal

abbrev pub invariant-loop-folder : goal.invariant-loop-folder
invariant-loop-folder g l =
    AreGrouped l.module_path (map folder_of l.yielded) l.group (l.initial.workspace, string_bytes l.initial.notes) (l.workspace, string_bytes l.notes)
    × (l.yielded ++ into_iter_items l.folder-iterator ≡ l.fn.found.items)
