use Rattle.std.proofs.Common.{◌≡◌, [], drop}
use Rattle.go_term_core.specs.settling.mirrors.Kept.{kept_fields, those_kept}
use Rattle.go_term_core.proofs.SettlingLoops.{onto, masked}
use Rattle.go_term_core.proofs.SettlingMasks.{put_field}
use Rattle.go_term_core.proofs.settling.kept.settle_fields.Given as goal

abbrev pub invariant-loop-i : goal.invariant-loop-i
invariant-loop-i l =
    onto put_field put_field [] l.settled.items (masked put_field put_field [] (drop l.i l.kept.items) (drop l.i l.field-items)) ≡ those_kept (kept_fields l.field-items) l.field-items
