use Rattle.std.proofs.Common.{◌≡◌, ◌≤◌, not, take}
use Rattle.std.specs.List.{count_by}
use Rattle.go_env_core.specs.mirrors.Seen.{hider_shown, is_kept}
use Rattle.go_env_core.proofs.fields.count_kept.Given as goal

abbrev pub invariant-loop-field : goal.invariant-loop-field
invariant-loop-field l = record {
  bound : l.count ≤ l.field-index;
  counted : l.count ≡ count_by (λ f. not (is_kept (hider_shown l.hider) f.name l.home)) (take l.field-index l.fields);
}
