use Rattle.std.proofs.Common.{◌≡◌}
use Rattle.std.specs.Prelude.{replicate, string_bytes}
use Rattle.go_judge_core.proofs.writing.stars_text.Given as goal

abbrev pub invariant-loop-star : goal.invariant-loop-star
invariant-loop-star l = string_bytes l.text ≡ replicate l._star 42
