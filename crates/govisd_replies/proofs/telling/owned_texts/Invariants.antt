use Rattle.std.proofs.Common.{◌≡◌, take}
use Rattle.go_summary_core.specs.shown.Shown.{texts}
use Rattle.govisd_replies.proofs.telling.owned_texts.Given as goal

abbrev pub invariant-loop-text : goal.invariant-loop-text
invariant-loop-text l = l.owned.items ≡ texts (take l.text-index l.all)
