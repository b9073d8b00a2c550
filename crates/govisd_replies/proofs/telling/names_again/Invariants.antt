use Rattle.std.proofs.Common.{◌≡◌, take}
use Rattle.govisd_replies.proofs.telling.names_again.Given as goal

abbrev pub invariant-loop-name : goal.invariant-loop-name
invariant-loop-name l = l.names.items ≡ take l.name-index l.all
