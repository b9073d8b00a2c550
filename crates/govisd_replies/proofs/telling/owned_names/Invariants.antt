use Rattle.std.proofs.Common.{◌≡◌, map, take, string_bytes}
use Rattle.govisd_replies.proofs.telling.owned_names.Given as goal

abbrev pub invariant-loop-text : goal.invariant-loop-text
invariant-loop-text l = l.owned.items ≡ map (λ s. string_bytes s) (take l.text-index l.all)
