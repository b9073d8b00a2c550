use Rattle.std.proofs.Common.{◌≡◌, map, take}
use Rattle.govisd_replies.proofs.telling.file_names.Given as goal

abbrev pub invariant-loop-file : goal.invariant-loop-file
invariant-loop-file l = l.names.items ≡ map (λ f. f.name) (take l.file-index l.files)
