use Rattle.std.proofs.Common.{◌≡◌, [], map, take}
use Rattle.go_local_core.specs.scope_stack.Blocks.{innermost, short_names, list_names}
use Rattle.go_local_core.specs.Faults.{spellings}
use Rattle.go_names_core.proofs.declaring.short_names.Given as goal

abbrev pub invariant-loop-ident : goal.invariant-loop-ident
invariant-loop-ident l =
    (l.seen ≡ list_names [] (spellings (map (λ i. i.now) (take l.ident-index l.idents))))
    × (l.shorts.items ≡ short_names (innermost l.scopes.open_blocks) (spellings (map (λ i. i.now) (take l.ident-index l.idents))))
