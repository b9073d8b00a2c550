use Rattle.std.proofs.Common.{◌≡◌, ◌++◌, map}
use Rattle.go_body_core.specs.file.Imports.{imports_uses}
use Rattle.go_block_core.specs.mirrors.Shown.{spec_shown}
use Rattle.go_body_core.proofs.file.imports.add_specs.Given as goal

abbrev pub invariant-loop-spec : goal.invariant-loop-spec
invariant-loop-spec l = l.uses.items ++ imports_uses (map spec_shown l.spec-iterator.a.rest.now) l.spec-iterator.b.rest.now ≡ l.fn.uses.items ++ imports_uses (map spec_shown l.specs) l.imported
