use Rattle.std.proofs.Common.{◌≡◌, map, sym, subst}
use Rattle.std.specs.Prelude.{IfOk, Option}
use Rattle.go_term_core.specs.Shapes.{line_shapes}
use Rattle.go_env_core.specs.declared.fields.SeenFields.{SeenFields}
use Rattle.go_env_core.specs.Fields.{TheField}
use Rattle.go_env_core.specs.mirrors.Seen.{some_seen}
use Rattle.go_env_core.proofs.fields.field_names.Goals as goal

pub returns : goal.returns
returns c s =
    let x = c.in-Some.seen in
    subst (λ (o : Option SeenFields). IfOk c.kept_names.result (λ names. map (λ n. n.now) names.items ≡ map (λ (f : TheField). f.name) (some_seen s o))) (sym c.in-Some.is)
    (c.kept_names.ensures s (line_shapes x.lines.now))
