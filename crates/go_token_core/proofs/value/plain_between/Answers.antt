use Rattle.std.proofs.Common.{subst, rules}
use Rattle.std.specs.List.{Contains}
use Rattle.std.proofs.lemmas.Bool.Decides.{Decides-eqb}
use Rattle.std.proofs.lemmas.List.Elements.{Contains-from_at, contains_decides}
use Rattle.go_token_core.proofs.PlainLemmas.{next_to_mark, not_between}
use Rattle.go_token_core.proofs.value.plain_between.Goals as goal

pub range-inside-requires-clause-start_boundary : goal.range-inside-requires-clause-start_boundary
range-inside-requires-clause-start_boundary c = λ _. next_to_mark c.args.spelled.now c.args.mark c.utf8.spelled (search rules) c.requires (search rules)

pub returns-then-contains-clause-none : goal.returns-then-contains-clause-none
returns-then-contains-clause-none c = λ _.
    let found = Contains-from_at c.as_bytes.result.now c.args.never ((contains_decides _ Decides-eqb c.as_bytes.result.now c.args.never c.contains.result c.contains.ensures.cases).0 c.if-contains.true) in
    not_between c.args.mark c.args.never c.range-inside.result.now c.args.spelled.now (subst (λ xs. Contains xs c.args.never) c.as_bytes.ensures.value found) (search rules)
