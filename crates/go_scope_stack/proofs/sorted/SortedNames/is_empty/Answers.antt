use Rattle.std.proofs.Common.{◌≡◌, ◌==◌, sym, ap, ◌∙◌, arith}
use Rattle.std.specs.Prelude.{vec_len}
use Rattle.std.proofs.lemmas.Bool.{eqb-true}
use Rattle.go_scope_stack.proofs.Names.{no_names, none_there}
use Rattle.go_scope_stack.proofs.sorted.SortedNames.is_empty.Goals as goal

pub returns : goal.returns
returns c =
    let names = c.self.inside.names in (
      (λ yes. sym c.self.view_is ∙ no_names names.items (let z : vec_len names ≡ 0 = eqb-true _ _ (sym c.is_empty.ensures ∙ yes) in omega (arith, z, names.ok.0))),
      (λ none. c.is_empty.ensures ∙ ap (λ n. n == 0) (let z = none_there names.items (c.self.view_is ∙ none) in let none : vec_len names ≡ 0 = omega (arith, z, names.ok.0) in none)),
    )
