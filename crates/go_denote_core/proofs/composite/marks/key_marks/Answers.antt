use Rattle.std.proofs.Common.{◌≡◌, ℕ, List, map, ap, subst, ◌∙◌}
use Rattle.std.specs.Prelude.{IfOk}
use Rattle.go_denote_core.specs.composite.Repeats.{repeats}
use Rattle.go_denote_core.specs.composite.Marks.{field_number, name_number_from, type_fields, made_mark}
use Rattle.go_denote_core.specs.declared.composite.things.KeyMark.{KeyMark}
use Rattle.go_denote_core.specs.composite.mirrors.Numbers.{asked_mark, number_of, mark_by, searched_mark}
use Rattle.go_denote_core.proofs.composite.marks.key_marks.Goals as goal

pub returns-then-is_indexed : goal.returns-then-is_indexed
returns-then-is_indexed g c =
    let names = map (λ n. n.now) c.args.names.now in
    let fields = type_fields (g.E.Literals.literals c.args.env.now) c.args.t.now in
    let again = map (λ n. n.now) c.in_ok-again.again.keys in
    let same : asked_mark again fields ≡ (λ n. made_mark fields (repeats n names) n) = λ i n. record { is_repeated = c.in_ok-again.ensures n i; field = field_number fields n } in
    subst (λ (f : List ℕ → KeyMark). IfOk c.ask_each.result (λ all. all.items ≡ map f names)) same c.ask_each.ensures

pub returns-then-names-lt-TABLE_FROM : goal.returns-then-names-lt-TABLE_FROM
returns-then-names-lt-TABLE_FROM g c =
    let names = map (λ n. n.now) c.args.names.now in
    let fields = type_fields (g.E.Literals.literals c.args.env.now) c.args.t.now in
    let again = map (λ n. n.now) c.in_ok-again.again.keys in
    let found = map (λ n. n.now) c.in_ok-fields.fields.items in
    let same : searched_mark again found ≡ (λ n. made_mark fields (repeats n names) n) = λ i n. record { is_repeated = c.in_ok-again.ensures n i; field = name_number_from 0 (c.in_ok-fields.ensures i) n } in
    subst (λ (f : List ℕ → KeyMark). IfOk c.search_each.result (λ all. all.items ≡ map f names)) same c.search_each.ensures

pub returns : goal.returns
returns g c =
    let names = map (λ n. n.now) c.args.names.now in
    let fields = type_fields (g.E.Literals.literals c.args.env.now) c.args.t.now in
    let again = map (λ n. n.now) c.in_ok-again.again.keys in
    let entries = c.in_ok-numbers.numbers.entries in
    let numbered : (n : List ℕ) → number_of entries n ≡ name_number_from 0 (map (λ f. f.name) fields) n = λ n. c.in_ok-numbers.ensures n ∙ ap (λ l. name_number_from 0 l n) c.in_ok-fields.ensures in
    let same : mark_by again entries ≡ (λ n. made_mark fields (repeats n names) n) = λ i n. record { is_repeated = c.in_ok-again.ensures n i; field = numbered n i } in
    subst (λ (f : List ℕ → KeyMark). IfOk c.mark_each.result (λ all. all.items ≡ map f names)) same c.mark_each.ensures
