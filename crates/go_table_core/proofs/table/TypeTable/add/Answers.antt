use Rattle.std.proofs.Common.{◌≡◌, ◌<◌, ◌+◌, ◌++◌, ◌∷◌, [], length, List, ℕ, refl, sym, ap, ◌∙◌, subst, arith}
use Rattle.go_term_core.specs.Shapes.{shape}
use Rattle.go_table_core.specs.Tables.{AreOthers}
use Rattle.go_table_core.specs.declared.table.Numbered.{Numbered}
use Rattle.go_table_core.specs.mirrors.Holding.{numbered, package_at, all_entries, IsTable}
use Rattle.go_table_core.proofs.Adding.{on_err, table_more}
use Rattle.go_table_core.proofs.Finding.{none_there}
use Rattle.go_table_core.proofs.table.TypeTable.add.Goals as goal

pub add-requires : goal.add-requires
add-requires c =
    let path : c.as_str.result.now ≡ c.args.types.path = c.as_str.ensures.text ∙ (c.path.ensures ∙ ap (λ t. t.path) c.in_ok-named.ensures) in
    ap (package_at c.self.inside.packages.names) path
    ∙ none_there 0 c.self.inside.packages.names c.args.types.path c.self.invariant.kept (subst (λ es. AreOthers c.args.types.path es) (sym c.self.view_is) c.requires)

pub invariant_of-self : goal.invariant_of-self
invariant_of-self c = subst (λ (ps : List (List ℕ × Numbered)). IsTable c.self.inside.len ps (shape c.self.inside.nothing)) (sym c.in_err-add.ensures.err) c.self.invariant

pub returns-in_err-add-clause-err : goal.returns-in_err-add-clause-err
returns-in_err-add-clause-err c = on_err c.from_residual-in_err-add.result (ap all_entries c.in_err-add.ensures.err ∙ c.self.view_is)

pub invariant_of-self-2 : goal.invariant_of-self-2
invariant_of-self-2 c =
    let len : length c.types-more.result.now ≡ length c.args.types.entries = ap length c.types-more.ensures.value in
    let others = subst (λ es. AreOthers c.args.types.path es) (sym c.self.view_is) c.requires in
    let some : 0 < length c.args.types.entries = omega arith in
    let counted : c.in-Some.len ≡ c.self.inside.len + length c.args.types.entries = c.in-Some.ensures.1 ∙ ap (λ n. c.self.inside.len + n) len in
    let path : c.as_str.result.now ≡ c.args.types.path = c.as_str.ensures.text ∙ (c.path.ensures ∙ ap (λ t. t.path) c.in_ok-named.ensures) in
    let more = c.in_ok-add.ensures.ok ∙ ap (λ n. c.self.inside.packages.names ++ (n, numbered c.self.inside.len c.args.types) ∷ []) path in
    (table_more c.self.inside.packages.names c.add.new.self.names c.args.types.path (numbered c.self.inside.len c.args.types) c.self.inside.len c.in-Some.len (shape c.self.inside.nothing)
    c.self.invariant others more refl refl c.types-more.ensures.well some counted).0

pub returns-clause-ok : goal.returns-clause-ok
returns-clause-ok c =
    let len : length c.types-more.result.now ≡ length c.args.types.entries = ap length c.types-more.ensures.value in
    let others = subst (λ es. AreOthers c.args.types.path es) (sym c.self.view_is) c.requires in
    let some : 0 < length c.args.types.entries = omega arith in
    let counted : c.in-Some.len ≡ c.self.inside.len + length c.args.types.entries = c.in-Some.ensures.1 ∙ ap (λ n. c.self.inside.len + n) len in
    let path : c.as_str.result.now ≡ c.args.types.path = c.as_str.ensures.text ∙ (c.path.ensures ∙ ap (λ t. t.path) c.in_ok-named.ensures) in
    let more = c.in_ok-add.ensures.ok ∙ ap (λ n. c.self.inside.packages.names ++ (n, numbered c.self.inside.len c.args.types) ∷ []) path in
    (table_more c.self.inside.packages.names c.add.new.self.names c.args.types.path (numbered c.self.inside.len c.args.types) c.self.inside.len c.in-Some.len (shape c.self.inside.nothing)
    c.self.invariant others more refl refl c.types-more.ensures.well some counted).1 ∙ ap (λ l. l ++ c.args.types.entries) c.self.view_is
