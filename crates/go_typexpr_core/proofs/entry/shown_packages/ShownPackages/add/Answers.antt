use Rattle.std.proofs.Common.{◌≡◌, List, Some, None, [], ◌∷◌, ◌++◌, length, map, refl, sym, ap, ◌∙◌, arith}
use Rattle.go_graph_core.specs.collections_core.NameTableNamed.{value_at}
use Rattle.go_scope_core.specs.block_core.Exports.{ExportsModel}
use Rattle.go_typexpr_core.specs.entry.Showing.{with_shown}
use Rattle.go_typexpr_core.specs.entry.mirrors.Indexing.{number_of, numbered}
use Rattle.go_typexpr_core.proofs.EntryShown.{number_within, number_found, numbered_again, numbered_last}
use Rattle.go_typexpr_core.proofs.entry.shown_packages.ShownPackages.add.Goals as goal

pub index_mut-requires : goal.index_mut-requires
index_mut-requires c =
    let packages = c.self.inside.packages in
    let path = c.args.exports.path in
    let at : number_of packages.items path ≡ Some c.in-Some.number = ap (λ l. number_of l path) c.self.view_is ∙ (ap (number_of c.args.self.now) (sym c.path.ensures) ∙ (sym c.number.ensures ∙ c.in-Some.is)) in
    let l = number_within packages.items path c.in-Some.number at in
    omega (arith, l, packages.ok.0)

pub invariant_of-self : goal.invariant_of-self
invariant_of-self c =
    let ps = c.self.inside.packages.items in
    let path = c.args.exports.path in
    let at : number_of ps path ≡ Some c.in-Some.number = ap (λ l. number_of l path) c.self.view_is ∙ (ap (number_of c.args.self.now) (sym c.path.ensures) ∙ (sym c.number.ensures ∙ c.in-Some.is)) in
    (numbered_again c.self.inside.numbers.names ps path c.in-Some.number c.args.exports c.self.invariant at refl).1

pub returns-in-Some-clause-ok : goal.returns-in-Some-clause-ok
returns-in-Some-clause-ok c =
    let ps = c.self.inside.packages.items in
    let path = c.args.exports.path in
    let at : number_of ps path ≡ Some c.in-Some.number = ap (λ l. number_of l path) c.self.view_is ∙ (ap (number_of c.args.self.now) (sym c.path.ensures) ∙ (sym c.number.ensures ∙ c.in-Some.is)) in
    (numbered_again c.self.inside.numbers.names ps path c.in-Some.number c.args.exports c.self.invariant at refl).0
    ∙ ap (λ l. with_shown l c.args.exports) c.self.view_is

pub add-requires : goal.add-requires
add-requires c =
    let it = c.self.inside in
    let e = c.args.exports in
    let none : number_of it.packages.items e.path ≡ None = ap (λ l. number_of l e.path) c.self.view_is ∙ (ap (number_of c.args.self.now) (sym c.path.ensures) ∙ (sym c.number.ensures ∙ c.in_default.is)) in
    ap (value_at it.numbers.names) (c.as_str.ensures.text ∙ c.path-2.ensures) ∙ (number_found it.numbers.names it.packages.items e.path c.self.invariant ∙ none)

pub invariant_of-self-2 : goal.invariant_of-self-2
invariant_of-self-2 c =
    let ps = c.self.inside.packages.items in
    let e = c.args.exports in
    let is_path : c.as_str.result.now ≡ e.path = c.as_str.ensures.text ∙ c.path-2.ensures in
    let none : number_of ps e.path ≡ None = ap (λ l. number_of l e.path) c.self.view_is ∙ (ap (number_of c.args.self.now) (sym c.path.ensures) ∙ (sym c.number.ensures ∙ c.in_default.is)) in
    let count : c.len-number.result ≡ length ps = omega (arith, c.len-number.ensures, c.in_ok-reserve.ensures.len, c.self.inside.packages.ok.0) in
    let items : c.push.new.self.items ≡ ps ++ e ∷ [] = c.in_ok-push.ensures.items ∙ ap (λ (l : List ExportsModel). l ++ e ∷ []) c.in_ok-reserve.ensures.items in
    let r = numbered_last c.self.inside.numbers.names c.add.new.self.names ps c.as_str.result.now c.len-number.result e c.self.invariant is_path count none c.in_ok-add.ensures.ok in
    r.1 ∙ ap (λ (l : List ExportsModel). numbered 0 (map (λ p. p.path) l)) (sym items)

pub returns-clause-ok : goal.returns-clause-ok
returns-clause-ok c =
    let ps = c.self.inside.packages.items in
    let e = c.args.exports in
    let is_path : c.as_str.result.now ≡ e.path = c.as_str.ensures.text ∙ c.path-2.ensures in
    let none : number_of ps e.path ≡ None = ap (λ l. number_of l e.path) c.self.view_is ∙ (ap (number_of c.args.self.now) (sym c.path.ensures) ∙ (sym c.number.ensures ∙ c.in_default.is)) in
    let count : c.len-number.result ≡ length ps = omega (arith, c.len-number.ensures, c.in_ok-reserve.ensures.len, c.self.inside.packages.ok.0) in
    let items : c.push.new.self.items ≡ ps ++ e ∷ [] = c.in_ok-push.ensures.items ∙ ap (λ (l : List ExportsModel). l ++ e ∷ []) c.in_ok-reserve.ensures.items in
    let r = numbered_last c.self.inside.numbers.names c.add.new.self.names ps c.as_str.result.now c.len-number.result e c.self.invariant is_path count none c.in_ok-add.ensures.ok in
    items ∙ (r.0 ∙ ap (λ l. with_shown l e) c.self.view_is)
