use Rattle.std.proofs.Common.{◌≡◌, Bor, ℕ, ◌<◌, ◌≤◌, List, [], true, false, length, get_or, sym, subst, ◌∙◌}
use Rattle.std.specs.Str.{bytes_eq}
use Rattle.go_denote_core.proofs.CompositeMarking.{number_passed, number_here, number_none}
use Rattle.go_denote_core.proofs.composite.marks.first_named.Goals as goal

pub loop-at-preserved : goal.loop-at-preserved
loop-at-preserved c =
    let xs = c.args.names.now.items in
    let i = c.loop-at.at in
    let d : Bor (List ℕ) = record { ref_ptr = (0, 0); now = [] } in
    let same = c.deref-other-items.ensures.value in
    let h : i < length xs = subst (λ l. i < length l) same c.loop-at-test.true in
    let off : bytes_eq (get_or xs i d).now c.args.name.now ≡ false = subst (λ (l : List (Bor (List ℕ))). bytes_eq (get_or l i d).now c.args.name.now ≡ false) same (sym c.eq.ensures ∙ c.if-eq.false) in
    number_passed xs i d c.args.name.now h off ∙ c.loop-at.invariant

pub returns-then-eq : goal.returns-then-eq
returns-then-eq c =
    let xs = c.args.names.now.items in
    let i = c.loop-at.at in
    let d : Bor (List ℕ) = record { ref_ptr = (0, 0); now = [] } in
    let same = c.deref-other-items.ensures.value in
    let h : i < length xs = subst (λ l. i < length l) same c.loop-at-test.true in
    let on : bytes_eq (get_or xs i d).now c.args.name.now ≡ true = subst (λ (l : List (Bor (List ℕ))). bytes_eq (get_or l i d).now c.args.name.now ≡ true) same (sym c.eq.ensures ∙ c.if-eq.true) in
    number_here xs i d c.args.name.now h on ∙ c.loop-at.invariant

pub returns : goal.returns
returns c =
    let xs = c.args.names.now.items in
    let i = c.loop-at.at in
    let past : length xs ≤ i = subst (λ l. length l ≤ i) c.deref-other-items.ensures.value c.loop-at-test.false in
    number_none xs i c.args.name.now past ∙ c.loop-at.invariant
