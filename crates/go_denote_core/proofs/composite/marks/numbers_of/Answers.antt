use Rattle.std.proofs.Common.{◌≡◌, Bor, ℕ, ◌<◌, ◌≤◌, List, [], length, get_or, subst}
use Rattle.std.specs.Prelude.{Some, None, if◌then◌else◌}
use Rattle.std.specs.Str.{bytes_eq}
use Rattle.go_denote_core.specs.composite.mirrors.Numbers.{number_of, first_known}
use Rattle.go_denote_core.proofs.CompositeMarking.{number_turn, numbers_end}
use Rattle.go_denote_core.proofs.composite.marks.numbers_of.Goals as goal

pub loop-at-preserved : goal.loop-at-preserved
loop-at-preserved c =
    let xs = c.args.names.now.items in
    let i = c.loop-at.at in
    let d : Bor (List ℕ) = record { ref_ptr = (0, 0); now = [] } in
    let old = c.loop-at.numbers.entries in
    let new = c.add_name.new.numbers.entries in
    let same = c.deref-name-items.ensures.value in
    let h : i < length xs = subst (λ l. i < length l) same c.loop-at-test.true in
    let adds = subst (λ (l : List (Bor (List ℕ))). (n : List ℕ) → number_of new n ≡ first_known (number_of old n) (if bytes_eq (get_or l i d).now n then Some i else None)) same c.in_ok-add_name.ensures in
    number_turn xs i d old new h c.loop-at.invariant adds

pub returns : goal.returns
returns c =
    let xs = c.args.names.now.items in
    let i = c.loop-at.at in
    let past : length xs ≤ i = subst (λ l. length l ≤ i) c.deref-name-items.ensures.value c.loop-at-test.false in
    numbers_end xs i c.loop-at.numbers.entries past c.loop-at.invariant
