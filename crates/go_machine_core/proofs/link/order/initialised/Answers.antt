use Rattle.std.proofs.Common.{◌≡◌, ◌-◌, ◌+◌, ◌++◌, ◌<◌, ℕ, List, Bool, true, false, None, Some, [], ◌∷◌, length, map, get_or, replicate, sym, ap, ◌∙◌, refl, subst, arith, rules, append-nil, append_assoc, length-set}
use Rattle.std.specs.Prelude.{remove, slice_set}
use Rattle.std.specs.List.{position_from}
use Rattle.std.proofs.lemmas.List.{length-map, length-replicate}
use Rattle.go_machine_core.specs.link.Packages.{package_shown}
use Rattle.go_machine_core.specs.link.Order.{in_turn, initialised, is_ready, marked_in}
use Rattle.go_machine_core.specs.link.mirrors.Numbering.{AreBelow}
use Rattle.go_machine_core.proofs.LinkReaching.{below_at}
use Rattle.go_machine_core.proofs.LinkTurning.{at_any, below_removed, first_within, marked_below, turn_ends, turn_next}
use Rattle.go_machine_core.proofs.link.order.initialised.Goals as goal

pub loop-turn-init : goal.loop-turn-init
loop-turn-init c =
    let ps = map package_shown c.args.packages.now in
    let wanted = marked_in c.args.order.now c.args.marks.now in
    let none : c.in_ok-done.done.items ≡ replicate (length c.args.packages.now) false = c.in_ok-done.ensures.items_if_clones_equal (search rules) in
    let count : length c.args.packages.now ≡ length ps = sym (length-map c.args.packages.now package_shown) in
    let zero : length wanted ≡ length wanted - 0 = omega arith in
    let done : replicate (length ps) false ≡ c.in_ok-done.done.items = ap (λ n. replicate n false) (sym count) ∙ sym none in
    record {
      turns = ap (λ d. in_turn ps (length wanted) d wanted) done
          ∙ (ap (λ w. in_turn ps (length wanted) c.in_ok-done.done.items w) (sym c.in_ok-waiting.ensures)
          ∙ (ap (λ n. in_turn ps n c.in_ok-done.done.items c.in_ok-waiting.waiting.items) zero
          ∙ ap (λ l. l ++ in_turn ps (length wanted - 0) c.in_ok-done.done.items c.in_ok-waiting.waiting.items) (sym c.new-numbers.ensures.items)));
      below = subst (λ w. AreBelow (length c.args.packages.now) w) (sym c.in_ok-waiting.ensures) (marked_below (length c.args.packages.now) c.args.order.now c.args.marks.now c.requires);
      many = ap length none ∙ length-replicate (length c.args.packages.now) false;
    }

pub returns-in_default : goal.returns-in_default
returns-in_default c =
    let ps = map package_shown c.args.packages.now in
    let wanted = marked_in c.args.order.now c.args.marks.now in
    let turn = c.loop-turn._turn in
    let lt : turn < length wanted = omega (arith, c.loop-turn-test.true, c.len-turn-end.ensures, ap length c.in_ok-waiting.ensures, c.in_ok-waiting.waiting.ok.0) in
    let first : None ≡ position_from (is_ready ps c.loop-turn.done.items) 0 c.loop-turn.waiting.items =
    c.in_default.ensures ∙ (ap (λ d. position_from (is_ready ps d) 0 c.deref-in-loop-turn.result.now) c.deref.ensures.value ∙ ap (λ w. position_from (is_ready ps c.loop-turn.done.items) 0 w) c.deref-in-loop-turn.ensures.value) in
    let ends = turn_ends ps (length wanted) turn (turn + 1) c.loop-turn.done.items c.loop-turn.waiting.items lt refl first in
    sym (c.loop-turn.invariant.turns ∙ (ap (λ l. c.loop-turn.numbers.items ++ l) ends ∙ append-nil c.loop-turn.numbers.items))

pub remove-number-requires : goal.remove-number-requires
remove-number-requires c =
    let ps = map package_shown c.args.packages.now in
    let first : Some c.in-Some.place ≡ position_from (is_ready ps c.loop-turn.done.items) 0 c.loop-turn.waiting.items =
    c.in-Some.ensures ∙ (ap (λ d. position_from (is_ready ps d) 0 c.deref-in-loop-turn.result.now) c.deref.ensures.value ∙ ap (λ w. position_from (is_ready ps c.loop-turn.done.items) 0 w) c.deref-in-loop-turn.ensures.value) in
    let lt = first_within (is_ready ps c.loop-turn.done.items) c.loop-turn.waiting.items c.in-Some.place first in
    omega (arith, lt, c.loop-turn.waiting.ok.0)

pub index_mut-requires : goal.index_mut-requires
index_mut-requires c =
    let ps = map package_shown c.args.packages.now in
    let waiting = c.loop-turn.waiting.items in
    let first : Some c.in-Some.place ≡ position_from (is_ready ps c.loop-turn.done.items) 0 waiting =
    c.in-Some.ensures ∙ (ap (λ d. position_from (is_ready ps d) 0 c.deref-in-loop-turn.result.now) c.deref.ensures.value ∙ ap (λ w. position_from (is_ready ps c.loop-turn.done.items) 0 w) c.deref-in-loop-turn.ensures.value) in
    let lt = first_within (is_ready ps c.loop-turn.done.items) waiting c.in-Some.place first in
    let low = below_at (length c.args.packages.now) waiting c.in-Some.place 0 c.loop-turn.invariant.below lt in
    let is : c.remove-number.result ≡ get_or waiting c.in-Some.place 0 = c.remove-number.ensures.value ∙ at_any waiting c.in-Some.place c.remove-number.result 0 lt in
    omega (arith, low, is, c.loop-turn.invariant.many, c.loop-turn.done.ok.0)

pub loop-turn-preserved : goal.loop-turn-preserved
loop-turn-preserved c =
    let ps = map package_shown c.args.packages.now in
    let wanted = marked_in c.args.order.now c.args.marks.now in
    let turn = c.loop-turn._turn in
    let place = c.in-Some.place in
    let number = c.remove-number.result in
    let waiting = c.loop-turn.waiting.items in
    let done = c.loop-turn.done.items in
    let numbers = c.loop-turn.numbers.items in
    let within : turn < length wanted = omega (arith, c.loop-turn-test.true, c.len-turn-end.ensures, ap length c.in_ok-waiting.ensures, c.in_ok-waiting.waiting.ok.0) in
    let first : Some place ≡ position_from (is_ready ps done) 0 waiting =
    c.in-Some.ensures ∙ (ap (λ d. position_from (is_ready ps d) 0 c.deref-in-loop-turn.result.now) c.deref.ensures.value ∙ ap (λ w. position_from (is_ready ps done) 0 w) c.deref-in-loop-turn.ensures.value) in
    let lt = first_within (is_ready ps done) waiting place first in
    let is : number ≡ get_or waiting place 0 = c.remove-number.ensures.value ∙ at_any waiting place number 0 lt in
    record {
      turns = c.loop-turn.invariant.turns
          ∙ (ap (λ l. numbers ++ l) (turn_next ps (length wanted) turn (turn + 1) done waiting within refl place first)
          ∙ (sym (append_assoc numbers (get_or waiting place 0 ∷ []) (in_turn ps (length wanted - (turn + 1)) (slice_set done (get_or waiting place 0) true) (remove waiting place)))
          ∙ (ap (λ (x : ℕ). (numbers ++ x ∷ []) ++ in_turn ps (length wanted - (turn + 1)) (slice_set done x true) (remove waiting place)) (sym is)
          ∙ (ap (λ (w : List ℕ). (numbers ++ number ∷ []) ++ in_turn ps (length wanted - (turn + 1)) (slice_set done number true) w) (sym c.remove-number.ensures.items)
          ∙ ap (λ (l : List ℕ). l ++ in_turn ps (length wanted - (turn + 1)) (slice_set done number true) c.remove-number.new.self.items) (sym c.in_ok-push.ensures.items)))));
      below = subst (λ w. AreBelow (length c.args.packages.now) w) (sym c.remove-number.ensures.items) (below_removed (length c.args.packages.now) waiting place c.loop-turn.invariant.below);
      many = length-set done number true ∙ c.loop-turn.invariant.many;
    }
