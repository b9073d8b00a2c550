use Rattle.std.proofs.Common.{◌≡◌, ◌-◌, ◌+◌, ◌<◌, List, ℕ, [], length, map, get_or, ap, refl, ◌∙◌, arith}
use Rattle.std.specs.Prelude.{slice_index_or}
use Rattle.std.specs.List.{prefix_len}
use Rattle.std.specs.Borrow.{Bor}
use Rattle.go_machine_core.specs.link.Packages.{is_before}
use Rattle.go_machine_core.proofs.LinkTurning.{order_more}
use Rattle.go_machine_core.proofs.link.packages.order_of.Goals as goal

pub loop-number-preserved : goal.loop-number-preserved
loop-number-preserved c =
    let n = c.loop-number.number - 1 in
    let lt : n < length c.args.paths.now = omega (arith, c.loop-number-test.true, c.loop-number.auto.number) in
    let next : c.loop-number.number ≡ n + 1 = omega (arith, c.loop-number-test.true) in
    let d : Bor (List ℕ) = record { ref_ptr = (0, 0); now = [] } in
    let path : List ℕ = (get_or c.args.paths.now n d).now in
    order_more (λ (p : Bor (List ℕ)). p.now) c.args.paths.now n c.loop-number.number c.place_of-place.result d path c.loop-number.order.items c.insert.new.self.items lt next refl
    (c.place_of-place.ensures.value ∙ ap (λ (order : List ℕ). prefix_len (λ k. is_before (slice_index_or (map (λ (p : Bor (List ℕ)). p.now) c.args.paths.now) k []) path) order) c.deref.ensures.value) c.in_ok-insert.ensures.items c.loop-number.invariant
