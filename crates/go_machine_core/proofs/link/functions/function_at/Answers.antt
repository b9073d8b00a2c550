use Rattle.std.proofs.Common.{◌≡◌, ℕ, length, map, get_or, ap, ◌∙◌, arith}
use Rattle.std.specs.Prelude.{option_map, slice_get}
use Rattle.std.proofs.lemmas.List.{length-map}
use Rattle.go_object_core.specs.declared.object.Object.{Object}
use Rattle.go_object_core.specs.Objects.{function_shown, object_shown}
use Rattle.go_machine_core.specs.link.Functions.{all_functions}
use Rattle.go_machine_core.proofs.LinkLaying.{function_behind, function_here}
use Rattle.go_machine_core.proofs.link.functions.function_at.Goals as goal

pub returns-then-rest-count : goal.returns-then-rest-count
returns-then-rest-count g c =
    let o = c.object-item.result in
    let same = ap (λ (x : Object g.row.D.Denot). length (object_shown x).functions) c.object-item.is in
    let many : c.len-count.result ≡ length (object_shown (get_or c.args.objects.now c.loop-object.object-index o)).functions = omega (arith, c.len-count.ensures, o.functions.ok.0, length-map o.functions.items function_shown, same) in
    function_here object_shown c.args.objects.now c.loop-object.object-index o c.loop-object-test.true c.loop-object.rest (slice_get (all_functions (map object_shown c.args.objects.now)) c.args.number) c.loop-object.invariant
    (option_map (λ f. function_shown f.now) c.function_in.result) (omega (arith, many, c.if-rest-count.true))
    (c.function_in.ensures ∙ ap (λ (x : Object g.row.D.Denot). slice_get (object_shown x).functions c.loop-object.rest) c.object-item.is)

pub loop-object-preserved : goal.loop-object-preserved
loop-object-preserved g c =
    let o = c.object-item.result in
    let same = ap (λ (x : Object g.row.D.Denot). length (object_shown x).functions) c.object-item.is in
    let many : c.len-count.result ≡ length (object_shown (get_or c.args.objects.now c.loop-object.object-index o)).functions = omega (arith, c.len-count.ensures, o.functions.ok.0, length-map o.functions.items function_shown, same) in
    function_behind object_shown c.args.objects.now c.loop-object.object-index o c.loop-object-test.true c.loop-object.rest (slice_get (all_functions (map object_shown c.args.objects.now)) c.args.number) c.loop-object.invariant
    c.len-count.result many (omega (arith, c.if-rest-count.false))
