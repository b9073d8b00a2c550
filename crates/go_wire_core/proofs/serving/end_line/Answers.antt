use Rattle.std.proofs.Common.{◌≡◌, ◌<◌, ◌≤◌, ◌++◌, length, subst, arith, rules}
use Rattle.std.proofs.lemmas.List.{length-append}
use Rattle.go_wire_core.specs.Lines.{most_bytes}
use Rattle.go_wire_core.specs.Steps.{steps_of}
use Rattle.go_wire_core.specs.mirrors.Serving.{IsStop}
use Rattle.go_wire_core.proofs.InOrder.{long_ends, stop_ends}
use Rattle.go_wire_core.proofs.serving.end_line.Goals as goal

pub returns-then-part-len-clause-err : goal.returns-then-part-len-clause-err
returns-then-part-len-clause-err g c =
    let long : most_bytes < length (c.args.begun.now.items ++ c.args.part.now) = omega (arith, length-append c.args.begun.now.items c.args.part.now) in
    λ more. long_ends g.D.Desk.answers c.refuse_long.result c.args.numbered _ more c.args.desk.now _ _ long c.refuse_long.ensures

pub returns-in-Err-clause-err : goal.returns-in-Err-clause-err
returns-in-Err-clause-err g c =
    let short : length (c.args.begun.now.items ++ c.args.part.now) ≤ most_bytes = omega (arith, length-append c.args.begun.now.items c.args.part.now, c.requires.line.short) in
    let whole : c.as_slice.result.now ≡ c.args.begun.now.items ++ c.args.part.now = search rules in
    let stop =
    subst (λ l. IsStop c.in-Err.end g.D.Desk.answers (steps_of c.args.numbered l) c.args.desk.now c.serve_line.new.desk (g.W.Write.contents c.args.writer.now) (g.W.Write.contents c.serve_line.new.writer)) whole c.in-Err.ensures.err in
    λ more. stop_ends g.D.Desk.answers c.in-Err.end c.args.numbered (c.args.begun.now.items ++ c.args.part.now) more c.args.desk.now c.serve_line.new.desk _ _ short stop
