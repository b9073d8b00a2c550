use Rattle.std.proofs.Common.{◌≡◌, ◌++◌, subst}
use Rattle.std.specs.Prelude.{Vec}
use Rattle.std.specs.declared.alloc.Global.{Global}
use Rattle.std.specs.List.{flat_map}
use Rattle.std.specs.Vec.Iter.{into_iter_items}
use Rattle.go_package_core.specs.declared.checked.FileAnswers.{FileAnswers}
use Rattle.go_package_core.proofs.Corresponding.{appended}
use Rattle.go_package_core.proofs.split.joined.Goals as goal

pub loop-piece-preserved : goal.loop-piece-preserved
loop-piece-preserved c =
    let at = c.loop-piece in
    let items = λ (x : Vec FileAnswers Global). x.items in
    let all = flat_map items c.args.pieces.items in
    appended items c.in-Some.piece (into_iter_items c.next.new.self) at.files.items c.append.new.self.items all c.in_ok-append.ensures.items (subst (λ l. at.files.items ++ flat_map items l ≡ all) c.in-Some.ensures.steps.0 at.invariant)
