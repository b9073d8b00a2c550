use Rattle.std.proofs.Common.{rules, ◌≡◌, ◌++◌, length, sym, ap, ◌∙◌, append-nil}
use Rattle.std.specs.Iterator.Adapters.{zip_first, zip_second}
use Rattle.std.specs.Slice.Iter.{iter_rest}
use Rattle.go_names_core.proofs.ZipLemmas.{zip_over, faults_over}
use Rattle.go_names_core.proofs.declaring.add_second.Goals as goal

pub returns : goal.returns
returns c =
    let first : iter_rest (zip_first c.into_iter-ident-iterator.result) ≡ c.args.idents.now = search rules in
    let second : iter_rest (zip_second c.into_iter-ident-iterator.result) ≡ c.args.shorts.now = search rules in
    let over = zip_over c.args.idents.now c.args.shorts.now c.loop-ident.yielded c.into_iter-ident-iterator.result c.loop-ident.ident-iterator c.next.new.self c.next.result first second c.loop-ident.yielded_by c.in-None.is c.next.ensures.steps in
    sym (c.loop-ident.invariant ∙ (ap (λ l. c.loop-ident.faults.items ++ l) (faults_over c.args.is_short c.args.shorts.now c.args.idents.now (length c.loop-ident.yielded) over) ∙ append-nil c.loop-ident.faults.items))
