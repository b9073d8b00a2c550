use Rattle.std.proofs.Common.{◌≡◌, length, ◌∙◌, arith}
use Rattle.go_scope_stack.proofs.Names.{taken_back, known_still}
use Rattle.go_scope_stack.proofs.sorted.SortedNames.insert.Goals as goal

pub invariant_of-self-in-Err : goal.invariant_of-self-in-Err
invariant_of-self-in-Err c =
    let it = c.self.inside in
    let cut = c.truncate.new.self.items in
    let count : c.len-before.result ≡ length it.names.items = omega (arith, c.len-before.ensures, it.names.ok.0) in
    let same = taken_back it.names.items c.append.new.names.items cut c.args.name.now c.len-before.result count c.in_ok-append.ensures.ok c.truncate.ensures.items in
    known_still it.known.keys c.note.new.known.keys it.names.items cut c.self.invariant same c.in-Err.ensures.kept

pub returns-in-Err-clause-kept : goal.returns-in-Err-clause-kept
returns-in-Err-clause-kept c =
    let it = c.self.inside in
    let count : c.len-before.result ≡ length it.names.items = omega (arith, c.len-before.ensures, it.names.ok.0) in
    taken_back it.names.items c.append.new.names.items c.truncate.new.self.items c.args.name.now c.len-before.result count c.in_ok-append.ensures.ok c.truncate.ensures.items ∙ c.self.view_is
