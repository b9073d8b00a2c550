use Rattle.std.proofs.Common.{◌≡◌, ◌∙◌, ap, map}
use Rattle.go_scope_stack.specs.Blocks.{block_of, found_in}
use Rattle.go_scope_stack.proofs.Innermost.{answer_innermost, innermost_found, answer_none}
use Rattle.go_scope_stack.proofs.OpenBlocks.find.Goals as goal

pub returns-clause-innermost : goal.returns-clause-innermost
returns-clause-innermost c =
    let value : c.find_among.result ≡ found_in c.args.self.now c.args.name.now = c.find_among.ensures ∙ (ap (λ blocks. found_in (map block_of blocks) c.args.name.now) c.as_slice.ensures.value ∙ ap (λ blocks. found_in blocks c.args.name.now) c.self.view_is) in
    answer_innermost c.find_among.result c.args.self.now c.args.name.now value

pub returns-clause-only : goal.returns-clause-only
returns-clause-only c = λ id h.
    let value : c.find_among.result ≡ found_in c.args.self.now c.args.name.now = c.find_among.ensures ∙ (ap (λ blocks. found_in (map block_of blocks) c.args.name.now) c.as_slice.ensures.value ∙ ap (λ blocks. found_in blocks c.args.name.now) c.self.view_is) in
    value ∙ innermost_found c.args.self.now c.args.name.now id h

pub returns-clause-none : goal.returns-clause-none
returns-clause-none c =
    let value : c.find_among.result ≡ found_in c.args.self.now c.args.name.now = c.find_among.ensures ∙ (ap (λ blocks. found_in (map block_of blocks) c.args.name.now) c.as_slice.ensures.value ∙ ap (λ blocks. found_in blocks c.args.name.now) c.self.view_is) in
    answer_none c.find_among.result c.args.self.now c.args.name.now value
