use Rattle.std.proofs.Common.{◌-◌, map, take, sym, ap, ◌∙◌}
use Rattle.go_scope_stack.specs.Blocks.{found_in, or_else, in_block, block_of}
use Rattle.go_scope_stack.proofs.Tables.{found_in_more, one_less, less_within, less_at_most}
use Rattle.go_scope_stack.proofs.find_among.Goals as goal

pub returns-in-Some : goal.returns-in-Some
returns-in-Some c =
    let i = c.loop-i.i - 1 in
    let n = one_less c.loop-i.i c.loop-i-test.true in
    let step = found_in_more block_of c.args.blocks.now i c.index-blocks-i.result c.args.name.now (less_within c.loop-i.i _ c.loop-i-test.true c.loop-i.invariant.in_range) in
    let here = ap (λ b. or_else (in_block (block_of b) c.args.name.now) (found_in (map block_of (take i c.args.blocks.now)) c.args.name.now)) (sym c.index-blocks-i.is) in
    let found = ap (λ o. or_else o (found_in (map block_of (take i c.args.blocks.now)) c.args.name.now)) (sym c.find_in.ensures ∙ c.in-Some.is) in
    sym (c.loop-i.invariant.rest ∙ (ap (λ k. found_in (map block_of (take k c.args.blocks.now)) c.args.name.now) n ∙ (step ∙ (here ∙ found))))

pub loop-i-preserved : goal.loop-i-preserved
loop-i-preserved c =
    let i = c.loop-i.i - 1 in
    let n = one_less c.loop-i.i c.loop-i-test.true in
    let step = found_in_more block_of c.args.blocks.now i c.index-blocks-i.result c.args.name.now (less_within c.loop-i.i _ c.loop-i-test.true c.loop-i.invariant.in_range) in
    let here = ap (λ b. or_else (in_block (block_of b) c.args.name.now) (found_in (map block_of (take i c.args.blocks.now)) c.args.name.now)) (sym c.index-blocks-i.is) in
    let found = ap (λ o. or_else o (found_in (map block_of (take i c.args.blocks.now)) c.args.name.now)) (sym c.find_in.ensures ∙ c.in_default.is) in
    record { in_range = less_at_most c.loop-i.i _ c.loop-i.invariant.in_range; rest = c.loop-i.invariant.rest ∙ (ap (λ k. found_in (map block_of (take k c.args.blocks.now)) c.args.name.now) n ∙ (step ∙ (here ∙ found))) }
