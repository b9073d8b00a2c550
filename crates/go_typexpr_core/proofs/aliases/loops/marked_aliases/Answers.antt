use Rattle.std.proofs.Common.{inl, inr}
use Rattle.std.proofs.lemmas.Slice.Zip.{Zip-more, either_empty_from_Zip}
use Rattle.go_typexpr_core.proofs.AliasesMaking.{marked_step, no_entries, no_marks}
use Rattle.go_typexpr_core.proofs.aliases.loops.marked_aliases.Goals as goal

pub loop-is_marked-preserved : goal.loop-is_marked-preserved
loop-is_marked-preserved c =
    let more = Zip-more c.loop-is_marked.is_marked-iterator c.next.new.self c.next.result (c.in-Some.is_marked, c.in-Some.entry) c.in-Some.is c.next.ensures.steps in
    marked_step c.args.aliases.now _ _ _ _ c.in-Some.is_marked.now c.in-Some.entry.now _ _ _ more.0 more.1 c.in_ok-add_marked.ensures c.loop-is_marked.invariant

pub returns : goal.returns
returns c =
    elim (either_empty_from_Zip c.loop-is_marked.is_marked-iterator c.next.new.self c.next.result c.in-None.is c.next.ensures.steps) [
      | inl e ↦ no_marks _ _ _ _ _ e c.loop-is_marked.invariant
      | inr e ↦ no_entries _ _ _ _ _ e c.loop-is_marked.invariant
    ]
