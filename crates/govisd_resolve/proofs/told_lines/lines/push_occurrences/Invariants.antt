use Rattle.std.proofs.Common.{◌≡◌, ◌++◌}
use Rattle.govisd_resolve.specs.told_lines.Lines.{occurrence_lines}
use Rattle.govisd_resolve.proofs.told_lines.lines.push_occurrences.Given as goal

abbrev pub invariant-loop-occ : goal.invariant-loop-occ
invariant-loop-occ l =
    l.out.items ++ occurrence_lines l.name l.places l.occ-iterator.a.rest.now l.occ-iterator.b.rest.now
    ≡ l.initial.out.items ++ occurrence_lines l.name l.places l.fn.occs l.fn.answers
