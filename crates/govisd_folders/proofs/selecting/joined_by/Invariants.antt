use Rattle.std.proofs.Common.{◌≡◌, ◌++◌}
use Rattle.govisd_folders.specs.Selecting.{joined_by}
use Rattle.govisd_folders.proofs.selecting.joined_by.Given as goal

abbrev pub invariant-loop-cause : goal.invariant-loop-cause
invariant-loop-cause l = l.joined.items ++ joined_by l.cause-iterator.a.rest.now l.cause-iterator.b.rest.now ≡ joined_by l.fn.causes l.fn.repeated
