-- Laws of what the check of a package looks at in other packages.
use Rattle.std.specs.Prelude.{Contains}
use Rattle.go_snap_core.specs.whole_workspace.LocalLaws.{CheckIsLocal}
use Rattle.go_snap_core.proofs.WholeWorkspaceLedTo.{alike_itself, given_over, gives_inside, one_given}

pub check_local : CheckIsLocal
check_local = record {
  same = λ paths p one other c among alike given. given_over (Contains paths) p one other c among.placed among.own among.binds among.mentions alike given;
  answer = λ paths p one other c d among alike given found. one_given (Contains paths) p one other c d among.placed among.own among.binds among.mentions alike given found;
  inside = λ paths p k c among given. gives_inside (Contains paths) p k k c among.placed among.own among.binds among.mentions (alike_itself (Contains paths) k) given;
}
