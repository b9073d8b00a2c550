use Rattle.std.proofs.Common.{List, ℕ, length, subst, sym, arith}
use Rattle.go_import_core.specs.list.Importing.{IsImportable}
use Rattle.go_import_core.proofs.ListJudged.{importable_within}
use Rattle.go_import_core.proofs.ListPicking.{AreThose, those_all, those_next, those_none}
use Rattle.go_import_core.proofs.list.listing.importable_among.Goals as goal

pub loop-number-init : goal.loop-number-init
loop-number-init c =
    subst (λ (l : List ℕ). AreThose (IsImportable c.args.packages.now c.args.own) 0 l) (sym c.new-numbers.ensures.items) (those_none (IsImportable c.args.packages.now c.args.own))

pub loop-number-preserved : goal.loop-number-preserved
loop-number-preserved c =
    those_next (IsImportable c.args.packages.now c.args.own) c.loop-number.number c.loop-number.numbers.items c.add_if.new.numbers.items c.in_ok-is_sought.is_sought c.in_ok-is_sought.ensures c.in_ok-add_if.ensures c.loop-number.invariant

pub returns-clause-exact : goal.returns-clause-exact
returns-clause-exact c =
    those_all (IsImportable c.args.packages.now c.args.own) (length c.args.packages.now) c.loop-number.number c.loop-number.numbers.items (omega arith) (λ m is. importable_within c.args.packages.now c.args.own m is) c.loop-number.invariant
