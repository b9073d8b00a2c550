-- The faults of packages are one list.
use Rattle.std.proofs.Common.{◌≡◌, List, Option, arith}
use Rattle.go_path_core.specs.text_core.Rules.{rule_number}
use Rattle.go_body_core.specs.typexpr_core.EntryAmong.{among_from, among_to}
use Rattle.go_graph_core.specs.Workspaces.{PackageModel}
use Rattle.go_emit_core.specs.package_core.PackagePartParts.{ContentOf}
use Rattle.go_snap_core.specs.declared.fault.PlacedFault.{PlacedFault}
use Rattle.go_snap_core.specs.Faults.{AreFaults, IsPlacedBefore, InPackage, InFile, ByOffset, ByRule}
use Rattle.go_snap_core.proofs.Rising.{ordered_same}
use Rattle.go_snap_core.proofs.MakeSearching.{never_less}

-- no two faults stand each before the other
pub never_both : (f g : PlacedFault) → IsPlacedBefore f g → IsPlacedBefore g f → ⊥
never_both f g (InPackage a) (InPackage b) = omega (arith, a, b)
never_both f g (InPackage a) (InFile p b) = omega (arith, a, p)
never_both f g (InPackage a) (ByOffset p q b) = omega (arith, a, p)
never_both f g (InPackage a) (ByRule p q r b) = omega (arith, a, p)
never_both f g (InFile p a) (InPackage b) = omega (arith, p, b)
never_both f g (InFile p a) (InFile q b) = omega (arith, a, b)
never_both f g (InFile p a) (ByOffset q r b) = omega (arith, a, r)
never_both f g (InFile p a) (ByRule q r s b) = omega (arith, a, r)
never_both f g (ByOffset p q a) (InPackage b) = omega (arith, p, b)
never_both f g (ByOffset p q a) (InFile r b) = omega (arith, q, b)
never_both f g (ByOffset p q a) (ByOffset r s b) = omega (arith, a, b)
never_both f g (ByOffset p q a) (ByRule r s t b) = omega (arith, a, t)
never_both f g (ByRule p q r a) (InPackage b) = omega (arith, p, b)
never_both f g (ByRule p q r a) (InFile s b) = omega (arith, q, b)
never_both f g (ByRule p q r a) (ByOffset s t b) = omega (arith, r, b)
never_both f g (ByRule p q r a) (ByRule s t u b) = never_less (rule_number f.rule) (rule_number g.rule) a b

pub one_faults : (ps : List PackageModel) (cs : List (Option ContentOf)) (fs gs : List PlacedFault) → AreFaults ps cs fs → AreFaults ps cs gs → fs ≡ gs
one_faults ps cs fs gs h k =
    ordered_same IsPlacedBefore never_both fs gs h.ordered k.ordered
    (λ f a. among_from gs f ((k.same f).1 ((h.same f).0 (among_to fs f a))))
    (λ f a. among_from fs f ((h.same f).1 ((k.same f).0 (among_to gs f a))))
