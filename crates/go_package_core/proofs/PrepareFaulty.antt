-- Which types and aliases of a package have a fault since they reach themselves, and that there is one list of them.
use Rattle.std.proofs.Common.{◌≡◌, ◌++◌, Bool, true, false, List, refl, sym, ap, subst, ◌∙◌}
use Rattle.std.specs.Prelude.{◌↔◌, IsTrue, Contains}
use Rattle.std.proofs.lemmas.Bool.{true≢false}
use Rattle.std.proofs.lemmas.List.Elements.{Contains-append_left}
use Rattle.go_path_core.specs.text_core.declared.rule.Rule.TheVariants.{Y1}
use Rattle.go_term_core.specs.decl_core.declared.keys.DeclKey.{DeclKey}
use Rattle.go_term_core.specs.decl_core.declared.keys.DeclRef.{DeclRef}
use Rattle.go_term_core.specs.Terms.{Term}
use Rattle.go_type_core.specs.table_core.Entries.{Entry}
use Rattle.go_body_core.specs.typexpr_core.EntryEntries.{package_meanings}
use Rattle.go_body_core.specs.typexpr_core.EntryMeanings.{declared_alone}
use Rattle.go_body_core.specs.typexpr_core.AliasesLaws.{AreLoopedAliases, AreWithTargets, MeansOthers, looped_aliases}
use Rattle.go_body_core.specs.typexpr_core.AliasesLooping.{loops_agree}
use Rattle.go_body_core.specs.typexpr_core.AliasesOutlining.{types_have_targets}
use Rattle.go_report_core.specs.declared_core.Here.{far_type}
use Rattle.go_report_core.specs.declared.type_faults.places.PackageFault.{PackageFault}
use Rattle.go_report_core.proofs.TypeFaultsLoops.{entries_others, receivers_others}
use Rattle.go_report_core.proofs.TypeFaultsReaching.{looped_only, looped_there}
use Rattle.go_report_core.specs.type_faults.TypeFaults.{alias_faults, entries_faults, loops_faults, receivers_faults}
use Rattle.go_type_core.specs.declared.build.TypeFault.{TypeFault}
use Rattle.go_type_core.specs.Built.{looped_faults}
use Rattle.go_package_core.specs.prepare.Laws.{AliasesAreNames, IsOfLoop, LoopsAreFaults}
use Rattle.go_package_core.specs.prepare.Packages.{PackageIn, aliases_in, entries_in, outlines_in, shows_in, written_in}
use Rattle.go_package_core.specs.prepare.Types.{AreTypes}
use Rattle.go_package_core.proofs.PrepareMade.{all_outlines}

-- one list

same_bool : (a b : Bool) → IsTrue a ↔ IsTrue b → a ≡ b
same_bool true b h = sym (h.0 refl)
same_bool false true h = absurd (true≢false (sym (h.1 refl)))
same_bool false false h = refl

pub one_looped : (written : List Entry) (xs : List (DeclRef × Term)) (one other : List DeclRef) → AreLoopedAliases written xs one → AreLoopedAliases written xs other → one ≡ other
one_looped written xs one other h k =
    let same : (j : DeclKey) → h.0 j ≡ k.0 j = λ j. same_bool (h.0 j) (k.0 j) ((λ t. (k.1 j).1 ((h.1 j).0 t)), (λ t. (h.1 j).1 ((k.1 j).0 t))) in
    let listed : looped_aliases h.0 xs written ≡ looped_aliases k.0 xs written = λ i. looped_aliases (λ j. same j i) xs written in
    h.2 ∙ (listed ∙ sym k.2)

-- faults

module _ (p : PackageIn) (far own : List Entry) (faults : List PackageFault) (t : AreTypes p far own faults) (named : AliasesAreNames p) (outside : MeansOthers p.path (far_type p.others)) where
  abbrev loops : List TypeFault → List PackageFault
  loops ls = loops_faults (outlines_in p) (entries_in p) ls ++ alias_faults (outlines_in p) t.looped

  abbrev of_entries : List PackageFault
  of_entries = entries_faults (far ++ own) p.path (outlines_in p) (entries_in p)

  abbrev of_receivers : List PackageFault
  of_receivers = receivers_faults (far ++ own) (package_meanings (declared_alone p.shows) p.path p.blocks) (package_meanings (shows_in p) p.path p.blocks) p.path (outlines_in p)

  abbrev marked : List TypeFault
  marked = looped_faults t.built.looped 0 (entries_in p)

  faults_as : faults ≡ (loops marked ++ of_entries) ++ of_receivers
  faults_as = t.faults_are ∙ ap (λ ls. (loops ls ++ of_entries) ++ of_receivers) t.built.faults_are

  with_targets : AreWithTargets p.path (far_type p.others) (aliases_in p) (written_in p) (entries_in p)
  with_targets = types_have_targets p.shows (far_type p.others) p.path p.blocks (outlines_in p) (all_outlines (outlines_in p) p.trees refl) named

  pub found_of : (f : PackageFault) → IsOfLoop p f → Contains faults f
  found_of f h =
      let here : Contains (loops marked) f =
      looped_there p.path (far_type p.others) (aliases_in p) (written_in p) (entries_in p) (outlines_in p) outside with_targets loops_agree t.built.looped t.built.looped_are t.looped t.looped_are h.0 h.1 h.2 h.3 f h.4 in
      subst (λ fs. Contains fs f) (sym faults_as) (Contains-append_left (loops marked ++ of_entries) of_receivers f (Contains-append_left (loops marked) of_entries f here))

  pub only_of : (f : PackageFault) → Contains faults f → f.rule ≡ Y1 → IsOfLoop p f
  only_of f h is =
      looped_only p.path (far_type p.others) (aliases_in p) (written_in p) (entries_in p) (outlines_in p) outside with_targets loops_agree t.built.looped t.built.looped_are t.looped t.looped_are of_entries of_receivers
      (entries_others (far ++ own) p.path (outlines_in p) (entries_in p))
      (receivers_others (far ++ own) (package_meanings (declared_alone p.shows) p.path p.blocks) (package_meanings (shows_in p) p.path p.blocks) p.path (outlines_in p))
      f (subst (λ fs. Contains fs f) faults_as h) is

pub loops_are_faults : LoopsAreFaults
loops_are_faults = record {
  found = λ p far own faults t named outside f h. found_of p far own faults t named outside f h;
  only = λ p far own faults t named outside f h is. only_of p far own faults t named outside f h is;
}
