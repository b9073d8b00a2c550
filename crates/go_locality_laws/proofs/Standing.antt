-- The input of a package stands over the one that it had in another workspace.
use Rattle.std.proofs.Common.{◌≡◌, ℕ, suc, List, [], ◌∷◌, Option, refl, sym, ap, subst, ◌∙◌}
use Rattle.go_graph_core.specs.declared.imports.ImportAt.{ImportAt}
use Rattle.go_graph_core.specs.declared.imports.ImportOutcome.{ImportOutcome}
use Rattle.go_graph_core.specs.declared.imports.ImportOutcome.TheVariants.{Package, Refused}
use Rattle.go_graph_core.specs.Imports.{IsOutcome}
use Rattle.go_graph_core.specs.Lists.{AllNumbered}
use Rattle.go_graph_core.specs.Packages.{Trees, trees_of}
use Rattle.go_graph_core.specs.Workspaces.{PackageModel, IsWorkspace}
use Rattle.go_names_core.specs.block_core.declared.imports.Imported.{Imported}
use Rattle.go_names_core.specs.block_core.declared.imports.Imported.TheVariants as given
use Rattle.go_names_core.specs.block_core.Exports.{ExportsModel}
use Rattle.go_names_core.specs.block_core.Naming.{AreInFile, AreInPackage, IsGiven, file_specs, import_at}
use Rattle.go_body_core.specs.table_core.Tables.{PackageTypesModel}
use Rattle.go_body_core.specs.typexpr_core.EntryAmong.{Among, among_from, among_to}
use Rattle.go_report_core.specs.summary_core.Summaries.{SummaryModel, IsOfOne, path_of}
use Rattle.go_emit_core.specs.package_core.PackagePartInputs.{InputModel}
use Rattle.go_emit_core.specs.package_core.PackagePartParts.{PartModel}
use Rattle.go_snap_core.specs.whole_workspace.Inputs.{ComesTo, IsInputAt, ReachesPackage, Shown, Tells}
use Rattle.go_snap_core.specs.whole_workspace.Known.{IsImportedPath}
use Rattle.go_snap_core.specs.whole_workspace.mirrors.Steps.{AreRight}
use Rattle.go_snap_core.proofs.WholeWorkspaceLists.{zip_to}
use Rattle.go_snap_core.proofs.WholeWorkspaceOrder.{reaches_next}
use Rattle.go_snap_core.proofs.WholeWorkspaceParts.{IsToldBy, of_one, told_apart, told_by, told_once}
use Rattle.go_snap_core.proofs.WholeWorkspaceTheirs.{imports_lead, one_import, one_imported, passes}
use Rattle.go_locality_laws.specs.Alike.{HasEnough, StandsOver}
use Rattle.go_locality_laws.specs.Beside.{StaysBeside, TellsTypes}
use Rattle.go_locality_laws.specs.ImportLaws.{InputsStandOver}

module _ (qs ps : List PackageModel) (was now : List (Option PartModel)) (n : ℕ) (i j : InputModel) (well : IsWorkspace qs) (again : IsWorkspace ps) (right : AreRight qs was) (made : AreRight ps now)
    (stays : StaysBeside qs ps was now n) (first : IsInputAt qs was n i) (other : IsInputAt ps now n j) (source : i.source ≡ j.source) where
  -- what a package tells that is reached here
  record Reached (m : ℕ) : Type 0 where
    pub summary : SummaryModel
    pub among : Among j.reached summary
    pub tells : Tells now m summary

  reached_here : (m : ℕ) → ReachesPackage ps n m → Reached m
  reached_here m r =
      let told = other.input.reached in
      let found = zip_to (Tells now) told.numbers j.reached m told.told (among_from told.numbers m ((told.reached m).1 r)) in
      record { summary = found.0; among = found.1; tells = found.2 }

  -- what imports come to

  module _ (at : ImportAt) (m : ℕ) (here : at.«package» ≡ n) (is : IsOutcome qs at (Package m)) where
    judged : IsOutcome ps at (Package m)
    judged = stays.outcomes at (Package m) here is

    here_reached : Reached m
    here_reached = reached_here m (subst (λ k. ReachesPackage ps k m) here (reaches_next ps at m judged))

    told_again : (s : SummaryModel) → Tells was m s → Tells now m s
    told_again s tells =
        let back = stays.imported at m here_reached.summary here judged here_reached.tells in
        subst (Tells now m) (sym (told_once qs was well right m s here_reached.summary tells back)) here_reached.tells

  given_again : (at : ImportAt) (o : ImportOutcome) (x : Imported) → at.«package» ≡ n → IsOutcome qs at o → IsGiven (Shown was) o x → IsGiven (Shown now) o x
  given_again at (Package m) (given.«Package» e) here is h = record { summary = h.summary; told = told_again at m here is h.summary h.told; is = h.is }
  given_again at (Package m) (given.Refused rule) here is h = h
  given_again at (Refused rule) (given.«Package» e) here is h = h
  given_again at (Refused rule) (given.Refused more) here is h = h

  comes_again : (at : ImportAt) (x : Imported) → at.«package» ≡ n → ComesTo qs was at x → ComesTo ps now at x
  comes_again at x here h = record { outcome = h.outcome; judged = stays.outcomes at h.outcome here h.judged; given = given_again at h.outcome x here h.judged h.given }

  file_again : {S : Type 0} (file k : ℕ) (specs : List S) (xs : List Imported) → AllNumbered (λ l spec x. ComesTo qs was (import_at n file l) x) k specs xs → AllNumbered (λ l spec x. ComesTo ps now (import_at n file l) x) k specs xs
  file_again file k [] [] h = h
  file_again file k [] (x ∷ xs) h = h
  file_again file k (s ∷ ss) [] h = h
  file_again file k (s ∷ ss) (x ∷ xs) h = (comes_again (import_at n file k) x refl h.0, file_again file (suc k) ss xs h.1)

  imports_again : (file : ℕ) (ts : Trees) (fs : List (List Imported)) → AllNumbered (λ l t xs. AreInFile (ComesTo qs was) n l t.1 xs) file ts fs → AllNumbered (λ l t xs. AreInFile (ComesTo ps now) n l t.1 xs) file ts fs
  imports_again file [] [] h = h
  imports_again file [] (xs ∷ fs) h = h
  imports_again file (t ∷ ts) [] h = h
  imports_again file (t ∷ ts) (xs ∷ fs) h = (file_again file 0 (file_specs t.1) xs h.0, imports_again (suc file) ts fs h.1)

  shown_once : (m : ℕ) (e f : ExportsModel) → Shown now m e → Shown now m f → e ≡ f
  shown_once m e f a b = a.is ∙ (ap (λ (s : SummaryModel). s.exports) (told_once ps now again made m a.summary b.summary a.told b.told) ∙ sym b.is)

  one_outcome : (at : ImportAt) (x y : Imported) → ComesTo ps now at x → ComesTo ps now at y → x ≡ y
  one_outcome at x y a b = one_import (Shown now) shown_once ps at a.outcome b.outcome x y again a.judged b.judged a.given b.given

  imports_same : i.imports ≡ j.imports
  imports_same =
      one_imported (ComesTo ps now) one_outcome n (trees_of j.source.1) i.imports j.imports
      (subst (λ (p : PackageModel). AreInPackage (ComesTo ps now) n (trees_of p.1) i.imports) source (imports_again 0 (trees_of i.source.1) i.imports first.input.imports)) other.input.imports

  -- what is reached

  module _ (s : SummaryModel) (h : Among i.reached s) where
    by : IsToldBy qs was well right n i first.input s
    by = told_by qs was well right n i first.input s h

    abbrev m : ℕ
    m = by.number

    reached : ReachesPackage ps n m
    reached = stays.reaches m by.reached

    found : Reached m
    found = reached_here m reached

    abbrev t : SummaryModel
    t = found.summary

    old : TellsTypes was m t
    old = stays.types m t reached found.tells

    types_same : s.types ≡ t.types
    types_same = ap (λ (x : SummaryModel). x.types) (told_once qs was well right m s old.0 by.tells old.1) ∙ old.2

    own : IsOfOne s
    own = subst IsOfOne (sym by.tells.is) (of_one qs was well right m by.tells.of_part by.tells.there)

    own_here : IsOfOne t
    own_here = subst IsOfOne (sym found.tells.is) (of_one ps now again made m found.tells.of_part found.tells.there)

    path_same : path_of s ≡ path_of t
    path_same = sym own.types ∙ (ap (λ (x : PackageTypesModel). x.path) types_same ∙ own_here.types)

    -- all of it, where an import comes to it
    all_same : IsImportedPath i.imports (path_of s) → s ≡ t
    all_same imported =
        let l = imports_lead (ComesTo qs was) n (trees_of i.source.1) i.imports (path_of s) first.input.imports imported in
        let p = passes (Shown was) qs l.at l.come.outcome l.shown l.come.judged l.come.given in
        let same : path_of p.shows.summary ≡ path_of s = sym (ap (λ (e : ExportsModel). e.path) p.shows.is) ∙ sym l.is in
        let number : p.to ≡ m = told_apart qs was well right p.to m p.shows.summary s p.shows.told by.tells same in
        let is : IsOutcome qs l.at (Package m) = subst (λ (k : ℕ). IsOutcome qs l.at (Package k)) number p.judged in
        told_once qs was well right m s t by.tells (stays.imported l.at m t l.from (stays.outcomes l.at (Package m) l.from is) found.tells)

    enough : HasEnough i.imports s j.reached
    enough = record {
      summary = t;
      there = among_to j.reached t found.among;
      enough = record {
        path = path_same;
        types = types_same;
        exports = λ imported. ap (λ (x : SummaryModel). x.exports) (all_same imported);
        faces = λ imported. ap (λ (x : SummaryModel). x.faces) (all_same imported);
      };
    }

  pub stands_over : StandsOver i j
  stands_over = record { source = source; imports = imports_same; told = λ s h. enough s (among_from i.reached s h) }

pub inputs_stand : InputsStandOver
inputs_stand = λ qs ps was now n i j well again right made stays first other source. stands_over qs ps was now n i j well again right made stays first other source
