-- Parts that are made each from its own input are what the trees of all packages give.
use Rattle.std.proofs.Common.{◌≡◌, ◌≢◌, ℕ, ◌⊎◌, inl, inr, List, ◌∷◌, map, Option, Some, refl, sym, ap, subst, ◌∙◌, arith}
use Rattle.std.specs.Prelude.{slice_get, AllPairs, Contains}
use Rattle.std.specs.List.{AllZip}
use Rattle.std.proofs.lemmas.List.Kept.{AllPairs-from_increasing}
use Rattle.go_graph_core.specs.Packages.{trees_of}
use Rattle.go_graph_core.specs.Plans.{PlanModel, IsPlan}
use Rattle.go_graph_core.specs.Workspaces.{PackageModel, IsWorkspace}
use Rattle.go_names_core.specs.block_core.Blocks.{BlocksModel, AreBlocks}
use Rattle.go_names_core.specs.block_core.Naming.{package_named}
use Rattle.go_names_core.specs.block_core.Exports.{ExportsModel}
use Rattle.go_body_core.specs.typexpr_core.EntryShowing.{shown_in}
use Rattle.go_body_core.specs.typexpr_core.EntryAmong.{Among, among_from, among_map, among_to, map_among}
use Rattle.go_report_core.specs.summary_core.Summaries.{SummaryModel, IsOfOne, path_of}
use Rattle.go_report_core.specs.summary_core.Views.{exports_told, faces_told, types_told}
use Rattle.go_snap_core.specs.whole_workspace.Known.{KnownAlike}
use Rattle.go_snap_core.specs.whole_workspace.LocalLaws.{CheckIsLocal, ImportsBindTheirs, StandsAmong}
use Rattle.go_emit_core.specs.package_core.PackagePartInputs.{InputModel, path_in}
use Rattle.go_emit_core.specs.package_core.PackagePartParts.{ContentOf, IsMade, IsPart, PartModel, SeenOf, package_seen, seen_by, seen_with}
use Rattle.go_snap_core.specs.whole_workspace.Inputs.{ComesTo, IsInputOf, ReachesPackage, Shown, Tells}
use Rattle.go_snap_core.specs.whole_workspace.mirrors.Steps.{AreRight}
use Rattle.go_snap_core.proofs.WholeWorkspaceLists.{all_from_among, one_at, zip_apart, zip_of, zip_to}
use Rattle.go_snap_core.proofs.WholeWorkspaceTold.{AreWell, IsTold, IsToldOf, NoneIsOf, TellAlike, known_alike, known_by, stands, told_wider}
use Rattle.go_snap_core.proofs.WholeWorkspaceOrder.{along, reaches_next, reaches_on, reaches_others}
use Rattle.go_snap_core.proofs.WholeWorkspaceBeside.{one_place}
use Rattle.go_snap_core.proofs.WholeWorkspaceTheirs.{Leads, imports_lead, passes}
use Rattle.go_snap_core.proofs.WholeWorkspaceChecks.{faces_own, trees_are_placed, types_own}

-- the paths of a package and of those that it reaches
abbrev pub reach_paths : InputModel → List (List ℕ)
reach_paths i = path_in i ∷ map path_of i.reached

-- what a part tells mentions types of its package and of those that it reaches
abbrev pub StaysInside : PartModel → Type 0
StaysInside part = IsTold (Contains (reach_paths part.input)) part.content.summary

module _ (ps : List PackageModel) (parts : List (Option PartModel)) (well : IsWorkspace ps) (right : AreRight ps parts) where
  pub told_once : (m : ℕ) (s t : SummaryModel) → Tells parts m s → Tells parts m t → s ≡ t
  told_once m s t x y =
      let e : x.of_part ≡ y.of_part = (let o : Some x.of_part ≡ Some y.of_part = one_at parts m (Some x.of_part) (Some y.of_part) x.there y.there in cc) in
      x.is ∙ (ap (λ (p : PartModel). p.content.summary) e ∙ sym y.is)

  -- what a package tells is of its path
  pub path_told : (m : ℕ) (s : SummaryModel) (t : Tells parts m s) → path_of s ≡ t.of_part.input.source.0
  path_told m s t = ap path_of (t.is ∙ (right m t.of_part t.there).made.summary)

  pub told_apart : (m l : ℕ) (s t : SummaryModel) → Tells parts m s → Tells parts l t → path_of s ≡ path_of t → m ≡ l
  told_apart m l s t x y same =
      one_place ps m l x.of_part.input.source y.of_part.input.source well (right m x.of_part x.there).numbered (right l y.of_part y.there).numbered
      (sym (path_told m s x) ∙ (same ∙ path_told l t y))

  pub of_one : (m : ℕ) (part : PartModel) → slice_get parts m ≡ Some (Some part) → IsOfOne part.content.summary
  of_one m part h =
      let r = right m part h in
      subst IsOfOne (sym r.made.summary)
      (record {
        types = refl;
        faces = faces_own (package_seen part.input part.content.blocks (seen_by part.input)) (types_told part.input.reached) r.made.checked r.made.is_checked;
        own = types_own (package_seen part.input part.content.blocks (seen_by part.input)) (types_told part.input.reached) r.made.checked r.made.is_checked;
      })

  -- what packages of different numbers tell
  pub well_told : (numbers : List ℕ) (ss : List SummaryModel) → AllPairs (λ m l. m ≢ l) numbers → AllZip (Tells parts) numbers ss → AreWell ss
  well_told numbers ss apart told = record {
    apart = zip_apart (Tells parts) (λ m l. m ≢ l) (λ s t. path_of s ≡ path_of t → ⊥) numbers ss (λ m l s t x y ne same. ne (told_apart m l s t x y same)) apart told;
    own = all_from_among IsOfOne ss (λ s at. (let t = zip_of (Tells parts) numbers ss s told at in subst IsOfOne (sym t.2.is) (of_one t.0 t.2.of_part t.2.there)));
  }

  -- the input of a package

  module _ (n : ℕ) (i : InputModel) (input : IsInputOf ps parts n i.source i) where
    pub told_to : (m : ℕ) (s : SummaryModel) → ReachesPackage ps n m → Tells parts m s → Among i.reached s
    told_to m s r t =
        let among = among_from input.reached.numbers m ((input.reached.reached m).1 r) in
        let found = zip_to (Tells parts) input.reached.numbers i.reached m input.reached.told among in
        subst (Among i.reached) (told_once m found.0 s found.2 t) found.1

    pub record IsToldBy (s : SummaryModel) : Type 0 where
      pub number : ℕ
      pub reached : ReachesPackage ps n number
      pub tells : Tells parts number s

    pub told_by : (s : SummaryModel) → Among i.reached s → IsToldBy s
    told_by s h =
        let found = zip_of (Tells parts) input.reached.numbers i.reached s input.reached.told h in
        record { number = found.0; reached = (input.reached.reached found.0).0 (among_to input.reached.numbers found.0 found.1); tells = found.2 }

    pub well_reached : AreWell i.reached
    well_reached =
        well_told input.reached.numbers i.reached
        (λ j k d lt below. (let less = AllPairs-from_increasing input.reached.numbers input.reached.rising j k d lt below in λ e. omega (arith, less, e)))
        input.reached.told

    -- what is in the paths
    in_paths : (s : SummaryModel) → Among i.reached s → Contains (reach_paths i) (path_of s)
    in_paths s h = among_to (reach_paths i) (path_of s) (inr (map_among path_of i.reached (path_of s) s h refl))

    -- its imports come to what it reaches
    imports_inside : (path : List ℕ) → Leads (ComesTo ps parts) n path → Contains (reach_paths i) path
    imports_inside path l =
        let p = passes (Shown parts) ps l.at l.come.outcome l.shown l.come.judged l.come.given in
        let reached = subst (λ k. ReachesPackage ps k p.to) l.from (reaches_next ps l.at p.to p.judged) in
        let s = p.shows.summary in
        let there : path_of s ≡ path = sym (ap (λ (e : ExportsModel). e.path) p.shows.is) ∙ sym l.is in
        subst (Contains (reach_paths i)) there (in_paths s (told_to p.to s reached p.shows.told))

    module _ (bind : ImportsBindTheirs) (plan : PlanModel) (planned : IsPlan ps plan) (numbered : slice_get ps n ≡ Some i.source)
        (inside : (m : ℕ) (part : PartModel) → ReachesPackage ps n m → slice_get parts m ≡ Some (Some part) → StaysInside part) where
      -- the summary of a package that it reaches mentions types of the packages that it reaches
      told_inside : (s : SummaryModel) → Among i.reached s → IsTold (Contains (reach_paths i)) s
      told_inside s h =
          let by = told_by s h in
          let part = by.tells.of_part in
          let r = right by.number part by.tells.there in
          let wider : (path : List ℕ) → Contains (reach_paths part.input) path → Contains (reach_paths i) path
          = λ path c. widen path (among_from (reach_paths part.input) path c) in
          subst (IsTold (Contains (reach_paths i))) (sym by.tells.is) (told_wider (Contains (reach_paths part.input)) (Contains (reach_paths i)) wider part.content.summary (inside by.number part by.reached by.tells.there))
        where
          widen : (path : List ℕ) → Among (reach_paths (told_by s h).tells.of_part.input) path → Contains (reach_paths i) path
          widen path (inl e) = subst (Contains (reach_paths i)) (path_told (told_by s h).number s (told_by s h).tells ∙ e) (in_paths s h)
          widen path (inr a) =
              let by = told_by s h in
              let part = by.tells.of_part in
              let r = right by.number part by.tells.there in
              let t = among_map path_of part.input.reached path a in
              let deeper = zip_of (Tells parts) r.input.reached.numbers part.input.reached t.0 r.input.reached.told t.1 in
              let reached = (r.input.reached.reached deeper.0).0 (among_to r.input.reached.numbers deeper.0 deeper.1) in
              subst (Contains (reach_paths i)) t.2 (in_paths t.0 (told_to deeper.0 t.0 (reaches_on ps n by.number deeper.0 by.reached reached) deeper.2))

      -- none of what it reaches is of its own path
      pub none_reached : NoneIsOf i.reached (path_in i)
      none_reached =
          all_from_among (λ s. path_in i ≡ path_of s → ⊥) i.reached
          (λ s h same. (let by = told_by s h in
          let number : n ≡ by.number = one_place ps n by.number i.source by.tells.of_part.input.source well numbered (right by.number by.tells.of_part by.tells.there).numbered (same ∙ path_told by.number s by.tells) in
          reaches_others ps plan planned n (subst (λ k. ReachesPackage ps n k) (sym number) by.reached)))

      -- over summaries with those of what it reaches, and none of its own, it stands among these
      pub stand_over : (b : BlocksModel) (seen : SeenOf) (ss : List SummaryModel) → AreBlocks (trees_of i.source.1) (package_named (trees_of i.source.1) i.imports) b → AreWell ss → NoneIsOf ss (path_in i) → ((s : SummaryModel) → Among i.reached s → Among ss s)
          → StandsAmong (reach_paths i) (package_seen i b seen) (known_by ss)
      stand_over b seen ss blocks all none has =
          stands bind (reach_paths i) (trees_of i.source.1) (package_seen i b seen) ss (trees_are_placed ps n i.source well numbered) (among_to (reach_paths i) (path_in i) (inl refl)) blocks
          (λ path h. imports_inside path (imports_lead (ComesTo ps parts) n (trees_of i.source.1) i.imports path input.imports h)) all
          (λ path h. of path (among_from (reach_paths i) path h))
        where
          of : (path : List ℕ) → Among (reach_paths i) path → IsToldOf (Contains (reach_paths i)) ss path ⊎ NoneIsOf ss path
          of path (inl e) = inr (subst (NoneIsOf ss) e none)
          of path (inr a) = (let t = among_map path_of i.reached path a in inl (record { summary = t.0; there = among_to ss t.0 (has t.0 t.1); is = t.2; inside = told_inside t.0 t.1 }))

      -- summaries that have those of what it reaches, and none of its own, tell it the same
      pub alike_over : (ss : List SummaryModel) → AreWell ss → NoneIsOf ss (path_in i) → ((s : SummaryModel) → Among i.reached s → Among ss s) → KnownAlike (Contains (reach_paths i)) (known_by i.reached) (known_by ss)
      alike_over ss all none has = known_alike i.reached ss well_reached all (Contains (reach_paths i)) (λ path h. tell path (among_from (reach_paths i) path h))
        where
          tell : (path : List ℕ) → Among (reach_paths i) path → TellAlike i.reached ss path
          tell path (inl e) = inr (subst (NoneIsOf i.reached) e none_reached, subst (NoneIsOf ss) e none)
          tell path (inr a) = (let t = among_map path_of i.reached path a in inl (record { summary = t.0; one = among_to i.reached t.0 t.1; other = among_to ss t.0 (has t.0 t.1); is = t.2 }))

      pub alike_back : (ss : List SummaryModel) → AreWell ss → NoneIsOf ss (path_in i) → ((s : SummaryModel) → Among i.reached s → Among ss s) → KnownAlike (Contains (reach_paths i)) (known_by ss) (known_by i.reached)
      alike_back ss all none has = (let a = alike_over ss all none has in record { types = λ k h. sym (a.types k h); shows = λ path name h. sym (a.shows path name h); faces = λ path name h. sym (a.faces path name h); declared = λ path d h. sym (a.declared path d h) })

  -- each part stays inside

  module _ (local : CheckIsLocal) (bind : ImportsBindTheirs) (plan : PlanModel) (planned : IsPlan ps plan) where
    inside_step : (n : ℕ) → ((m : ℕ) → ReachesPackage ps n m → (part : PartModel) → slice_get parts m ≡ Some (Some part) → StaysInside part) → (part : PartModel) → slice_get parts n ≡ Some (Some part) → StaysInside part
    inside_step n below part there =
        let r = right n part there in
        let i = part.input in
        let below_all = λ (m : ℕ) (q : PartModel) (reached : ReachesPackage ps n m) (at : slice_get parts m ≡ Some (Some q)). below m reached q at in
        let stand = stand_over n i r.input bind plan planned r.numbered below_all part.content.blocks (seen_by i) i.reached r.made.blocks (well_reached n i r.input) (none_reached n i r.input bind plan planned r.numbered below_all) (λ s h. h) in
        let g = local.inside (reach_paths i) (package_seen i part.content.blocks (seen_by i)) (known_by i.reached) r.made.checked stand r.made.is_checked in
        subst (IsTold (Contains (reach_paths i))) (sym r.made.summary) (record { types = g.types; faces = g.faces })

    pub all_inside : (n : ℕ) (part : PartModel) → slice_get parts n ≡ Some (Some part) → StaysInside part
    all_inside n part there =
        let r = right n part there in
        along ps plan planned (λ k. (q : PartModel) → slice_get parts k ≡ Some (Some q) → StaysInside q) (λ k assembled below q at. inside_step k below q at)
        n (part.input.source.0, part.input.source.1, r.numbered, r.assembled) part there

    -- what a check gives over the summaries of more packages, it gives over those that are reached
    pub part_over : (n : ℕ) (i : InputModel) (ss : List SummaryModel) (c : ContentOf) → IsInputOf ps parts n i.source i → slice_get ps n ≡ Some i.source → AreWell ss → NoneIsOf ss (path_in i)
        → ((s : SummaryModel) → Among i.reached s → Among ss s) → IsMade i (seen_with (types_told ss) (shown_in (exports_told ss)) (faces_told ss)) c → IsPart i c
    part_over n i ss c input numbered all none has made =
        let inside = λ (m : ℕ) (q : PartModel) (reached : ReachesPackage ps n m) (at : slice_get parts m ≡ Some (Some q)). all_inside m q at in
        let seen = seen_by i in
        let stand = stand_over n i input bind plan planned numbered inside c.blocks seen ss made.blocks all none has in
        let alike = alike_back n i input bind plan planned numbered inside ss all none has in
        record {
          blocks = made.blocks;
          checked = made.checked;
          is_checked = local.same (reach_paths i) (package_seen i c.blocks seen) (known_by ss) (known_by i.reached) made.checked stand alike made.is_checked;
          declared = made.declared;
          files = made.files;
          summary = made.summary;
        }
