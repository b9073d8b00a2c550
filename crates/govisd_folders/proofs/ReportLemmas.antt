-- Reports, piece by piece.
use Rattle.std.proofs.Common.{◌≡◌, ◌∙◌, ℕ, Bool, true, List, [], ◌++◌, length, take, All, Option, Result, Ok, Err, OnOk, IfOk, ap, subst, sym}
use Rattle.std.specs.Prelude.{string_bytes}
use Rattle.go_folder_core.specs.Places.{IsPosition}
use Rattle.go_folder_core.specs.declared.places.Position.{Position}
use Rattle.go_graph_core.specs.Workspaces.{PackageModel}
use Rattle.go_diagnostic_core.specs.snap_core.Faults.{LiesIn}
use Rattle.go_diagnostic_core.specs.snap_core.Snapshots.{IsSnapshot, SnapshotModel}
use Rattle.go_diagnostic_core.specs.snap_core.declared.fault.PlacedFault.{PlacedFault}
use Rattle.go_cause_core.specs.Causes.{AreCauses}
use Rattle.go_cause_core.specs.Names.{AreRepeated}
use Rattle.govisd_folders.specs.Checks.{SnapshotIsTold, WorkspaceIsChecked}
use Rattle.govisd_disk.specs.Scopes.{ScopeModel, packages_in}
use Rattle.govisd_folders.specs.Selecting.{follows, joined_by, shown_in, told_by, told_in}
use Rattle.govisd_folders.specs.Telling.{AddsBeside, AddsFault, AddsForm, AddsLines, AddsReport, AreTold, IsReport, LiesTold, ending_text, head_text, shows_all}
use Rattle.go_cause_core.specs.declared.cause.Cause.{Cause}
use Rattle.govisd_folders.specs.declared.checking.CheckAnswer.{CheckAnswer}
use Rattle.govisd_folders.specs.declared.looks.Look.{Look}
use Rattle.govisd_folders.specs.declared.selecting.Told.{Told}
use Rattle.govisd_folders.specs.declared.telling.Report.{Report}
use Rattle.govisd_folders.proofs.LineLemmas.{beside_of}
use Rattle.govisd_folders.proofs.TellingLemmas.{shown_lie, told_lie}

-- a fault at its place
pub fault_added : {X E : Type 0} (r : Result X E) (look : Look) (path file text : List ℕ) (is_first is_follower : Bool) (t : Told) (at : Position) (old new : List ℕ) → IsPosition (take t.fault.offset text) at → is_follower ≡ follows t
    → OnOk r (AddsForm look.format look.color is_first is_follower path file at t.fault.offset t.fault.rule old new) → OnOk r (AddsFault look path file text is_first t old new)
fault_added (Ok x) look path file text is_first is_follower t at old new place same h =
    let k = subst (λ (b : Bool). AddsForm look.format look.color is_first b path file at t.fault.offset t.fault.rule old new) same h in
    record { at = at; place = place; line = k.0; said = k.1; is = k.2 }
fault_added (Err e) look path file text is_first is_follower t at old new place same h = tt

-- faults and what stands before, beside and after them
pub report_added : {X E : Type 0} (r : Result X E) (look : Look) (own given : List ℕ) (ps : List PackageModel) (told : ℕ) (shown : List Told) (count packages : ℕ) (start head mid next end : List ℕ) → count ≡ length shown → head ≡ start ++ head_text look.format
    → AddsLines look own given ps true shown head mid → AddsBeside look.format mid next → OnOk r (end ≡ next ++ ending_text look.format told count packages) → OnOk r (AddsReport look own given ps told shown packages start end)
report_added (Ok x) look own given ps told shown count packages start head mid next end many before lines said behind =
    let notes = beside_of look.format mid next said in
    record {
      lines = lines.0;
      are = lines.1;
      beside = notes.0;
      notes = notes.1;
      is =
          behind
          ∙ (ap (λ n. next ++ ending_text look.format told n packages) many
          ∙ ap (λ l. l ++ ending_text look.format told (length shown) packages) (notes.2 ∙ ap (λ l. l ++ notes.0) (lines.2 ∙ ap (λ l. l ++ lines.0) before)));
    }
report_added (Err e) look own given ps told shown count packages start head mid next end many before lines said behind = tt

-- a report on those that are shown
pub reported : (look : Look) (scope : ScopeModel) (given : List ℕ) (ps : List PackageModel) (told shown slice : List Told) (count packages : ℕ) (r : Report) → count ≡ length told → packages ≡ length (packages_in scope ps)
    → shown ≡ shown_in (shows_all look) scope ps told → slice ≡ shown → AddsReport look scope.0 given ps count slice packages [] (string_bytes r.text) → r.faults ≡ count → IsReport look scope given ps told r
reported look scope given ps told shown slice count packages r many here same all h faults = record {
  text =
      subst (λ n. AddsReport look scope.0 given ps n (shown_in (shows_all look) scope ps told) (length (packages_in scope ps)) [] (string_bytes r.text)) many
      (subst (λ n. AddsReport look scope.0 given ps count (shown_in (shows_all look) scope ps told) n [] (string_bytes r.text)) here
      (subst (λ (ts : List Told). AddsReport look scope.0 given ps count ts packages [] (string_bytes r.text)) (all ∙ same) h));
  faults = faults ∙ many;
}

-- those that are shown lie in files
pub shown_there : (ps : List PackageModel) (all : Bool) (scope : ScopeModel) (told shown slice : List Told) → shown ≡ shown_in all scope ps told → slice ≡ shown → All (LiesTold ps) told → All (LiesTold ps) slice
shown_there ps all scope told shown slice same here h = subst (λ (ts : List Told). All (LiesTold ps) ts) (sym (here ∙ same)) (shown_lie ps all scope told h)

-- those that are told of, of all
pub told_of_all : {V E : Type 0} (items : V → List Told) (r : Result V E) (scope : ScopeModel) (qs ps : List PackageModel) (these faults : List PlacedFault) (causes : List Cause) (slice all : List Told) → qs ≡ ps → these ≡ faults → slice ≡ all → all ≡ told_by these these causes
    → IfOk r (λ v. items v ≡ told_in scope qs slice) → IfOk r (λ v. items v ≡ told_in scope ps (told_by faults faults causes))
told_of_all items (Ok v) scope qs ps these faults causes slice all packages same here every h =
    h ∙ (ap (λ (l : List PackageModel). told_in scope l slice) packages ∙ ap (told_in scope ps) (here ∙ (every ∙ ap (λ (fs : List PlacedFault). told_by fs fs causes) same)))
told_of_all items (Err e) scope qs ps these faults causes slice all packages same here every h = tt

-- the faults of a snapshot, by where they stand among the causes
pub told_ended : {E : Type 0} (r : Result Report E) (look : Look) (scope : ScopeModel) (given : List ℕ) (ps : List PackageModel) (faults : List PlacedFault) (causes : List Cause) (repeated : List (Option ℕ)) (told : List Told) → AreCauses faults causes → AreRepeated faults repeated
    → told ≡ told_in scope ps (told_by faults faults (joined_by causes repeated)) → IfOk r (IsReport look scope given ps told) → IfOk r (AreTold look scope given ps faults)
told_ended (Ok x) look scope given ps faults causes repeated told are names same h =
    record { causes = causes; are = are; repeated = repeated; names = names; report = subst (λ (ts : List Told). IsReport look scope given ps ts x) same h }
told_ended (Err e) look scope given ps faults causes repeated told are names same h = tt

-- these lie in files
pub lie_told : (ps : List PackageModel) (scope : ScopeModel) (faults : List PlacedFault) (causes : List Cause) (told : List Told) → told ≡ told_in scope ps (told_by faults faults causes) → All (LiesIn ps) faults → All (LiesTold ps) told
lie_told ps scope faults causes told same h = subst (λ (ts : List Told). All (LiesTold ps) ts) (sym same) (told_lie ps scope faults causes h)

-- the answer on a workspace, from that on its snapshot
pub of_snapshot : {E : Type 0} (r : Result CheckAnswer E) (look : Look) (scope : ScopeModel) (given : List ℕ) (s : SnapshotModel) (ps : List PackageModel) (notes passed : List ℕ) → s.sources ≡ ps → IsSnapshot ps s.parts s.faults
    → IfOk r (SnapshotIsTold look scope given s.sources s.faults notes passed) → IfOk r (WorkspaceIsChecked look scope given ps notes passed)
of_snapshot (Ok a) look scope given s ps notes passed same snapshot h =
    record { parts = s.parts; faults = s.faults; snapshot = snapshot; told = subst (λ (l : List PackageModel). SnapshotIsTold look scope given l s.faults notes passed a) same h }
of_snapshot (Err e) look scope given s ps notes passed same snapshot h = tt
