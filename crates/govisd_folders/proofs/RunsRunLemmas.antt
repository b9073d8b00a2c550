-- What follows of what a call answers.
use Rattle.std.proofs.Common.{◌≡◌, ◌≤◌, ◌<◌, ◌+◌, ◌∙◌, ap, append_assoc, arith, drop, get_or, length, map, ℕ, Bool, true, false, List, [], ◌∷◌, ◌++◌, Option, Result, Ok, Err, inl, inr, ◌⊎◌, sym, subst}
use Rattle.std.specs.Prelude.{IfOk, codes}
use Rattle.std.specs.List.{flat_map}
use Rattle.std.proofs.lemmas.List.{drop_more}
use Rattle.go_path_core.specs.text_core.declared.rule.Rule.{Rule}
use Rattle.go_path_core.specs.text_core.declared.rule.Rule.TheVariants as rules
use Rattle.go_path_core.specs.Path.{IsPath}
use Rattle.go_graph_core.specs.Workspaces.{PackageModel}
use Rattle.go_machine_core.specs.link.Linked.{HasNoMain, HasNoneOutside, IsBeyond, IsCut, ProgramOf}
use Rattle.go_machine_core.specs.runs.Laws.{AnswersAreOne}
use Rattle.go_machine_core.specs.runs.Runs.{GetsStuck}
use Rattle.go_diagnostic_core.specs.snap_core.declared.fault.PlacedFault.{PlacedFault}
use Rattle.go_emit_core.specs.Emitted.{objects_of}
use Rattle.go_emit_core.specs.package_core.PackagePartParts.{PartModel}
use Rattle.go_emit_core.specs.package_core.PackagePartSlots.{somes}
use Rattle.go_diagnostic_core.specs.snap_core.Snapshots.{IsSnapshot, SnapshotModel}
use Rattle.govisd_folders.specs.declared.checking.CheckAnswer.{CheckAnswer}
use Rattle.govisd_disk.specs.Finds.{ReadModel, IsReadOf}
use Rattle.govisd_disk.specs.Notes.{name_or_quotes, note_line}
use Rattle.govisd_disk.specs.Scopes.{ScopeModel}
use Rattle.govisd_folders.specs.runs.Choices.{main_line, several_text}
use Rattle.govisd_folders.specs.runs.Outcomes.{NothingRan}
use Rattle.govisd_folders.specs.runs.Answers.{AnswersSnapshot, IsAnswerOfRun, IsRunOn, TellsFaults, WorkspaceIsRun, is_clean}
use Rattle.govisd_folders.specs.runs.Runs.{AnswersMain, AnswersMains, AnswersNamed, AnswersPackage, Objects}

-- of what cannot be run the package is to blame, where no function is
pub cut_of : AnswersAreOne → (p : ProgramOf) → IsBeyond p → HasNoneOutside p → IsCut p
cut_of laws p beyond (inl none) = absurd (laws.main_first p beyond none)
cut_of laws p beyond (inr (inl cut)) = cut
cut_of laws p beyond (inr (inr runnable)) = absurd (laws.beyond p runnable.0 runnable.1 beyond)

-- what is said of code that lacks what an instruction asks for
abbrev pub cannot_run : List ℕ
cannot_run = codes "its code cannot be run"

-- why nothing ran
abbrev pub WhyNot : ProgramOf → ℕ → Rule → Type 0
WhyNot p steps rule = (rule ≡ rules.M0) ⊎ ((rule ≡ rules.J1) × HasNoMain p) ⊎ ((rule ≡ rules.J2) × IsBeyond p) ⊎ ((rule ≡ rules.Z1) × GetsStuck p steps)

pub no_main_of : (p : ProgramOf) (steps : ℕ) (rule : Rule) → WhyNot p steps rule → rule ≡ rules.J1 → HasNoMain p
no_main_of p steps rule (inl e) is = absurd (cc)
no_main_of p steps rule (inr (inl h)) is = h.1
no_main_of p steps rule (inr (inr (inl h))) is = let e = h.0 in absurd (cc)
no_main_of p steps rule (inr (inr (inr h))) is = let e = h.0 in absurd (cc)

pub beyond_of : (p : ProgramOf) (steps : ℕ) (rule : Rule) → WhyNot p steps rule → rule ≡ rules.J2 → IsBeyond p
beyond_of p steps rule (inl e) is = absurd (cc)
beyond_of p steps rule (inr (inl h)) is = let e = h.0 in absurd (cc)
beyond_of p steps rule (inr (inr (inl h))) is = h.1
beyond_of p steps rule (inr (inr (inr h))) is = let e = h.0 in absurd (cc)

pub stuck_of : (p : ProgramOf) (steps : ℕ) (rule : Rule) → WhyNot p steps rule → rule ≡ rules.Z1 → GetsStuck p steps
stuck_of p steps rule (inl e) is = absurd (cc)
stuck_of p steps rule (inr (inl h)) is = let e = h.0 in absurd (cc)
stuck_of p steps rule (inr (inr (inl h))) is = let e = h.0 in absurd (cc)
stuck_of p steps rule (inr (inr (inr h))) is = h.1

module _ {E : Type 0} (r : Result CheckAnswer E) (folder : List ℕ) (scope : ScopeModel) (main : Option (List ℕ)) (steps : ℕ) where
  -- the answer on a clean snapshot
  pub clean_run : (b : Bool) (own : List ℕ) (qs ps : List PackageModel) (os : Objects) (parts : List (Option PartModel)) (faults : List PlacedFault) (notes passed : List ℕ)
      → b ≡ true → qs ≡ ps → os ≡ objects_of (somes parts) → IfOk r (AnswersMain folder scope qs os passed main steps) → IfOk r (AnswersSnapshot b folder scope main steps own ps parts faults notes passed)
  clean_run b own qs ps os parts faults notes passed clean same objects h =
      subst (λ (c : Bool). IfOk r (AnswersSnapshot c folder scope main steps own ps parts faults notes passed)) (sym clean)
      (subst (λ (l : Objects). IfOk r (AnswersMain folder scope ps l passed main steps)) objects (subst (λ (l : List PackageModel). IfOk r (AnswersMain folder scope l os passed main steps)) same h))

  -- the answer on one that is not
  pub faults_told : (b : Bool) (own : List ℕ) (ps : List PackageModel) (parts : List (Option PartModel)) (faults : List PlacedFault) (notes passed : List ℕ)
      → b ≡ false → IfOk r (TellsFaults own ps faults notes passed) → IfOk r (AnswersSnapshot b folder scope main steps own ps parts faults notes passed)
  faults_told b own ps parts faults notes passed clean h = subst (λ (c : Bool). IfOk r (AnswersSnapshot c folder scope main steps own ps parts faults notes passed)) (sym clean) h

  -- the answer on a workspace, from that on its snapshot
  pub of_snapshot : (own : List ℕ) (s : SnapshotModel) (ps : List PackageModel) (notes passed : List ℕ) → s.sources ≡ ps → IsSnapshot ps s.parts s.faults
      → IfOk r (AnswersSnapshot (is_clean s.faults notes) folder scope main steps own s.sources s.parts s.faults notes passed) → IfOk r (WorkspaceIsRun folder scope main steps own ps notes passed)
  of_snapshot own s ps notes passed same snapshot h = by r (subst (λ (l : List PackageModel). IfOk r (AnswersSnapshot (is_clean s.faults notes) folder scope main steps own l s.parts s.faults notes passed)) same h)
    where
      by : (r : Result CheckAnswer E) → IfOk r (AnswersSnapshot (is_clean s.faults notes) folder scope main steps own ps s.parts s.faults notes passed) → IfOk r (WorkspaceIsRun folder scope main steps own ps notes passed)
      by (Ok a) k = record { parts = s.parts; faults = s.faults; snapshot = snapshot; answer = k }
      by (Err e) k = tt

module _ {E : Type 0} (r : Result CheckAnswer E) (folder : List ℕ) (main : Option (List ℕ)) (steps : ℕ) where
  -- the answer on a folder, from that on what came of its reading
  pub of_read : (given : Option (List ℕ)) (came : ReadModel) → IsReadOf folder given came → IfOk r (IsRunOn folder main steps came) → IfOk r (IsAnswerOfRun folder given main steps)
  of_read given came read h = by r h
    where
      by : (r : Result CheckAnswer E) → IfOk r (IsRunOn folder main steps came) → IfOk r (IsAnswerOfRun folder given main steps)
      by (Ok a) k = record { came = came; read = read; answer = k }
      by (Err e) k = tt

-- the answer on the package of a path that a text writes
pub path_named : {E : Type 0} (r : Result CheckAnswer E) (ps : List PackageModel) (os : Objects) (before text path : List ℕ) (steps : ℕ) → (path ≡ text) × IsPath text → IfOk r (AnswersPackage ps os before path steps) → IfOk r (AnswersNamed ps os before text steps)
path_named (Ok a) ps os before text path steps is h = inr (is.1, subst (λ (m : List ℕ). AnswersPackage ps os before m steps a) is.0 h)
path_named (Err e) ps os before text path steps is h = tt

-- a line for one more package
pub mains_more : {X : Type 0} (f : X → List ℕ) (all old new : List ℕ) (xs : List X) (i : ℕ) (x : X) → i < length xs → x ≡ get_or xs i x → new ≡ old ++ main_line (f x)
    → all ≡ old ++ flat_map main_line (map f (drop i xs)) → all ≡ new ++ flat_map main_line (map f (drop (i + 1) xs))
mains_more f all old new xs i x lt here is h =
    let rest = flat_map main_line (map f (drop (i + 1) xs)) in
    h
    ∙ (ap (λ l. old ++ flat_map main_line (map f l)) (drop_more xs i x lt ∙ ap (λ y. y ∷ drop (i + 1) xs) (sym here))
    ∙ (sym (append_assoc old (main_line (f x)) rest) ∙ ap (λ l. l ++ rest) (sym is)))

-- what is said of several, piece by piece
abbrev pub several_why : List ℕ
several_why = codes "several packages are called main, and --main names the one to run"

pub several_said : (a : CheckAnswer) (before folder name first second third : List ℕ) (mains : List (List ℕ)) → NothingRan third a → third ≡ second ++ flat_map main_line mains → second ≡ first ++ note_line name several_why
    → first ≡ before → name ≡ name_or_quotes folder → NothingRan (before ++ several_text folder mains) a
several_said a before folder name first second third mains nothing lines line begun named =
    let why = note_line (name_or_quotes folder) several_why in
    let rest = flat_map main_line mains in
    let told : second ≡ before ++ why = line ∙ (ap (λ (s : List ℕ). s ++ note_line name several_why) begun ∙ ap (λ (n : List ℕ). before ++ note_line n several_why) named) in
    subst (λ (s : List ℕ). NothingRan s a) (lines ∙ (ap (λ (s : List ℕ). s ++ rest) told ∙ append_assoc before why rest)) nothing

-- what is refused where several are called so
pub several : {E X : Type 0} (r : Result CheckAnswer E) (f : X → List ℕ) (folder : List ℕ) (ps : List PackageModel) (os : Objects) (before : List ℕ) (mains : List X) (steps : ℕ)
    → 2 ≤ length mains → IfOk r (NothingRan (before ++ several_text folder (map f mains))) → IfOk r (AnswersMains folder ps os before (map f mains) steps)
several r f folder ps os before [] steps many h = absurd (omega (arith, many))
several r f folder ps os before (m ∷ []) steps many h = absurd (omega (arith, many))
several r f folder ps os before (m ∷ (n ∷ ms)) steps many h = h
