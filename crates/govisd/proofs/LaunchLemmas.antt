-- What runs of `run` do.
use Rattle.std.proofs.Common.{◌≡◌, ◌∙◌, ◌⊎◌, ℕ, List, [], ◌∷◌, Option, Some, None, Ok, ap, subst}
use Rattle.std.specs.Prelude.{codes, option_map}
use Rattle.std.specs.Io.KnownBytes.{Keeps}
use Rattle.clap.specs.Walk.{Text}
use Rattle.govisd.specs.declared.program.Ran.{Ran}
use Rattle.govisd_words.specs.declared.words.ValueOption.TheVariants.{Steps}
use Rattle.govisd_words.specs.declared.words.Request.{Request}
use Rattle.govisd_words.specs.declared.words.Request.TheVariants.{Resolve, Explain, Check, Run, Editor, Script, Serve, Help, Version, BadValue}
use Rattle.govisd_words.specs.Asking.{ToRun, command_line, asked_by_subcommand as asked_by, refusals, run_with, said}
use Rattle.govisd.specs.Launches.{RunsFolder}
use Rattle.govisd.specs.Runs.{Around, Does, RefusesSteps, Runs, RunsAsTold, RunsEach}
use Rattle.govisd.specs.Says.{RunsOut}
use Rattle.govisd.proofs.DaemonLemmas.{count_refused}
use Rattle.govisd_words.proofs.PlainWords.{run_folder, run_folder_named, run_steps, run_steps_named, run_told, run_told_named}
use Rattle.govisd.proofs.RunLemmas.{done}

same_folder : (a b : Text) (p q m n : Option Text) (i j : ℕ) (v w : Option ℕ) → ToRun a p m i v ≡ ToRun b q n j w → a ≡ b
same_folder a b p q m n i j v w e = cc

same_path : (a b : Text) (p q m n : Option Text) (i j : ℕ) (v w : Option ℕ) → ToRun a p m i v ≡ ToRun b q n j w → p ≡ q
same_path a b p q m n i j v w e = cc

same_main : (a b : Text) (p q m n : Option Text) (i j : ℕ) (v w : Option ℕ) → ToRun a p m i v ≡ ToRun b q n j w → m ≡ n
same_main a b p q m n i j v w e = cc

same_steps : (a b : Text) (p q m n : Option Text) (i j : ℕ) (v w : Option ℕ) → ToRun a p m i v ≡ ToRun b q n j w → i ≡ j
same_steps a b p q m n i j v w e = cc

-- one run
module _ (among : Around) (ran : Ran) (given left out out' err err' : Option (List ℕ)) where
  launches : (request : Request) (folder : Text) (path main : Option Text) (steps : ℕ) (workers : Option ℕ) → said request ≡ ToRun folder path main steps workers → Does among (Ok request) ran given left out out' err err' → RunsFolder among.launches folder path main steps ran out out' err err' × Keeps given left
  launches Resolve folder path main steps workers is h = absurd (cc)
  launches (Explain rule json) folder path main steps workers is h = absurd (cc)
  launches (Check order) folder path main steps workers is h = absurd (cc)
  launches (Run order) folder path main steps workers is h =
      let path' = option_map (λ word. word.now) order.module_path in
      let main' = option_map (λ word. word.now) order.main_path in
      let here = subst (λ f. RunsFolder among.launches f path' main' order.steps ran out out' err err') (same_folder _ folder _ path _ main _ steps _ workers is) h.0 in
      let of_module = subst (λ p. RunsFolder among.launches folder p main' order.steps ran out out' err err') (same_path _ folder _ path _ main _ steps _ workers is) here in
      let of_main = subst (λ m. RunsFolder among.launches folder path m order.steps ran out out' err err') (same_main _ folder _ path _ main _ steps _ workers is) of_module in
      (subst (λ n. RunsFolder among.launches folder path main n ran out out' err err') (same_steps _ folder _ path _ main _ steps _ workers is) of_main, h.1)
  launches (Script count) folder path main steps workers is h = absurd (cc)
  launches Editor folder path main steps workers is h = absurd (cc)
  launches (Serve daemon) folder path main steps workers is h = absurd (cc)
  launches (Help topic) folder path main steps workers is h = absurd (cc)
  launches Version folder path main steps workers is h = absurd (cc)
  launches (BadValue option) folder path main steps workers is h = absurd (cc)

  launched : (words : List Text) (folder : Text) (path main : Option Text) (steps : ℕ) (workers : Option ℕ) → refusals words ≡ [] → asked_by words ≡ ToRun folder path main steps workers → Runs among words ran given left out out' err err' → (RunsFolder among.launches folder path main steps ran out out' err err' ⊎ (RunsOut ran err err' × Keeps out out')) × Keeps given left
  launched words folder path main steps workers none is r = done among ran given left out out' err err' words (RunsFolder among.launches folder path main steps ran out out' err err') (λ request asks did. launches request folder path main steps workers (asks ∙ is) did) none r

pub runs_each : (among : Around) → RunsEach among
runs_each among program folder plain ran given left out out' err err' r =
    launched among ran given left out out' err err' (command_line program (codes "run" ∷ (folder ∷ []))) folder None None 1000000000 None (run_folder program folder plain) (run_folder_named program folder plain) r

pub runs_told : (among : Around) → RunsAsTold among
runs_told among program folder path main count steps plain of_path of_main of_count is ran given left out out' err err' r =
    launched among ran given left out out' err err' (command_line program (codes "run" ∷ (folder ∷ (codes "--module" ∷ (path ∷ (codes "--main" ∷ (main ∷ (codes "--steps" ∷ (count ∷ []))))))))) folder (Some path) (Some main) steps None (run_told program folder path main count plain of_path of_main of_count) (run_told_named program folder path main count plain of_path of_main of_count ∙ ap (λ n. run_with folder (Some path) (Some main) n (Some None)) is) r

pub bad_steps : (among : Around) → RefusesSteps among
bad_steps among program folder count plain of_count none ran given left out out' err err' r =
    count_refused among ran given left out out' err err' (command_line program (codes "run" ∷ (folder ∷ (codes "--steps" ∷ (count ∷ []))))) Steps (run_steps program folder count plain of_count) (run_steps_named program folder count plain of_count ∙ ap (λ n. run_with folder None None n (Some None)) none) r
