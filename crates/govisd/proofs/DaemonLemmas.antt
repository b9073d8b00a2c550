-- What runs of `script` and `serve` do.
use Rattle.std.proofs.Common.{◌≡◌, ◌≢◌, ◌∙◌, ◌⊎◌, inl, inr, ℕ, Bool, false, List, [], ◌∷◌, Option, None, Result, Ok, Err, refl, ap, ap₂, subst}
use Rattle.std.specs.Prelude.{codes}
use Rattle.std.specs.Io.KnownBytes.{Keeps}
use Rattle.clap.specs.Walk.{Text}
use Rattle.clap.specs.declared.error.Error.{Error}
use Rattle.clap.specs.declared.error.kind.ErrorKind.TheVariants as kind
use Rattle.clap.proofs.OnLiterals.{clap_on_literals}
use Rattle.govisd.specs.declared.program.Ran.{Ran}
use Rattle.govisd_words.specs.declared.words.ValueOption.{ValueOption}
use Rattle.govisd_words.specs.declared.words.ValueOption.TheVariants.{Workers}
use Rattle.govisd_words.specs.declared.words.Waits.{Waits}
use Rattle.govisd_words.specs.declared.words.Request.{Request}
use Rattle.govisd_words.specs.declared.words.Request.TheVariants.{Resolve, Explain, Check, Run, Editor, Script, Serve, Help, Version, BadValue}
use Rattle.govisd_words.specs.Asking.{Asks, ToRefuse, ToScript, ToServe, command_line, asked_by_subcommand as asked_by, refusals, said, script_with, serve_with, usual_waits}
use Rattle.govisd.specs.Daemons.{Scripts, Serves}
use Rattle.govisd.specs.Runs.{Around, Does, RefusesValue, RefusesNowhere, RefusesWorkers, Runs, ScriptsAlone, ScriptsEach, ServesAsTold, ServesEach}
use Rattle.govisd.specs.Says.{RunsOut}
use Rattle.govisd.proofs.FlagLemmas.{refused_for}
use Rattle.govisd_words.proofs.PlainWords.{script_workers, script_workers_named, serve_at, serve_at_named, serve_told, serve_told_named}
use Rattle.govisd.proofs.RunLemmas.{asked, failed, ran_out}

same_option : (a b : ValueOption) → ToRefuse a ≡ ToRefuse b → a ≡ b
same_option a b e = cc

same_address : (a b : Text) (m n : ℕ) (i j : Option ℕ) (v w : Waits) (s t : Bool) → ToServe a m i v s ≡ ToServe b n j w t → a ≡ b
same_address a b m n i j v w s t e = cc

-- one run
module _ (among : Around) (ran : Ran) (given left out out' err err' : Option (List ℕ)) where
  scripts : (request : Request) (workers : ℕ) → said request ≡ ToScript workers → Does among (Ok request) ran given left out out' err err' → Scripts ran given left out out' err err'
  scripts Resolve workers is h = absurd (cc)
  scripts (Explain rule json) workers is h = absurd (cc)
  scripts (Run order) workers is h = absurd (cc)
  scripts (Check order) workers is h = absurd (cc)
  scripts (Script count) workers is h = h
  scripts Editor workers is h = absurd (cc)
  scripts (Serve daemon) workers is h = absurd (cc)
  scripts (Help topic) workers is h = absurd (cc)
  scripts Version workers is h = absurd (cc)
  scripts (BadValue option) workers is h = absurd (cc)

  serves : (request : Request) (address : Text) (workers : ℕ) (connections : Option ℕ) (waits : Waits) (until : Bool) → said request ≡ ToServe address workers connections waits until → Does among (Ok request) ran given left out out' err err' → Serves address ran err err' × Keeps out out' × Keeps given left
  serves Resolve address workers connections waits until is h = absurd (cc)
  serves (Explain rule json) address workers connections waits until is h = absurd (cc)
  serves (Run order) address workers connections waits until is h = absurd (cc)
  serves (Check order) address workers connections waits until is h = absurd (cc)
  serves (Script count) address workers connections waits until is h = absurd (cc)
  serves Editor address workers connections waits until is h = absurd (cc)
  serves (Serve daemon) address workers connections waits until is h = (subst (λ a. Serves a ran err err') (same_address _ address _ workers _ connections _ waits _ until is) h.0, h.1, h.2)
  serves (Help topic) address workers connections waits until is h = absurd (cc)
  serves Version address workers connections waits until is h = absurd (cc)
  serves (BadValue option) address workers connections waits until is h = absurd (cc)

  refuses : (request : Request) (option : ValueOption) → said request ≡ ToRefuse option → Does among (Ok request) ran given left out out' err err' → RefusesValue option ran err err' × Keeps out out' × Keeps given left
  refuses Resolve option is h = absurd (cc)
  refuses (Explain rule json) option is h = absurd (cc)
  refuses (Run order) option is h = absurd (cc)
  refuses (Check order) option is h = absurd (cc)
  refuses (Script count) option is h = absurd (cc)
  refuses Editor option is h = absurd (cc)
  refuses (Serve daemon) option is h = absurd (cc)
  refuses (Help topic) option is h = absurd (cc)
  refuses Version option is h = absurd (cc)
  refuses (BadValue other) option is h = (subst (λ o. RefusesValue o ran err err') (same_option other option is) h.0, h.1, h.2)

  scripted : (words : List Text) (workers : ℕ) → refusals words ≡ [] → asked_by words ≡ ToScript workers → Runs among words ran given left out out' err err' → Scripts ran given left out out' err err' ⊎ (RunsOut ran err err' × Keeps out out' × Keeps given left)
  scripted words workers none is r = by r.asked r.asks r.does
    where
      by : (a : Result Request Error) → Asks words a → Does among a ran given left out out' err err' → Scripts ran given left out out' err err' ⊎ (RunsOut ran err err' × Keeps out out' × Keeps given left)
      by (Ok request) asks did = inl (scripts request workers (asked words request none asks ∙ is) did)
      by (Err e) asks did = inr (ran_out among ran given left out out' err err' e (failed words e none asks) did.0, did.1, did.2)

  -- something comes of what is asked for, or memory ran out
  comes : (words : List Text) (Happens : Type 0) → ((request : Request) → said request ≡ asked_by words → Does among (Ok request) ran given left out out' err err' → Happens × Keeps out out' × Keeps given left) → refusals words ≡ [] → Runs among words ran given left out out' err err' → ((Happens ⊎ RunsOut ran err err') × Keeps out out') × Keeps given left
  comes words Happens does none r = by r.asked r.asks r.does
    where
      by : (a : Result Request Error) → Asks words a → Does among a ran given left out out' err err' → ((Happens ⊎ RunsOut ran err err') × Keeps out out') × Keeps given left
      by (Ok request) asks did =
          let h = does request (asked words request none asks) did in
          ((inl h.0, h.1), h.2)
      by (Err e) asks did = ((inr (ran_out among ran given left out out' err err' e (failed words e none asks) did.0), did.1), did.2)

  served : (words : List Text) (address : Text) (workers : ℕ) (connections : Option ℕ) (waits : Waits) (until : Bool) → refusals words ≡ [] → asked_by words ≡ ToServe address workers connections waits until → Runs among words ran given left out out' err err' → ((Serves address ran err err' ⊎ RunsOut ran err err') × Keeps out out') × Keeps given left
  served words address workers connections waits until none is r = comes words (Serves address ran err err') (λ request asks did. serves request address workers connections waits until (asks ∙ is) did) none r

  pub count_refused : (words : List Text) (option : ValueOption) → refusals words ≡ [] → asked_by words ≡ ToRefuse option → Runs among words ran given left out out' err err' → ((RefusesValue option ran err err' ⊎ RunsOut ran err err') × Keeps out out') × Keeps given left
  count_refused words option none is r = comes words (RefusesValue option ran err err') (λ request asks did. refuses request option (asks ∙ is) did) none r

-- ---- the command lines

script_free : (program : Text) → refusals (command_line program (codes "script" ∷ [])) ≡ []
unfolding clap_on_literals
script_free program = refl

script_named : (program : Text) → asked_by (command_line program (codes "script" ∷ [])) ≡ ToScript 1
unfolding clap_on_literals
script_named program = refl

serve_nowhere : (program : Text) → refusals (command_line program (codes "serve" ∷ [])) ≡ kind.MissingRequiredArgument ∷ []
unfolding clap_on_literals
serve_nowhere program = refl

no_help : kind.MissingRequiredArgument ≢ kind.DisplayHelp
no_help e = cc

no_version : kind.MissingRequiredArgument ≢ kind.DisplayVersion
no_version e = cc

pub scripts_alone : (among : Around) → ScriptsAlone among
scripts_alone among program ran given left out out' err err' r =
    scripted among ran given left out out' err err' (command_line program (codes "script" ∷ [])) 1 (script_free program) (script_named program) r

pub scripts_each : (among : Around) → ScriptsEach among
scripts_each among program count workers plain is ran given left out out' err err' r =
    scripted among ran given left out out' err err' (command_line program (codes "script" ∷ (codes "--workers" ∷ (count ∷ [])))) workers (script_workers program count plain) (script_workers_named program count plain ∙ ap script_with is) r

pub bad_workers : (among : Around) → RefusesWorkers among
bad_workers among program count plain none ran given left out out' err err' r =
    count_refused among ran given left out out' err err' (command_line program (codes "script" ∷ (codes "--workers" ∷ (count ∷ [])))) Workers (script_workers program count plain) (script_workers_named program count plain ∙ ap script_with none) r

pub serves_each : (among : Around) → ServesEach among
serves_each among program address plain ran given left out out' err err' r =
    served among ran given left out out' err err' (command_line program (codes "serve" ∷ (codes "--listen" ∷ (address ∷ [])))) address 1 None usual_waits false (serve_at program address plain) (serve_at_named program address plain) r

pub serves_told : (among : Around) → ServesAsTold among
serves_told among program address count most workers connections plain plain' plain'' is is' ran given left out out' err err' r =
    served among ran given left out out' err err' (command_line program (codes "serve" ∷ (codes "--listen" ∷ (address ∷ (codes "--workers" ∷ (count ∷ (codes "--connections" ∷ (most ∷ [])))))))) address workers connections usual_waits false (serve_told program address count most plain plain' plain'') (serve_told_named program address count most plain plain' plain'' ∙ ap₂ (λ w k. serve_with address w k (Ok usual_waits) false) is is') r

pub nowhere : (among : Around) → RefusesNowhere among
nowhere among program ran given left out out' err err' r =
    refused_for among ran given left out out' err err' (command_line program (codes "serve" ∷ [])) kind.MissingRequiredArgument no_help no_version (serve_nowhere program) r
