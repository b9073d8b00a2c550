-- What runs do for the words that name no rule, folder or command: `resolve`, the flags, and lines that are refused.
use Rattle.std.proofs.Common.{◌≡◌, ◌≢◌, ◌∙◌, ◌⊎◌, inl, inr, ℕ, List, [], ◌∷◌, Option, None, Result, Ok, Err, refl, sym, ap, subst}
use Rattle.std.specs.Prelude.{codes}
use Rattle.std.specs.Io.KnownBytes.{Keeps}
use Rattle.clap.specs.Walk.{Text}
use Rattle.clap.specs.Kinds.{IsAmong}
use Rattle.clap.specs.Values.{kind_of}
use Rattle.clap.specs.declared.error.Error.{Error}
use Rattle.clap.specs.declared.error.kind.ErrorKind.{ErrorKind}
use Rattle.clap.specs.declared.error.kind.ErrorKind.TheVariants as kind
use Rattle.clap.proofs.OnLiterals.{clap_on_literals}
use Rattle.govisd.specs.declared.program.Ran.{Ran}
use Rattle.govisd_words.specs.declared.words.Request.{Request}
use Rattle.govisd_words.specs.declared.words.Request.TheVariants.{Resolve, Explain, Check, Run, Editor, Script, Serve, Help, Version, BadValue}
use Rattle.govisd_words.specs.Asking.{Asks, ToHelp, ToResolve, ToTellVersion, command_behind, command_line, asked_by_subcommand as asked_by, refusals, said}
use Rattle.govisd.specs.Runs.{Around, Does, HelpsAlone, HelpsByFlag, Refuses, RefusesFor, RefusesNothing, RefusesWordBehind, Resolves, ResolvesAlone, Runs, ShowsOrRunsOut, ShowsText, TellsVersion}
use Rattle.govisd.specs.Says.{RunsOut}
use Rattle.govisd_words.specs.Texts.{program_help_text, version_text}
use Rattle.govisd_words.proofs.PlainWords.{resolve_word}
use Rattle.govisd.proofs.RunLemmas.{asked, failed, helped, helps, ran_out}

-- ---- words that are refused for one reason

only_one : (a b : ErrorKind) → IsAmong a (b ∷ []) → a ≡ b
only_one a b (inl e) = e
only_one a b (inr h) = absurd h

not_none : (words : List Text) (k : ErrorKind) → refusals words ≡ k ∷ [] → refusals words ≡ [] → ⊥
not_none words k one none = let e : (k ∷ []) ≡ [] = sym one ∙ none in cc

-- for the help alone they ask for the help
asked_help : (words : List Text) (request : Request) → refusals words ≡ kind.DisplayHelp ∷ [] → Asks words (Ok request) → said request ≡ ToHelp (command_behind words)
asked_help words request one (inl h) = absurd (not_none words kind.DisplayHelp one h.0)
asked_help words request one (inr (inl h)) = h.1
asked_help words request one (inr (inr h)) = let e = only_one kind.DisplayVersion kind.DisplayHelp (subst (IsAmong kind.DisplayVersion) one h.0) in absurd (cc)

-- for the version alone they ask for the version
asked_version : (words : List Text) (request : Request) → refusals words ≡ kind.DisplayVersion ∷ [] → Asks words (Ok request) → said request ≡ ToTellVersion
asked_version words request one (inl h) = absurd (not_none words kind.DisplayVersion one h.0)
asked_version words request one (inr (inl h)) = let e = only_one kind.DisplayHelp kind.DisplayVersion (subst (IsAmong kind.DisplayHelp) one h.0) in absurd (cc)
asked_version words request one (inr (inr h)) = h.1

-- and for another reason they ask for nothing
never_asked : (words : List Text) (request : Request) (k : ErrorKind) → k ≢ kind.DisplayHelp → k ≢ kind.DisplayVersion → refusals words ≡ k ∷ [] → Asks words (Ok request) → ⊥
never_asked words request k no_help no_version one (inl h) = not_none words k one h.0
never_asked words request k no_help no_version one (inr (inl h)) = no_help (sym (only_one kind.DisplayHelp k (subst (IsAmong kind.DisplayHelp) one h.0)))
never_asked words request k no_help no_version one (inr (inr h)) = no_version (sym (only_one kind.DisplayVersion k (subst (IsAmong kind.DisplayVersion) one h.0)))

-- an error is of the one reason, and neither help nor version, or memory ran out
failed_for : (words : List Text) (e : Error) (k : ErrorKind) → refusals words ≡ k ∷ [] → Asks words (Err e) → (kind_of e ≡ kind.OutOfMemory) ⊎ ((kind_of e ≡ k) × (kind_of e ≢ kind.DisplayHelp) × (kind_of e ≢ kind.DisplayVersion))
failed_for words e k one (inl h) = inl h
failed_for words e k one (inr h) = inr (only_one (kind_of e) k (subst (IsAmong (kind_of e)) one h.0), h.1, h.2)

-- ---- one run

module _ (among : Around) (ran : Ran) (given left out out' err err' : Option (List ℕ)) where
  resolves : (request : Request) → said request ≡ ToResolve → Does among (Ok request) ran given left out out' err err' → Resolves ran given left out out' err err'
  resolves Resolve is h = h
  resolves (Explain rule json) is h = absurd (cc)
  resolves (Run order) is h = absurd (cc)
  resolves (Check order) is h = absurd (cc)
  resolves (Help topic) is h = absurd (cc)
  resolves Version is h = absurd (cc)
  resolves (Script workers) is h = absurd (cc)
  resolves Editor is h = absurd (cc)
  resolves (Serve daemon) is h = absurd (cc)
  resolves (BadValue option) is h = absurd (cc)

  tells : (request : Request) → said request ≡ ToTellVersion → Does among (Ok request) ran given left out out' err err' → ShowsText ran version_text out out' err err' × Keeps given left
  tells Resolve is h = absurd (cc)
  tells (Explain rule json) is h = absurd (cc)
  tells (Run order) is h = absurd (cc)
  tells (Check order) is h = absurd (cc)
  tells (Help topic) is h = absurd (cc)
  tells Version is h = h
  tells (Script workers) is h = absurd (cc)
  tells Editor is h = absurd (cc)
  tells (Serve daemon) is h = absurd (cc)
  tells (BadValue option) is h = absurd (cc)

  resolved : (words : List Text) → refusals words ≡ [] → asked_by words ≡ ToResolve → Runs among words ran given left out out' err err' → Resolves ran given left out out' err err' ⊎ (RunsOut ran err err' × Keeps out out' × Keeps given left)
  resolved words none is r = by r.asked r.asks r.does
    where
      by : (a : Result Request Error) → Asks words a → Does among a ran given left out out' err err' → Resolves ran given left out out' err err' ⊎ (RunsOut ran err err' × Keeps out out' × Keeps given left)
      by (Ok request) asks did = inl (resolves request (asked words request none asks ∙ is) did)
      by (Err e) asks did = inr (ran_out among ran given left out out' err err' e (failed words e none asks) did.0, did.1, did.2)

  helped_by_flag : (words : List Text) → refusals words ≡ kind.DisplayHelp ∷ [] → command_behind words ≡ None → Runs among words ran given left out out' err err' → ShowsOrRunsOut program_help_text ran out out' err err' × Keeps given left
  helped_by_flag words one none r = by r.asked r.asks r.does
    where
      by : (a : Result Request Error) → Asks words a → Does among a ran given left out out' err err' → ShowsOrRunsOut program_help_text ran out out' err err' × Keeps given left
      by (Ok request) asks did =
          let h = helps among ran given left out out' err err' request None (asked_help words request one asks ∙ ap ToHelp none) did in
          (inl h.0, h.1)
      by (Err e) asks did = elim (failed_for words e kind.DisplayHelp one asks) [
        | inl memory ↦ (inr (ran_out among ran given left out out' err err' e memory did.0, did.1), did.2)
        | inr other ↦ absurd (other.1 other.0)
      ]

  told_version : (words : List Text) → refusals words ≡ kind.DisplayVersion ∷ [] → Runs among words ran given left out out' err err' → ShowsOrRunsOut version_text ran out out' err err' × Keeps given left
  told_version words one r = by r.asked r.asks r.does
    where
      by : (a : Result Request Error) → Asks words a → Does among a ran given left out out' err err' → ShowsOrRunsOut version_text ran out out' err err' × Keeps given left
      by (Ok request) asks did =
          let h = tells request (asked_version words request one asks) did in
          (inl h.0, h.1)
      by (Err e) asks did = elim (failed_for words e kind.DisplayVersion one asks) [
        | inl memory ↦ (inr (ran_out among ran given left out out' err err' e memory did.0, did.1), did.2)
        | inr other ↦ absurd (other.2 other.0)
      ]

  pub refused_for : (words : List Text) (k : ErrorKind) → k ≢ kind.DisplayHelp → k ≢ kind.DisplayVersion → refusals words ≡ k ∷ [] → Runs among words ran given left out out' err err' → RefusesFor k ran out out' err err' × Keeps given left
  refused_for words k no_help no_version one r = by r.asked r.asks r.does
    where
      by : (a : Result Request Error) → Asks words a → Does among a ran given left out out' err err' → RefusesFor k ran out out' err err' × Keeps given left
      by (Ok request) asks did = absurd (never_asked words request k no_help no_version one asks)
      by (Err e) asks did = elim (failed_for words e k one asks) [
        | inl memory ↦ ((inr (ran_out among ran given left out out' err err' e memory did.0), did.1), did.2)
        | inr other ↦ ((inl (subst (λ x. Refuses x ran err err') other.0 did.0), did.1), did.2)
      ]

-- ---- the command lines

resolve_free : (program : Text) → refusals (command_line program (codes "resolve" ∷ [])) ≡ []
unfolding clap_on_literals
resolve_free program = refl

resolve_named : (program : Text) → asked_by (command_line program (codes "resolve" ∷ [])) ≡ ToResolve
unfolding clap_on_literals
resolve_named program = refl

help_free : (program : Text) → refusals (command_line program (codes "help" ∷ [])) ≡ []
unfolding clap_on_literals
help_free program = refl

help_named : (program : Text) → asked_by (command_line program (codes "help" ∷ [])) ≡ ToHelp None
unfolding clap_on_literals
help_named program = refl

help_flag : (program : Text) → refusals (command_line program (codes "--help" ∷ [])) ≡ kind.DisplayHelp ∷ []
unfolding clap_on_literals
help_flag program = refl

no_command_behind : (program : Text) → command_behind (command_line program (codes "--help" ∷ [])) ≡ None
no_command_behind program = refl

version_flag : (program : Text) → refusals (command_line program (codes "--version" ∷ [])) ≡ kind.DisplayVersion ∷ []
unfolding clap_on_literals
version_flag program = refl

nothing_said : (program : Text) → refusals (command_line program []) ≡ kind.MissingSubcommand ∷ []
unfolding clap_on_literals
nothing_said program = refl

pub resolve_alone : (among : Around) → ResolvesAlone among
resolve_alone among program ran given left out out' err err' r =
    resolved among ran given left out out' err err' (command_line program (codes "resolve" ∷ [])) (resolve_free program) (resolve_named program) r

pub help_alone : (among : Around) → HelpsAlone among
help_alone among program ran given left out out' err err' r =
    helped among ran given left out out' err err' (command_line program (codes "help" ∷ [])) None (help_free program) (help_named program) r

pub help_by_flag : (among : Around) → HelpsByFlag among
help_by_flag among program ran given left out out' err err' r =
    helped_by_flag among ran given left out out' err err' (command_line program (codes "--help" ∷ [])) (help_flag program) (no_command_behind program) r

pub version_told : (among : Around) → TellsVersion among
version_told among program ran given left out out' err err' r =
    told_version among ran given left out out' err err' (command_line program (codes "--version" ∷ [])) (version_flag program) r

no_help : kind.MissingSubcommand ≢ kind.DisplayHelp
no_help e = cc

no_version : kind.MissingSubcommand ≢ kind.DisplayVersion
no_version e = cc

pub unknown_no_help : kind.UnknownArgument ≢ kind.DisplayHelp
unknown_no_help e = cc

pub unknown_no_version : kind.UnknownArgument ≢ kind.DisplayVersion
unknown_no_version e = cc

pub nothing_refused : (among : Around) → RefusesNothing among
nothing_refused among program ran given left out out' err err' r =
    refused_for among ran given left out out' err err' (command_line program []) kind.MissingSubcommand no_help no_version (nothing_said program) r

pub word_behind_refused : (among : Around) → RefusesWordBehind among
word_behind_refused among program word plain ran given left out out' err err' r =
    refused_for among ran given left out out' err err' (command_line program (codes "resolve" ∷ (word ∷ []))) kind.UnknownArgument unknown_no_help unknown_no_version (resolve_word program word plain) r
