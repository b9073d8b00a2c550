-- What runs of `lsp` do.
use Rattle.std.proofs.Common.{◌≡◌, ◌∙◌, ◌⊎◌, inl, inr, ℕ, List, [], ◌∷◌, Option, Result, Ok, Err, refl}
use Rattle.std.specs.Prelude.{codes}
use Rattle.std.specs.Io.KnownBytes.{Keeps}
use Rattle.clap.specs.Walk.{Text}
use Rattle.clap.specs.declared.error.Error.{Error}
use Rattle.clap.specs.declared.error.kind.ErrorKind.TheVariants as kind
use Rattle.clap.proofs.OnLiterals.{clap_on_literals}
use Rattle.govisd.specs.declared.program.Ran.{Ran}
use Rattle.govisd_words.specs.declared.words.Request.{Request}
use Rattle.govisd_words.specs.declared.words.Request.TheVariants.{Resolve, Explain, Check, Run, Editor, Script, Serve, Help, Version, BadValue}
use Rattle.govisd_words.specs.Asking.{Asks, ToServeEditor, command_line, asked_by_subcommand as asked_by, refusals, said}
use Rattle.govisd.specs.Editors.{ServesEditor}
use Rattle.govisd.specs.Runs.{Around, Does, RefusesEditorWord, Runs, ServesEditorAlone, ServesEditorOnStdio}
use Rattle.govisd.specs.Says.{RunsOut}
use Rattle.govisd_words.proofs.PlainWords.{lsp_word}
use Rattle.govisd.proofs.FlagLemmas.{refused_for, unknown_no_help, unknown_no_version}
use Rattle.govisd.proofs.RunLemmas.{asked, failed, ran_out}

-- one run
module _ (among : Around) (ran : Ran) (given left out out' err err' : Option (List ℕ)) where
  serves : (request : Request) → said request ≡ ToServeEditor → Does among (Ok request) ran given left out out' err err' → ServesEditor ran err err'
  serves Resolve is h = absurd (cc)
  serves (Explain rule json) is h = absurd (cc)
  serves (Run order) is h = absurd (cc)
  serves (Check order) is h = absurd (cc)
  serves Editor is h = h
  serves (Script workers) is h = absurd (cc)
  serves (Serve daemon) is h = absurd (cc)
  serves (Help topic) is h = absurd (cc)
  serves Version is h = absurd (cc)
  serves (BadValue option) is h = absurd (cc)

  served : (words : List Text) → refusals words ≡ [] → asked_by words ≡ ToServeEditor → Runs among words ran given left out out' err err' → ServesEditor ran err err' ⊎ (RunsOut ran err err' × Keeps out out' × Keeps given left)
  served words none is r = by r.asked r.asks r.does
    where
      by : (a : Result Request Error) → Asks words a → Does among a ran given left out out' err err' → ServesEditor ran err err' ⊎ (RunsOut ran err err' × Keeps out out' × Keeps given left)
      by (Ok request) asks did = inl (serves request (asked words request none asks ∙ is) did)
      by (Err e) asks did = inr (ran_out among ran given left out out' err err' e (failed words e none asks) did.0, did.1, did.2)

-- ---- the command lines

alone_free : (program : Text) → refusals (command_line program (codes "lsp" ∷ [])) ≡ []
unfolding clap_on_literals
alone_free program = refl

alone_named : (program : Text) → asked_by (command_line program (codes "lsp" ∷ [])) ≡ ToServeEditor
unfolding clap_on_literals
alone_named program = refl

stdio_free : (program : Text) → refusals (command_line program (codes "lsp" ∷ (codes "--stdio" ∷ []))) ≡ []
unfolding clap_on_literals
stdio_free program = refl

stdio_named : (program : Text) → asked_by (command_line program (codes "lsp" ∷ (codes "--stdio" ∷ []))) ≡ ToServeEditor
unfolding clap_on_literals
stdio_named program = refl

pub editor_alone : (among : Around) → ServesEditorAlone among
editor_alone among program ran given left out out' err err' r =
    served among ran given left out out' err err' (command_line program (codes "lsp" ∷ [])) (alone_free program) (alone_named program) r

pub editor_on_stdio : (among : Around) → ServesEditorOnStdio among
editor_on_stdio among program ran given left out out' err err' r =
    served among ran given left out out' err err' (command_line program (codes "lsp" ∷ (codes "--stdio" ∷ []))) (stdio_free program) (stdio_named program) r

pub editor_word : (among : Around) → RefusesEditorWord among
editor_word among program word plain ran given left out out' err err' r =
    refused_for among ran given left out out' err err' (command_line program (codes "lsp" ∷ (word ∷ []))) kind.UnknownArgument unknown_no_help unknown_no_version (lsp_word program word plain) r
