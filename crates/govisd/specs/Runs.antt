-- What the program does: its status, what it writes and where, and what it reads.
use Rattle.std.specs.Prelude.{◌≡◌, ◌+◌, ◌++◌, ◌⊎◌, ℕ, Bool, true, List, [], ◌∷◌, take, Option, Some, None, Result, Ok, Err, IfSome, MatchResult, codes, option_map, string_bytes}
use Rattle.std.specs.Io.KnownBytes.{Appends, Keeps}
use Rattle.std.specs.declared.string.String.{String}
use Rattle.clap.specs.Walk.{Text}
use Rattle.clap.specs.Values.{kind_of}
use Rattle.clap.specs.declared.error.Error.{Error}
use Rattle.clap.specs.declared.error.kind.ErrorKind.{ErrorKind}
use Rattle.clap.specs.declared.error.kind.ErrorKind.TheVariants.{MissingRequiredArgument, MissingSubcommand, OutOfMemory, UnknownArgument}
use Rattle.govisd_resolve.specs.Inputs.{ReadsUpTo}
use Rattle.govisd_resolve.specs.Outputs.{IsCutShort}
use Rattle.govisd_resolve.specs.Reports.{IsEnd, ReadsAll, max_bytes}
use Rattle.govisd_resolve.specs.declared.run.ResolveEnd.{ResolveEnd}
use Rattle.govisd_resolve.specs.declared.run.ResolveEnd.TheVariants.{Memory}
use Rattle.govisd.specs.declared.program.Ran.{Ran}
use Rattle.govisd_words.specs.declared.words.ValueOption.{ValueOption}
use Rattle.govisd_words.specs.declared.words.ValueOption.TheVariants.{Workers, Steps}
use Rattle.govisd_words.specs.declared.words.Request.{Request}
use Rattle.govisd_words.specs.declared.words.Request.TheVariants.{Resolve, Explain, Check, Run, Editor, Script, Serve, Help, Version, BadValue}
use Rattle.go_explain_core.specs.Naming.{rule_of_number}
use Rattle.govisd_folders.specs.Checks.{IsAnswerOfCheck}
use Rattle.govisd_folders.specs.declared.checking.CheckAnswer.{CheckAnswer}
use Rattle.go_text_core.specs.Rules.{rule_number}
use Rattle.go_text_core.specs.declared.rule.Rule.{Rule}
use Rattle.govisd_words.specs.Asking.{Asks, is_plain, command_line}
use Rattle.go_explain_core.specs.Telling.{explained_text, json_line, json_list, list_text, listed_text, told_text, unknown_text}
use Rattle.govisd_words.specs.Counts.{connections_in, steps_in, workers_in}
use Rattle.govisd_words.specs.Styles.{json_style, plain_style}
use Rattle.go_folder_core.specs.declared.orders.Style.{Style}
use Rattle.govisd.specs.Daemons.{Scripts, Serves}
use Rattle.govisd.specs.Editors.{ServesEditor}
use Rattle.govisd.specs.Launches.{Launching, RunsFolder}
use Rattle.govisd.specs.Says.{RunsOut, SaysText, SaysUnwritten, WritesAnswer}
use Rattle.govisd_words.specs.Statuses.{end_status, refusal_status}
use Rattle.govisd_words.specs.Texts.{bad_value_text, end_text, help_of, program_help_text, refused_text, unknown_command_text, version_text}

-- a run of `resolve`: how it ended, over the bytes that the reader had, what was written, and what was said
pub record Resolves (ran : Ran) (given left out out' err err' : Option (List ℕ)) : Type 0 where
  pub ending : ResolveEnd
  pub status : ran.status ≡ end_status ending
  pub writes : IfSome given (λ bytes. IsEnd ending (take (max_bytes + 1) bytes) out out')
  pub few : ReadsUpTo (max_bytes + 1) given left
  pub all : IfSome given (λ bytes. ReadsAll ending (take (max_bytes + 1) bytes) given left)
  pub says : SaysText ran.is_told (end_text ending) err err'

-- a text that was asked for was written and nothing said, or it could not be written whole
abbrev pub ShowsText : Ran → List ℕ → Option (List ℕ) → Option (List ℕ) → Option (List ℕ) → Option (List ℕ) → Type 0
ShowsText ran text out out' err err' =
    ((ran.status ≡ 0) × (ran.is_told ≡ true) × Appends out out' text × Keeps err err')
    ⊎ (IsCutShort out out' text × SaysUnwritten ran err err')

-- a text that was made is shown
abbrev pub ShowsMade : {Z E : Type 0} → Result (String Z) E → Ran → Option (List ℕ) → Option (List ℕ) → Option (List ℕ) → Option (List ℕ) → Type 0
ShowsMade made ran out out' err err' =
    MatchResult made (λ text. ShowsText ran (string_bytes text) out out' err err') (λ _. RunsOut ran err err' × Keeps out out')

-- a text is shown, where memory does not run out
abbrev pub ShowsOrRunsOut : List ℕ → Ran → Option (List ℕ) → Option (List ℕ) → Option (List ℕ) → Option (List ℕ) → Type 0
ShowsOrRunsOut text ran out out' err err' = ShowsText ran text out out' err err' ⊎ (RunsOut ran err err' × Keeps out out')

-- nothing has a name, and that is said by a text that was made
abbrev pub RefusesMade : {Z E : Type 0} → Result (String Z) E → Ran → Option (List ℕ) → Option (List ℕ) → Type 0
RefusesMade made ran err err' = MatchResult made (λ text. (ran.status ≡ 2) × SaysText ran.is_told (string_bytes text) err err') (λ _. RunsOut ran err err')

-- nothing has a name, and that is said, where memory does not run out
abbrev pub RefusesName : List ℕ → Ran → Option (List ℕ) → Option (List ℕ) → Type 0
RefusesName text ran err err' = ((ran.status ≡ 2) × SaysText ran.is_told text err err') ⊎ RunsOut ran err err'

-- what is written of the rule that a word names
abbrev pub ExplainsFound : Bool → Text → Option Rule → Ran → Option (List ℕ) → Option (List ℕ) → Option (List ℕ) → Option (List ℕ) → Type 0
ExplainsFound json word None ran out out' err err' = RefusesName (unknown_text word) ran err err' × Keeps out out'
ExplainsFound json word (Some rule) ran out out' err err' = ShowsOrRunsOut (told_text json rule) ran out out' err err'

-- a rule is explained, or all are listed, maybe as JSON
abbrev pub Explains : Bool → Option Text → Ran → Option (List ℕ) → Option (List ℕ) → Option (List ℕ) → Option (List ℕ) → Type 0
Explains json None ran out out' err err' = ShowsOrRunsOut (listed_text json) ran out out' err err'
Explains json (Some word) ran out out' err err' = ExplainsFound json word (rule_of_number word) ran out out' err err'

-- what the check of a folder may answer: by the folder, by how the faults are to be written, and by the path of the module, if one is given; none
-- where memory runs out
abbrev pub Answering : Type 1
Answering = Text → Style → Option Text → Option CheckAnswer → Type 0

-- this folder was checked, and the answer was given
pub record GivesAnswer (Answers : Answering) (folder : Text) (style : Style) (path : Option Text) (ran : Ran) (out out' err err' : Option (List ℕ)) : Type 0 where
  pub answer : CheckAnswer
  pub answers : Answers folder style path (Some answer)
  pub is : IsAnswerOfCheck folder style path answer
  pub gives : WritesAnswer answer ran out out' err err'

-- or memory ran out in its check
abbrev pub ChecksFolder : Answering → Text → Style → Option Text → Ran → Option (List ℕ) → Option (List ℕ) → Option (List ℕ) → Option (List ℕ) → Type 0
ChecksFolder Answers folder style path ran out out' err err' =
    GivesAnswer Answers folder style path ran out out' err err' ⊎ (Answers folder style path None × RunsOut ran err err' × Keeps out out')

-- what the program stands among: what checks folders, and what runs them
pub record Around : Type 1 where
  pub answers : Answering
  pub launches : Launching

abbrev pub around : Answering → Launching → Around
around answers launches = record { answers = answers; launches = launches }

-- the help of the command that has a name
abbrev pub HelpsFound : Text → Option (List ℕ) → Ran → Option (List ℕ) → Option (List ℕ) → Option (List ℕ) → Option (List ℕ) → Type 0
HelpsFound name None ran out out' err err' = RefusesName (unknown_command_text name) ran err err' × Keeps out out'
HelpsFound name (Some text) ran out out' err err' = ShowsText ran text out out' err err'

-- the program's help, or a command's
abbrev pub Helps : Option Text → Ran → Option (List ℕ) → Option (List ℕ) → Option (List ℕ) → Option (List ℕ) → Type 0
Helps None ran out out' err err' = ShowsText ran program_help_text out out' err err'
Helps (Some name) ran out out' err err' = HelpsFound name (help_of name) ran out out' err err'

-- what is said of a command line that is refused: why, and that it is
abbrev pub RefusalSays : ErrorKind → Ran → Option (List ℕ) → Option (List ℕ) → Type 0
RefusalSays OutOfMemory ran err err' = SaysText ran.is_told (end_text Memory) err err'
RefusalSays _ ran err err' = (reason : List ℕ) × SaysText ran.is_told (reason ++ refused_text) err err'

pub record Refuses (kind : ErrorKind) (ran : Ran) (err err' : Option (List ℕ)) : Type 0 where
  pub status : ran.status ≡ refusal_status kind
  pub says : RefusalSays kind ran err err'

-- a number that is none of those that are taken is refused, and that is said
abbrev pub RefusesValue : ValueOption → Ran → Option (List ℕ) → Option (List ℕ) → Type 0
RefusesValue option ran err err' = (ran.status ≡ 2) × SaysText ran.is_told (bad_value_text option) err err'

-- what is done for what was asked for, among these
abbrev pub Does : Around → Result Request Error → Ran → Option (List ℕ) → Option (List ℕ) → Option (List ℕ) → Option (List ℕ) → Option (List ℕ) → Option (List ℕ) → Type 0
Does among (Ok Resolve) ran given left out out' err err' = Resolves ran given left out out' err err'
Does among (Ok (Explain rule json)) ran given left out out' err err' = Explains json (option_map (λ word. word.now) rule) ran out out' err err' × Keeps given left
Does among (Ok (Check order)) ran given left out out' err err' =
    ChecksFolder among.answers order.folder.now order.style (option_map (λ word. word.now) order.module_path) ran out out' err err' × Keeps given left
Does among (Ok (Run order)) ran given left out out' err err' =
    RunsFolder among.launches order.folder.now (option_map (λ word. word.now) order.module_path) (option_map (λ word. word.now) order.main_path) order.steps ran out out' err err' × Keeps given left
Does among (Ok Editor) ran given left out out' err err' = ServesEditor ran err err'
Does among (Ok (Script workers)) ran given left out out' err err' = Scripts ran given left out out' err err'
Does among (Ok (Serve daemon)) ran given left out out' err err' =
    Serves daemon.address.now ran err err' × Keeps out out' × Keeps given left
Does among (Ok (Help topic)) ran given left out out' err err' = Helps (option_map (λ word. word.now) topic) ran out out' err err' × Keeps given left
Does among (Ok Version) ran given left out out' err err' = ShowsText ran version_text out out' err err' × Keeps given left
Does among (Ok (BadValue option)) ran given left out out' err err' = RefusesValue option ran err err' × Keeps out out' × Keeps given left
Does among (Err e) ran given left out out' err err' = Refuses (kind_of e) ran err err' × Keeps out out' × Keeps given left

-- it is done for what the words ask for
pub record Runs (among : Around) (words : List Text) (ran : Ran) (given left out out' err err' : Option (List ℕ)) : Type 0 where
  pub asked : Result Request Error
  pub asks : Asks words asked
  pub does : Does among asked ran given left out out' err err'

-- one run of the program for some words
abbrev pub RunsFor : Around → List Text → (Ran → Option (List ℕ) → Option (List ℕ) → Option (List ℕ) → Option (List ℕ) → Type 0) → Type 0
RunsFor among words Happens =
    (ran : Ran) (given left out out' err err' : Option (List ℕ)) → Runs among words ran given left out out' err err' → Happens ran out out' err err' × Keeps given left

-- `explain` with a rule's number writes what the rule means
abbrev pub ExplainsEach : Around → Type 0
ExplainsEach among = (program : Text) (rule : Rule) → RunsFor among (command_line program (codes "explain" ∷ (rule_number rule ∷ []))) (ShowsOrRunsOut (explained_text rule))

-- and as JSON where that is asked for
abbrev pub ExplainsEachAsJson : Around → Type 0
ExplainsEachAsJson among = (program : Text) (rule : Rule) → RunsFor among (command_line program (codes "explain" ∷ (rule_number rule ∷ (codes "--json" ∷ [])))) (ShowsOrRunsOut (json_line rule))

-- and with a word that names no rule says so
abbrev pub RefusesOthers : Around → Type 0
RefusesOthers among =
    (program word : Text) → is_plain word ≡ true → rule_of_number word ≡ None → RunsFor among (command_line program (codes "explain" ∷ (word ∷ []))) (λ ran out out' err err'. RefusesName (unknown_text word) ran err err' × Keeps out out')

-- and alone lists all rules
abbrev pub ListsAll : Around → Type 0
ListsAll among = (program : Text) → RunsFor among (command_line program (codes "explain" ∷ [])) (ShowsOrRunsOut list_text)

abbrev pub ListsAllAsJson : Around → Type 0
ListsAllAsJson among = (program : Text) → RunsFor among (command_line program (codes "explain" ∷ (codes "--json" ∷ []))) (ShowsOrRunsOut json_list)

-- `check` alone checks the folder that the program runs in, where memory does not run out before
abbrev pub ChecksHere : Around → Type 0
ChecksHere among =
    (program : Text) → RunsFor among (command_line program (codes "check" ∷ [])) (λ ran out out' err err'. ChecksFolder among.answers (codes ".") plain_style None ran out out' err err' ⊎ (RunsOut ran err err' × Keeps out out'))

-- `check` with a folder checks this one, where memory does not run out before
abbrev pub ChecksEach : Around → Type 0
ChecksEach among = (program folder : Text) → is_plain folder ≡ true → RunsFor among (command_line program (codes "check" ∷ (folder ∷ []))) (λ ran out out' err err'. ChecksFolder among.answers folder plain_style None ran out out' err err' ⊎ (RunsOut ran err err' × Keeps out out'))

-- with the path of its module, it is checked as that of this module
abbrev pub ChecksEachModule : Around → Type 0
ChecksEachModule among =
    (program folder path : Text) → is_plain folder ≡ true → is_plain path ≡ true → RunsFor among (command_line program (codes "check" ∷ (folder ∷ (codes "--module" ∷ (path ∷ []))))) (λ ran out out' err err'. ChecksFolder among.answers folder plain_style (Some path) ran out out' err err' ⊎ (RunsOut ran err err' × Keeps out out'))

-- and as JSON where that is asked for
abbrev pub ChecksEachAsJson : Around → Type 0
ChecksEachAsJson among =
    (program folder path : Text) → is_plain folder ≡ true → is_plain path ≡ true → RunsFor among (command_line program (codes "check" ∷ (folder ∷ (codes "--module" ∷ (path ∷ (codes "--json" ∷ [])))))) (λ ran out out' err err'. ChecksFolder among.answers folder json_style (Some path) ran out out' err err' ⊎ (RunsOut ran err err' × Keeps out out'))

-- `help` with a command's name writes what the command takes
abbrev pub HelpsEach : Around → Type 0
HelpsEach among =
    (program name text : Text) → is_plain name ≡ true → help_of name ≡ Some text → RunsFor among (command_line program (codes "help" ∷ (name ∷ []))) (ShowsOrRunsOut text)

-- and with a word that names none says so
abbrev pub RefusesOtherCommands : Around → Type 0
RefusesOtherCommands among =
    (program name : Text) → is_plain name ≡ true → help_of name ≡ None → RunsFor among (command_line program (codes "help" ∷ (name ∷ []))) (λ ran out out' err err'. RefusesName (unknown_command_text name) ran err err' × Keeps out out')

-- `resolve` alone resolves what it reads, where memory does not run out before
abbrev pub ResolvesAlone : Around → Type 0
ResolvesAlone among =
    (program : Text) (ran : Ran) (given left out out' err err' : Option (List ℕ)) → Runs among (command_line program (codes "resolve" ∷ [])) ran given left out out' err err' → Resolves ran given left out out' err err' ⊎ (RunsOut ran err err' × Keeps out out' × Keeps given left)

-- `help` alone writes the program's help
abbrev pub HelpsAlone : Around → Type 0
HelpsAlone among = (program : Text) → RunsFor among (command_line program (codes "help" ∷ [])) (ShowsOrRunsOut program_help_text)

-- and so does `--help`
abbrev pub HelpsByFlag : Around → Type 0
HelpsByFlag among = (program : Text) → RunsFor among (command_line program (codes "--help" ∷ [])) (ShowsOrRunsOut program_help_text)

-- `--version` writes the version
abbrev pub TellsVersion : Around → Type 0
TellsVersion among = (program : Text) → RunsFor among (command_line program (codes "--version" ∷ [])) (ShowsOrRunsOut version_text)

-- a line is refused for a reason, where memory does not run out before, and nothing is written on standard output
abbrev pub RefusesFor : ErrorKind → Ran → Option (List ℕ) → Option (List ℕ) → Option (List ℕ) → Option (List ℕ) → Type 0
RefusesFor kind ran out out' err err' = (Refuses kind ran err err' ⊎ RunsOut ran err err') × Keeps out out'

-- a line without a command is refused
abbrev pub RefusesNothing : Around → Type 0
RefusesNothing among = (program : Text) → RunsFor among (command_line program []) (RefusesFor MissingSubcommand)

-- and one of `resolve` with a word behind it
abbrev pub RefusesWordBehind : Around → Type 0
RefusesWordBehind among =
    (program word : Text) → is_plain word ≡ true → RunsFor among (command_line program (codes "resolve" ∷ (word ∷ []))) (RefusesFor UnknownArgument)

-- `script` alone serves a script, where memory does not run out before
abbrev pub ScriptsAlone : Around → Type 0
ScriptsAlone among =
    (program : Text) (ran : Ran) (given left out out' err err' : Option (List ℕ)) → Runs among (command_line program (codes "script" ∷ [])) ran given left out out' err err' → Scripts ran given left out out' err err' ⊎ (RunsOut ran err err' × Keeps out out' × Keeps given left)

-- and with a number of workers, where it is 1 to 64
abbrev pub ScriptsEach : Around → Type 0
ScriptsEach among =
    (program count : Text) (workers : ℕ) → is_plain count ≡ true → workers_in (Some count) ≡ Some workers → (ran : Ran) (given left out out' err err' : Option (List ℕ)) → Runs among (command_line program (codes "script" ∷ (codes "--workers" ∷ (count ∷ [])))) ran given left out out' err err' → Scripts ran given left out out' err err' ⊎ (RunsOut ran err err' × Keeps out out' × Keeps given left)

-- another number than 1 to 64 is refused, and nothing is read or written
abbrev pub RefusesWorkers : Around → Type 0
RefusesWorkers among =
    (program count : Text) → is_plain count ≡ true → workers_in (Some count) ≡ None → RunsFor among (command_line program (codes "script" ∷ (codes "--workers" ∷ (count ∷ [])))) (λ ran out out' err err'. (RefusesValue Workers ran err err' ⊎ RunsOut ran err err') × Keeps out out')

-- `serve` with an address serves there, where memory does not run out before
abbrev pub ServesEach : Around → Type 0
ServesEach among =
    (program address : Text) → is_plain address ≡ true → RunsFor among (command_line program (codes "serve" ∷ (codes "--listen" ∷ (address ∷ [])))) (λ ran out out' err err'. (Serves address ran err err' ⊎ RunsOut ran err err') × Keeps out out')

-- and with numbers of workers and of connections, where they are such that are taken
abbrev pub ServesAsTold : Around → Type 0
ServesAsTold among =
    (program address count most : Text) (workers : ℕ) (connections : Option ℕ) → is_plain address ≡ true → is_plain count ≡ true → is_plain most ≡ true → workers_in (Some count) ≡ Some workers → connections_in (Some most) ≡ Some connections → RunsFor among (command_line program (codes "serve" ∷ (codes "--listen" ∷ (address ∷ (codes "--workers" ∷ (count ∷ (codes "--connections" ∷ (most ∷ [])))))))) (λ ran out out' err err'. (Serves address ran err err' ⊎ RunsOut ran err err') × Keeps out out')

-- but not without an address
abbrev pub RefusesNowhere : Around → Type 0
RefusesNowhere among = (program : Text) → RunsFor among (command_line program (codes "serve" ∷ [])) (RefusesFor MissingRequiredArgument)

-- `run` with a folder runs this one, for 1,000,000,000 steps, where memory does not run out before
abbrev pub RunsEach : Around → Type 0
RunsEach among = (program folder : Text) → is_plain folder ≡ true → RunsFor among (command_line program (codes "run" ∷ (folder ∷ []))) (λ ran out out' err err'. RunsFolder among.launches folder None None 1000000000 ran out out' err err' ⊎ (RunsOut ran err err' × Keeps out out'))

-- and this package of it, as of this module, for so many steps, where that is told
abbrev pub RunsAsTold : Around → Type 0
RunsAsTold among =
    (program folder path main count : Text) (steps : ℕ) → is_plain folder ≡ true → is_plain path ≡ true → is_plain main ≡ true → is_plain count ≡ true → steps_in (Some count) ≡ Some steps → RunsFor among (command_line program (codes "run" ∷ (folder ∷ (codes "--module" ∷ (path ∷ (codes "--main" ∷ (main ∷ (codes "--steps" ∷ (count ∷ []))))))))) (λ ran out out' err err'. RunsFolder among.launches folder (Some path) (Some main) steps ran out out' err err' ⊎ (RunsOut ran err err' × Keeps out out'))

-- but not for what is no number of steps
abbrev pub RefusesSteps : Around → Type 0
RefusesSteps among =
    (program folder count : Text) → is_plain folder ≡ true → is_plain count ≡ true → steps_in (Some count) ≡ None → RunsFor among (command_line program (codes "run" ∷ (folder ∷ (codes "--steps" ∷ (count ∷ []))))) (λ ran out out' err err'. (RefusesValue Steps ran err err' ⊎ RunsOut ran err err') × Keeps out out')

-- `lsp` alone serves an editor, where memory does not run out before
abbrev pub ServesEditorAlone : Around → Type 0
ServesEditorAlone among =
    (program : Text) (ran : Ran) (given left out out' err err' : Option (List ℕ)) → Runs among (command_line program (codes "lsp" ∷ [])) ran given left out out' err err' → ServesEditor ran err err' ⊎ (RunsOut ran err err' × Keeps out out' × Keeps given left)

-- and so does `lsp --stdio`
abbrev pub ServesEditorOnStdio : Around → Type 0
ServesEditorOnStdio among =
    (program : Text) (ran : Ran) (given left out out' err err' : Option (List ℕ)) → Runs among (command_line program (codes "lsp" ∷ (codes "--stdio" ∷ []))) ran given left out out' err err' → ServesEditor ran err err' ⊎ (RunsOut ran err err' × Keeps out out' × Keeps given left)

-- but a line of `lsp` with a word after it is refused
abbrev pub RefusesEditorWord : Around → Type 0
RefusesEditorWord among =
    (program word : Text) → is_plain word ≡ true → RunsFor among (command_line program (codes "lsp" ∷ (word ∷ []))) (RefusesFor UnknownArgument)
