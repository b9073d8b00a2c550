-- What the words of a command line ask for. How words are read is `clap`'s to say (its `specs/Faults.antt`): what it
-- refuses them for, and which subcommand they name with what behind it.
use Rattle.std.specs.Prelude.{◌≡◌, ◌≢◌, ◌⊎◌, ◌==◌, ◌||◌, ℕ, Bool, true, false, not, List, [], ◌∷◌, Option, Some, None, Result, Ok, Err, codes, option_and_then, option_map, slice_get, nat_lt, unwrap_or, if◌then◌else◌}
use Rattle.std.specs.Str.{bytes_eq}
use Rattle.std.specs.Option.{option_map_or}
use Rattle.clap.specs.Walk.{Row, Rule, Text, count_of, first_of}
use Rattle.clap.specs.Simple.{App, Shape, new_app, new_rule, new_shape, subcommand_of, with_rule, with_subcommand}
use Rattle.clap.specs.Faults.{fault_of}
use Rattle.clap.specs.Kinds.{Kinds, IsAmong}
use Rattle.clap.specs.Values.{kind_of}
use Rattle.clap.specs.declared.builder.action.ArgAction.TheVariants.{Count}
use Rattle.clap.specs.declared.error.Error.{Error}
use Rattle.clap.specs.declared.error.kind.ErrorKind.TheVariants as kind
use Rattle.go_folder_core.specs.declared.orders.Color.{Color}
use Rattle.go_folder_core.specs.declared.orders.Color.TheVariants as color
use Rattle.go_folder_core.specs.declared.orders.Format.{Format}
use Rattle.go_folder_core.specs.declared.orders.Format.TheVariants as format
use Rattle.go_folder_core.specs.declared.orders.Order.{Order}
use Rattle.go_folder_core.specs.declared.orders.Style.{Style}
use Rattle.govisd_words.specs.declared.words.Request.{Request}
use Rattle.go_folder_core.specs.declared.orders.RunOrder.{RunOrder}
use Rattle.govisd_words.specs.declared.words.ValueOption.{ValueOption}
use Rattle.govisd_words.specs.declared.words.ValueOption.TheVariants.{Workers, Connections, Idle, Stall, Steps, Form, Colors}
use Rattle.govisd_words.specs.declared.words.Daemon.{Daemon}
use Rattle.govisd_words.specs.declared.words.Waits.{Waits}
use Rattle.govisd_words.specs.declared.words.Request.TheVariants.{Resolve, Explain, Check, Run, Editor, Script, Serve, Help, Version, BadValue}
use Rattle.govisd_words.specs.Counts.{connections_in, idle_in, stall_in, steps_in, threads_in, workers_in}
use Rattle.govisd_words.specs.Styles.{color_in, format_in, json_style, plain_style, style_of}

-- what is asked for
pub data Asked : Type 0 where
  ToResolve : Asked
  ToExplain : (rule : Option Text) (json : Bool) → Asked
  ToCheck : (folder : Text) (path : Option Text) (style : Style) (workers : Option ℕ) → Asked
  ToRun : (folder : Text) (path main : Option Text) (steps : ℕ) (workers : Option ℕ) → Asked
  ToServeEditor : Asked
  ToScript : (workers : ℕ) → Asked
  ToServe : (address : Text) (workers : ℕ) (connections : Option ℕ) (waits : Waits) (until_input_ends : Bool) → Asked
  ToHelp : (topic : Option Text) → Asked
  ToTellVersion : Asked
  ToRefuse : (option : ValueOption) → Asked

-- the check that an order is of
abbrev pub said_order : Order → Asked
said_order order = ToCheck order.folder.now (option_map (λ word. word.now) order.module_path) order.style order.workers

-- the run that an order is of
abbrev pub said_run : RunOrder → Asked
said_run order = ToRun order.folder.now (option_map (λ word. word.now) order.module_path) (option_map (λ word. word.now) order.main_path) order.steps order.workers

-- the daemon that is described
abbrev pub said_daemon : Daemon → Asked
said_daemon daemon = ToServe daemon.address.now daemon.workers daemon.connections daemon.waits daemon.until_input_ends

-- what a request asks for
abbrev pub said : Request → Asked
said Resolve = ToResolve
said (Explain rule json) = ToExplain (option_map (λ word. word.now) rule) json
said (Check order) = said_order order
said (Run order) = said_run order
said Editor = ToServeEditor
said (Script workers) = ToScript workers
said (Serve daemon) = said_daemon daemon
said (Help topic) = ToHelp (option_map (λ word. word.now) topic)
said Version = ToTellVersion
said (BadValue option) = ToRefuse option

-- whether a script is asked for
abbrev pub is_script : Request → Bool
is_script (Script workers) = true
is_script _ = false

-- `explain`, and behind it maybe a rule, and whether it is told as JSON
abbrev pub json_rule : Rule
json_rule = record (new_rule (codes "json")) { long = Some (codes "json"); action = Some Count }

abbrev pub explain_app : App
explain_app = with_rule (with_rule (new_app (codes "explain")) (new_rule (codes "rule"))) json_rule

-- `check`, behind it maybe a folder, the path of its module, and how the faults are written
abbrev pub folder_rule : Rule
folder_rule = new_rule (codes "folder")

abbrev pub module_rule : Rule
module_rule = record (new_rule (codes "module")) { long = Some (codes "module") }

abbrev pub json_app : App
json_app = with_rule (with_rule (with_rule (new_app (codes "check")) folder_rule) module_rule) json_rule

abbrev pub all_rule : Rule
all_rule = record (new_rule (codes "all")) { long = Some (codes "all"); action = Some Count }

abbrev pub source_rule : Rule
source_rule = record (new_rule (codes "source")) { long = Some (codes "source"); action = Some Count }

abbrev pub shown_app : App
shown_app = with_rule (with_rule json_app all_rule) source_rule

abbrev pub format_rule : Rule
format_rule = record (new_rule (codes "format")) { long = Some (codes "format") }

abbrev pub color_rule : Rule
color_rule = record (new_rule (codes "color")) { long = Some (codes "color") }

-- a number of workers
abbrev pub workers_rule : Rule
workers_rule = record (new_rule (codes "workers")) { long = Some (codes "workers") }

abbrev pub check_app : App
check_app = with_rule (with_rule (with_rule shown_app format_rule) color_rule) workers_rule

-- `run`, behind it maybe a folder, the path of its module, that of a package, a number of steps and one of threads
abbrev pub main_rule : Rule
main_rule = record (new_rule (codes "main")) { long = Some (codes "main") }

abbrev pub main_app : App
main_app = with_rule (with_rule (with_rule (new_app (codes "run")) folder_rule) module_rule) main_rule

abbrev pub steps_rule : Rule
steps_rule = record (new_rule (codes "steps")) { long = Some (codes "steps") }

abbrev pub run_app : App
run_app = with_rule (with_rule main_app steps_rule) workers_rule

-- `script`, with maybe a number of workers
abbrev pub script_app : App
script_app = with_rule (new_app (codes "script")) workers_rule

-- `serve`, with an address, and maybe a number of workers, one of connections, two of seconds, and whether it ends with its input
abbrev pub listen_rule : Rule
listen_rule = record (new_rule (codes "listen")) { long = Some (codes "listen"); required = true }

abbrev pub connections_rule : Rule
connections_rule = record (new_rule (codes "connections")) { long = Some (codes "connections") }

abbrev pub served_app : App
served_app = with_rule (with_rule (with_rule (new_app (codes "serve")) listen_rule) workers_rule) connections_rule

abbrev pub idle_rule : Rule
idle_rule = record (new_rule (codes "idle")) { long = Some (codes "idle") }

abbrev pub stall_rule : Rule
stall_rule = record (new_rule (codes "stall")) { long = Some (codes "stall") }

abbrev pub waiting_app : App
waiting_app = with_rule (with_rule served_app idle_rule) stall_rule

abbrev pub until_rule : Rule
until_rule = record (new_rule (codes "until-input-ends")) { long = Some (codes "until-input-ends"); action = Some Count }

abbrev pub serve_app : App
serve_app = with_rule waiting_app until_rule

-- `lsp`, and after it maybe that it is served on standard input and output
abbrev pub stdio_rule : Rule
stdio_rule = record (new_rule (codes "stdio")) { long = Some (codes "stdio"); action = Some Count }

abbrev pub lsp_app : App
lsp_app = with_rule (new_app (codes "lsp")) stdio_rule

-- `help`, and behind it maybe a command
abbrev pub help_app : App
help_app = with_rule (new_app (codes "help")) (new_rule (codes "command"))

-- the program has a version, and wants one of its subcommands
abbrev pub govisd_shape : Shape
govisd_shape = record (new_shape (codes "govisd")) { has_version = true; subcommand_required = true; disable_help_subcommand = true }

-- the commands on sources
abbrev pub source_app : App
source_app =
    with_subcommand (with_subcommand (with_subcommand (record { top = govisd_shape; subs = [] }) (new_shape (codes "resolve"))) explain_app.top) check_app.top

abbrev pub govisd_app : App
govisd_app =
    with_subcommand (with_subcommand (with_subcommand (with_subcommand (with_subcommand source_app help_app.top) script_app.top) serve_app.top) run_app.top) lsp_app.top

-- why the words are refused, and nothing where they are not
abbrev pub refusals : List Text → Kinds
refusals words = fault_of govisd_app words

-- how the faults are written, by what stands behind the command
abbrev pub style_in : Format → Color → List Row → Style
style_in form when rows = style_of (nat_lt 0 (count_of (codes "json") rows)) (nat_lt 0 (count_of (codes "all") rows)) (nat_lt 0 (count_of (codes "source") rows)) form when

-- what is to be explained, by what stands behind the command
abbrev pub explain_in : List Row → Asked
explain_in rows = ToExplain (first_of (codes "rule") rows) (nat_lt 0 (count_of (codes "json") rows))

-- the check that stands behind the command
abbrev pub order_in : Style → Option ℕ → List Row → Asked
order_in style workers rows = ToCheck (unwrap_or (first_of (codes "folder") rows) (codes ".")) (first_of (codes "module") rows) style workers

-- in a form, with colours and by threads that are told
abbrev pub check_by : Format → Color → Option ℕ → List Row → Asked
check_by form when workers rows = order_in (style_in form when rows) workers rows

-- if the words behind its options are such that they take
abbrev pub check_with : List Row → Option Format → Option Color → Option (Option ℕ) → Asked
check_with rows (Some form) (Some when) (Some workers) = check_by form when workers rows
check_with rows (Some form) (Some when) None = ToRefuse Workers
check_with rows (Some form) None workers = ToRefuse Colors
check_with rows None when workers = ToRefuse Form

abbrev pub check_in : List Row → Asked
check_in rows =
    check_with rows (format_in (first_of (codes "format") rows)) (color_in (first_of (codes "color") rows)) (threads_in (first_of (codes "workers") rows))

-- a run of so many steps by so many threads, if the numbers are such that are taken
abbrev pub run_with : Text → Option Text → Option Text → Option ℕ → Option (Option ℕ) → Asked
run_with folder path main (Some steps) (Some workers) = ToRun folder path main steps workers
run_with folder path main (Some steps) None = ToRefuse Workers
run_with folder path main None workers = ToRefuse Steps

abbrev pub run_of_steps : ℕ → Option ℕ → List Row → Asked
run_of_steps steps workers rows =
    ToRun (unwrap_or (first_of (codes "folder") rows) (codes ".")) (first_of (codes "module") rows) (first_of (codes "main") rows) steps workers

abbrev pub run_in : List Row → Asked
run_in rows =
    run_with (unwrap_or (first_of (codes "folder") rows) (codes ".")) (first_of (codes "module") rows) (first_of (codes "main") rows) (steps_in (first_of (codes "steps") rows))
    (threads_in (first_of (codes "workers") rows))

-- a script with so many workers, if their number is one that is taken
abbrev pub script_with : Option ℕ → Asked
script_with (Some workers) = ToScript workers
script_with None = ToRefuse Workers

abbrev pub script_in : List Row → Asked
script_in rows = script_with (workers_in (first_of (codes "workers") rows))

-- how long a daemon waits
abbrev pub waits_of : ℕ → ℕ → Waits
waits_of idle stall = record { idle = idle; stall = stall }

-- an hour for a peer that sends nothing, and a minute for one that reads nothing
abbrev pub usual_waits : Waits
usual_waits = waits_of 3600 60

-- if the numbers of seconds are such that are taken
abbrev pub waits_with : Option ℕ → Option ℕ → Result Waits ValueOption
waits_with (Some idle) (Some stall) = Ok (waits_of idle stall)
waits_with (Some idle) None = Err Stall
waits_with None stall = Err Idle

abbrev pub waits_in : List Row → Result Waits ValueOption
waits_in rows = waits_with (idle_in (first_of (codes "idle") rows)) (stall_in (first_of (codes "stall") rows))

-- a daemon at an address, if the numbers are such that are taken
abbrev pub serve_with : Text → Option ℕ → Option (Option ℕ) → Result Waits ValueOption → Bool → Asked
serve_with address (Some workers) (Some connections) (Ok waits) until = ToServe address workers connections waits until
serve_with address (Some workers) (Some connections) (Err option) until = ToRefuse option
serve_with address (Some workers) None waits until = ToRefuse Connections
serve_with address None connections waits until = ToRefuse Workers

abbrev pub serve_in : List Row → Asked
serve_in rows =
    serve_with (unwrap_or (first_of (codes "listen") rows) []) (workers_in (first_of (codes "workers") rows)) (connections_in (first_of (codes "connections") rows))
    (waits_in rows) (nat_lt 0 (count_of (codes "until-input-ends") rows))

-- what a subcommand asks for, by its name and what stands behind it
abbrev pub asked_in : Text × List Row → Asked
asked_in (name, rows) =
    if bytes_eq name (codes "explain") then explain_in rows
    else (if bytes_eq name (codes "check") then check_in rows
    else (if bytes_eq name (codes "help") then ToHelp (first_of (codes "command") rows)
    else (if bytes_eq name (codes "script") then script_in rows
    else (if bytes_eq name (codes "serve") then serve_in rows
    else (if bytes_eq name (codes "run") then run_in rows
    else (if bytes_eq name (codes "lsp") then ToServeEditor else ToResolve))))))

-- what the subcommand asks for that the words name
abbrev pub asked_by_subcommand : List Text → Asked
asked_by_subcommand words = option_map_or asked_in (subcommand_of govisd_app words) (ToHelp None)

-- a command on sources, or the help, has this name
abbrev pub names_checker : Text → Bool
names_checker word = bytes_eq word (codes "resolve") || (bytes_eq word (codes "check") || (bytes_eq word (codes "explain") || bytes_eq word (codes "help")))

-- a command that serves or runs has this name
abbrev pub names_server : Text → Bool
names_server word = bytes_eq word (codes "script") || (bytes_eq word (codes "serve") || (bytes_eq word (codes "run") || bytes_eq word (codes "lsp")))

-- a command has this name
abbrev pub names_command : Text → Bool
names_command word = names_checker word || names_server word

abbrev pub if_command : Text → Option Text
if_command word = if names_command word then Some word else None

-- the command whose name stands behind the program's
abbrev pub command_behind : List Text → Option Text
command_behind words = option_and_then if_command (slice_get words 1)

-- a word that is no flag: it is empty, or begins with another byte than a hyphen
abbrev pub is_plain : Text → Bool
is_plain [] = true
is_plain (b ∷ bs) = not (b == 45)

-- what words ask for: by the subcommand that they name, and help and the version also by flags. The help is that of the
-- command whose name stands behind the program's
abbrev pub Asks : List Text → Result Request Error → Type 0
Asks words (Ok request) =
    ((refusals words ≡ []) × (said request ≡ asked_by_subcommand words))
    ⊎ (IsAmong kind.DisplayHelp (refusals words) × (said request ≡ ToHelp (command_behind words)))
    ⊎ (IsAmong kind.DisplayVersion (refusals words) × (said request ≡ ToTellVersion))
Asks words (Err e) = (kind_of e ≡ kind.OutOfMemory) ⊎ (IsAmong (kind_of e) (refusals words) × (kind_of e ≢ kind.DisplayHelp) × (kind_of e ≢ kind.DisplayVersion))

abbrev pub command_line : Text → List Text → List Text
command_line program words = program ∷ words

-- what command lines of each form ask for
pub record AskAs (program : Text) : Type 0 where
  pub resolve : refusals (command_line program (codes "resolve" ∷ [])) ≡ []
  pub resolve_named : asked_by_subcommand (command_line program (codes "resolve" ∷ [])) ≡ ToResolve
  pub explain : refusals (command_line program (codes "explain" ∷ [])) ≡ []
  pub explain_named : asked_by_subcommand (command_line program (codes "explain" ∷ [])) ≡ ToExplain None false
  pub explain_json : refusals (command_line program (codes "explain" ∷ (codes "--json" ∷ []))) ≡ []
  pub explain_json_named : asked_by_subcommand (command_line program (codes "explain" ∷ (codes "--json" ∷ []))) ≡ ToExplain None true
  pub explain_word_json : (word : Text) → is_plain word ≡ true → refusals (command_line program (codes "explain" ∷ (word ∷ (codes "--json" ∷ [])))) ≡ []
  pub explain_word_json_named : (word : Text) → is_plain word ≡ true → asked_by_subcommand (command_line program (codes "explain" ∷ (word ∷ (codes "--json" ∷ [])))) ≡ ToExplain (Some word) true
  pub explain_word : (word : Text) → is_plain word ≡ true → refusals (command_line program (codes "explain" ∷ (word ∷ []))) ≡ []
  pub explain_word_named : (word : Text) → is_plain word ≡ true → asked_by_subcommand (command_line program (codes "explain" ∷ (word ∷ []))) ≡ ToExplain (Some word) false
  pub help : refusals (command_line program (codes "help" ∷ [])) ≡ []
  pub help_named : asked_by_subcommand (command_line program (codes "help" ∷ [])) ≡ ToHelp None
  pub help_word : (word : Text) → is_plain word ≡ true → refusals (command_line program (codes "help" ∷ (word ∷ []))) ≡ []
  pub help_word_named : (word : Text) → is_plain word ≡ true → asked_by_subcommand (command_line program (codes "help" ∷ (word ∷ []))) ≡ ToHelp (Some word)
  pub check : refusals (command_line program (codes "check" ∷ [])) ≡ []
  pub check_named : asked_by_subcommand (command_line program (codes "check" ∷ [])) ≡ ToCheck (codes ".") None plain_style None
  pub check_all : refusals (command_line program (codes "check" ∷ (codes "--all" ∷ []))) ≡ []
  pub check_all_named : asked_by_subcommand (command_line program (codes "check" ∷ (codes "--all" ∷ []))) ≡ ToCheck (codes ".") None (style_of false true false format.Text color.Auto) None
  pub check_source_named : asked_by_subcommand (command_line program (codes "check" ∷ (codes "--source" ∷ []))) ≡ ToCheck (codes ".") None (style_of false false true format.Text color.Auto) None
  pub check_github_named : asked_by_subcommand (command_line program (codes "check" ∷ (codes "--format" ∷ (codes "github" ∷ [])))) ≡ ToCheck (codes ".") None (style_of false false false format.Github color.Auto) None
  pub check_never_named : asked_by_subcommand (command_line program (codes "check" ∷ (codes "--color" ∷ (codes "never" ∷ [])))) ≡ ToCheck (codes ".") None (style_of false false false format.Text color.Never) None
  pub check_xml_named : asked_by_subcommand (command_line program (codes "check" ∷ (codes "--format" ∷ (codes "xml" ∷ [])))) ≡ ToRefuse Form
  pub check_red_named : asked_by_subcommand (command_line program (codes "check" ∷ (codes "--color" ∷ (codes "red" ∷ [])))) ≡ ToRefuse Colors
  pub check_by_threads : asked_by_subcommand (command_line program (codes "check" ∷ (codes "--workers" ∷ (codes "4" ∷ [])))) ≡ ToCheck (codes ".") None plain_style (Some 4)
  pub check_by_none : asked_by_subcommand (command_line program (codes "check" ∷ (codes "--workers" ∷ (codes "0" ∷ [])))) ≡ ToRefuse Workers
  pub check_folder : (folder : Text) → is_plain folder ≡ true → refusals (command_line program (codes "check" ∷ (folder ∷ []))) ≡ []
  pub check_folder_named : (folder : Text) → is_plain folder ≡ true → asked_by_subcommand (command_line program (codes "check" ∷ (folder ∷ []))) ≡ ToCheck folder None plain_style None
  pub check_json : (folder : Text) → is_plain folder ≡ true → refusals (command_line program (codes "check" ∷ (folder ∷ (codes "--json" ∷ [])))) ≡ []
  pub check_json_named : (folder : Text) → is_plain folder ≡ true → asked_by_subcommand (command_line program (codes "check" ∷ (folder ∷ (codes "--json" ∷ [])))) ≡ ToCheck folder None json_style None
  pub check_module : (folder path : Text) → is_plain folder ≡ true → is_plain path ≡ true → refusals (command_line program (codes "check" ∷ (folder ∷ (codes "--module" ∷ (path ∷ []))))) ≡ []
  pub check_module_named : (folder path : Text) → is_plain folder ≡ true → is_plain path ≡ true → asked_by_subcommand (command_line program (codes "check" ∷ (folder ∷ (codes "--module" ∷ (path ∷ []))))) ≡ ToCheck folder (Some path) plain_style None
  pub check_module_json : (folder path : Text) → is_plain folder ≡ true → is_plain path ≡ true → refusals (command_line program (codes "check" ∷ (folder ∷ (codes "--module" ∷ (path ∷ (codes "--json" ∷ [])))))) ≡ []
  pub check_module_json_named : (folder path : Text) → is_plain folder ≡ true → is_plain path ≡ true → asked_by_subcommand (command_line program (codes "check" ∷ (folder ∷ (codes "--module" ∷ (path ∷ (codes "--json" ∷ [])))))) ≡ ToCheck folder (Some path) json_style None
  pub json_check : (folder : Text) → is_plain folder ≡ true → refusals (command_line program (codes "check" ∷ (codes "--json" ∷ (folder ∷ [])))) ≡ []
  pub json_check_named : (folder : Text) → is_plain folder ≡ true → asked_by_subcommand (command_line program (codes "check" ∷ (codes "--json" ∷ (folder ∷ [])))) ≡ ToCheck folder None json_style None
  pub module_check : (folder path : Text) → is_plain folder ≡ true → is_plain path ≡ true → refusals (command_line program (codes "check" ∷ (codes "--module" ∷ (path ∷ (folder ∷ []))))) ≡ []
  pub module_check_named : (folder path : Text) → is_plain folder ≡ true → is_plain path ≡ true → asked_by_subcommand (command_line program (codes "check" ∷ (codes "--module" ∷ (path ∷ (folder ∷ []))))) ≡ ToCheck folder (Some path) plain_style None
  pub script : refusals (command_line program (codes "script" ∷ [])) ≡ []
  pub script_named : asked_by_subcommand (command_line program (codes "script" ∷ [])) ≡ ToScript 1
  pub script_workers : (count : Text) → is_plain count ≡ true → refusals (command_line program (codes "script" ∷ (codes "--workers" ∷ (count ∷ [])))) ≡ []
  pub script_workers_named : (count : Text) → is_plain count ≡ true → asked_by_subcommand (command_line program (codes "script" ∷ (codes "--workers" ∷ (count ∷ [])))) ≡ script_with (workers_in (Some count))
  pub no_workers : asked_by_subcommand (command_line program (codes "script" ∷ (codes "--workers" ∷ (codes "0" ∷ [])))) ≡ ToRefuse Workers
  pub eight_workers : asked_by_subcommand (command_line program (codes "script" ∷ (codes "--workers" ∷ (codes "8" ∷ [])))) ≡ ToScript 8
  pub most_workers : asked_by_subcommand (command_line program (codes "script" ∷ (codes "--workers" ∷ (codes "64" ∷ [])))) ≡ ToScript 64
  pub too_many_workers : asked_by_subcommand (command_line program (codes "script" ∷ (codes "--workers" ∷ (codes "65" ∷ [])))) ≡ ToRefuse Workers
  pub workers_in_words : asked_by_subcommand (command_line program (codes "script" ∷ (codes "--workers" ∷ (codes "two" ∷ [])))) ≡ ToRefuse Workers
  pub serve : refusals (command_line program (codes "serve" ∷ [])) ≡ kind.MissingRequiredArgument ∷ []
  pub serve_at : (address : Text) → is_plain address ≡ true → refusals (command_line program (codes "serve" ∷ (codes "--listen" ∷ (address ∷ [])))) ≡ []
  pub serve_at_named : (address : Text) → is_plain address ≡ true → asked_by_subcommand (command_line program (codes "serve" ∷ (codes "--listen" ∷ (address ∷ [])))) ≡ ToServe address 1 None usual_waits false
  pub serve_told : (address count most : Text) → is_plain address ≡ true → is_plain count ≡ true → is_plain most ≡ true → refusals (command_line program (codes "serve" ∷ (codes "--listen" ∷ (address ∷ (codes "--workers" ∷ (count ∷ (codes "--connections" ∷ (most ∷ [])))))))) ≡ []
  pub serve_told_named : (address count most : Text) → is_plain address ≡ true → is_plain count ≡ true → is_plain most ≡ true → asked_by_subcommand (command_line program (codes "serve" ∷ (codes "--listen" ∷ (address ∷ (codes "--workers" ∷ (count ∷ (codes "--connections" ∷ (most ∷ [])))))))) ≡ serve_with address (workers_in (Some count)) (connections_in (Some most)) (Ok usual_waits) false
  pub one_connection : asked_by_subcommand (command_line program (codes "serve" ∷ (codes "--listen" ∷ (codes "127.0.0.1:0" ∷ (codes "--connections" ∷ (codes "1" ∷ [])))))) ≡ ToServe (codes "127.0.0.1:0") 1 (Some 1) usual_waits false
  pub five_seconds : asked_by_subcommand (command_line program (codes "serve" ∷ (codes "--listen" ∷ (codes "127.0.0.1:0" ∷ (codes "--idle" ∷ (codes "5" ∷ [])))))) ≡ ToServe (codes "127.0.0.1:0") 1 None (waits_of 5 60) false
  pub no_seconds : asked_by_subcommand (command_line program (codes "serve" ∷ (codes "--listen" ∷ (codes "127.0.0.1:0" ∷ (codes "--idle" ∷ (codes "long" ∷ [])))))) ≡ ToRefuse Idle
  pub no_stall : asked_by_subcommand (command_line program (codes "serve" ∷ (codes "--listen" ∷ (codes "127.0.0.1:0" ∷ (codes "--stall" ∷ (codes "soon" ∷ [])))))) ≡ ToRefuse Stall
  pub until_input_ends : refusals (command_line program (codes "serve" ∷ (codes "--listen" ∷ (codes ":7000" ∷ (codes "--until-input-ends" ∷ []))))) ≡ []
  pub until_input_ends_named : asked_by_subcommand (command_line program (codes "serve" ∷ (codes "--listen" ∷ (codes ":7000" ∷ (codes "--stall" ∷ (codes "0" ∷ (codes "--until-input-ends" ∷ []))))))) ≡ ToServe (codes ":7000") 1 None (waits_of 3600 0) true
  pub run : refusals (command_line program (codes "run" ∷ [])) ≡ []
  pub run_named : asked_by_subcommand (command_line program (codes "run" ∷ [])) ≡ ToRun (codes ".") None None 1000000000 None
  pub run_by_threads : asked_by_subcommand (command_line program (codes "run" ∷ (codes "--workers" ∷ (codes "64" ∷ [])))) ≡ ToRun (codes ".") None None 1000000000 (Some 64)
  pub run_by_too_many : asked_by_subcommand (command_line program (codes "run" ∷ (codes "--workers" ∷ (codes "65" ∷ [])))) ≡ ToRefuse Workers
  pub run_folder : (folder : Text) → is_plain folder ≡ true → refusals (command_line program (codes "run" ∷ (folder ∷ []))) ≡ []
  pub run_folder_named : (folder : Text) → is_plain folder ≡ true → asked_by_subcommand (command_line program (codes "run" ∷ (folder ∷ []))) ≡ ToRun folder None None 1000000000 None
  pub run_steps : (folder count : Text) → is_plain folder ≡ true → is_plain count ≡ true → refusals (command_line program (codes "run" ∷ (folder ∷ (codes "--steps" ∷ (count ∷ []))))) ≡ []
  pub run_steps_named : (folder count : Text) → is_plain folder ≡ true → is_plain count ≡ true → asked_by_subcommand (command_line program (codes "run" ∷ (folder ∷ (codes "--steps" ∷ (count ∷ []))))) ≡ run_with folder None None (steps_in (Some count)) (Some None)
  pub run_told : (folder path main count : Text) → is_plain folder ≡ true → is_plain path ≡ true → is_plain main ≡ true → is_plain count ≡ true → refusals (command_line program (codes "run" ∷ (folder ∷ (codes "--module" ∷ (path ∷ (codes "--main" ∷ (main ∷ (codes "--steps" ∷ (count ∷ []))))))))) ≡ []
  pub run_told_named : (folder path main count : Text) → is_plain folder ≡ true → is_plain path ≡ true → is_plain main ≡ true → is_plain count ≡ true → asked_by_subcommand (command_line program (codes "run" ∷ (folder ∷ (codes "--module" ∷ (path ∷ (codes "--main" ∷ (main ∷ (codes "--steps" ∷ (count ∷ []))))))))) ≡ run_with folder (Some path) (Some main) (steps_in (Some count)) (Some None)
  pub lsp : refusals (command_line program (codes "lsp" ∷ [])) ≡ []
  pub lsp_named : asked_by_subcommand (command_line program (codes "lsp" ∷ [])) ≡ ToServeEditor
  pub lsp_stdio : refusals (command_line program (codes "lsp" ∷ (codes "--stdio" ∷ []))) ≡ []
  pub lsp_stdio_named : asked_by_subcommand (command_line program (codes "lsp" ∷ (codes "--stdio" ∷ []))) ≡ ToServeEditor
  pub lsp_word : (word : Text) → is_plain word ≡ true → refusals (command_line program (codes "lsp" ∷ (word ∷ []))) ≡ kind.UnknownArgument ∷ []
  pub help_flag : refusals (command_line program (codes "--help" ∷ [])) ≡ kind.DisplayHelp ∷ []
  pub short_help_flag : refusals (command_line program (codes "-h" ∷ [])) ≡ kind.DisplayHelp ∷ []
  pub resolve_help_flag : refusals (command_line program (codes "resolve" ∷ (codes "--help" ∷ []))) ≡ kind.DisplayHelp ∷ []
  pub lsp_help_flag : refusals (command_line program (codes "lsp" ∷ (codes "--help" ∷ []))) ≡ kind.DisplayHelp ∷ []
  pub version_flag : refusals (command_line program (codes "--version" ∷ [])) ≡ kind.DisplayVersion ∷ []
  pub short_version_flag : refusals (command_line program (codes "-V" ∷ [])) ≡ kind.DisplayVersion ∷ []
  pub nothing : refusals (command_line program []) ≡ kind.MissingSubcommand ∷ []
  pub resolve_word : (word : Text) → is_plain word ≡ true → refusals (command_line program (codes "resolve" ∷ (word ∷ []))) ≡ kind.UnknownArgument ∷ []
  pub two_rules : refusals (command_line program (codes "explain" ∷ (codes "N1" ∷ (codes "N2" ∷ [])))) ≡ kind.UnknownArgument ∷ []

abbrev pub Forms : Type 0
Forms = (program : Text) → AskAs program
