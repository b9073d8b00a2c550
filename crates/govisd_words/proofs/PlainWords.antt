-- What clap makes of words that are no flags.
use Rattle.std.proofs.Common.{◌≡◌, ◌∙◌, ◌&&◌, ℕ, Bool, true, false, not, List, [], ◌∷◌, get_or, fold, Some, None, Ok, refl, ap, ap₂}
use Rattle.std.specs.Prelude.{◌==◌, codes, if◌then◌else◌, option_and_then}
use Rattle.std.specs.Option.{option_map_or}
use Rattle.std.specs.Str.{bytes_eq}
use Rattle.clap.specs.Lexer.{long_of, long_of_rest, short_of, short_of_rest, strip_byte}
use Rattle.clap.specs.Walk.{Held, Names, Rule, Step, Text, Walk, after_step, arg_by_index, first_of, finished, idle, long_or_other, nothing_held, option, plain_word, settled, short_or_plain, subcommand_met, subcommand_or_other, to_positional, trailing, value, walked, word_met}
use Rattle.clap.specs.Simple.{Shape, built}
use Rattle.clap.specs.Kinds.{Kinds, or_else}
use Rattle.clap.specs.Faults.{bundle_fault, check_fault, defaults_fault, flag_word_fault, level_fault, other_fault, settle_fault, step_fault, turn_fault, walk_fault, word_fault}
use Rattle.clap.specs.declared.error.kind.ErrorKind.TheVariants as kind
use Rattle.clap.proofs.OnLiterals.{clap_on_literals}
use Rattle.govisd_words.specs.Asking.{ToCheck, ToExplain, ToHelp, ToRun, ToServe, explain_app, govisd_app, is_plain, command_line, asked_by_subcommand, check_in, explain_in, refusals, run_in, run_with, script_in, script_with, serve_in, serve_with, usual_waits}
use Rattle.govisd_words.specs.Counts.{connections_in, steps_in, workers_in}
use Rattle.govisd_words.specs.Styles.{json_style, plain_style}

not_true : (t : Bool) → not t ≡ true → t ≡ false
not_true true h = absurd (cc)
not_true false h = refl

not_dashes : (word : Text) → is_plain word ≡ true → bytes_eq word (45 ∷ 45 ∷ []) ≡ false
not_dashes [] plain = refl
not_dashes (b ∷ bs) plain = ap (λ t. t && bytes_eq bs (45 ∷ [])) (not_true (b == 45) plain)

not_long : (word : Text) → is_plain word ≡ true → long_of word ≡ None
not_long [] plain = refl
not_long (b ∷ bs) plain = ap (λ t. option_and_then long_of_rest (option_and_then (strip_byte 45) (if t then Some bs else None))) (not_true (b == 45) plain)

not_short : (word : Text) → is_plain word ≡ true → short_of word ≡ None
not_short [] plain = refl
not_short (b ∷ bs) plain = ap (λ t. option_and_then short_of_rest (if t then Some bs else None)) (not_true (b == 45) plain)

-- the walk stands at a position, and nothing waits
abbrev at : ℕ → Held → Walk
at position h = record { held = h; waiting = idle; position = position; is_trailing = false; stopped = None }

-- such a word is a value
met : (c : List Rule) (names : Names) (position : ℕ) (word : Text) (h : Held) → subcommand_met names idle word ≡ None → is_plain word ≡ true → word_met c names false idle position word h ≡ (h, value)
met c names position word h none plain =
    ap (λ o. subcommand_or_other c o idle position word h) none
    ∙ ap (λ t. if t then (h, trailing position) else long_or_other c idle word (long_of word) h) (not_dashes word plain)
    ∙ ap (λ o. long_or_other c idle word o h) (not_long word plain)
    ∙ ap (λ o. short_or_plain c idle word o h) (not_short word plain)

-- and by itself it is not refused
no_fault : (s : Shape) (names : Names) (word : Text) (h : Held) → subcommand_met names idle word ≡ None → is_plain word ≡ true → word_fault s names false idle word h ≡ []
no_fault s names word h none plain =
    ap (λ o. other_fault s o word h) none
    ∙ ap (λ t. if t then [] else flag_word_fault s.rules s.args_override_self (long_of word) word h) (not_dashes word plain)
    ∙ ap (λ o. flag_word_fault s.rules s.args_override_self o word h) (not_long word plain)
    ∙ ap (λ o. option_map_or (λ flags. bundle_fault s.rules s.args_override_self flags h) o []) (not_short word plain)

turned : (s : Shape) (names : Names) (position : ℕ) (word : Text) (h : Held) → subcommand_met names idle word ≡ None → is_plain word ≡ true → turn_fault s names (at position h) word ≡ step_fault s position h value
turned s names position word h none plain =
    ap₂ (λ f (m : Held × Step). or_else f (step_fault s position m.0 m.1)) (no_fault s names word h none plain) (met s.rules names position word h none plain)

passed : (c : List Rule) (names : Names) (position : ℕ) (word : Text) (h : Held) → subcommand_met names idle word ≡ None → is_plain word ≡ true → walked c names (at position h) word ≡ to_positional c (arg_by_index c position) word (at position h) h
unfolding walked
passed c names position word h none plain = ap (λ (m : Held × Step). after_step c word (at position h) m.0 m.1) (met c names position word h none plain)

-- where the walk stands behind a first word
abbrev behind : Shape → Text → Walk
behind s word = to_positional s.rules (arg_by_index s.rules 1) word (at 1 nothing_held) nothing_held

-- what comes behind the walk
abbrev at_end : Shape → Held → Kinds
at_end s h =
    or_else (settle_fault s.rules s.args_override_self h) (or_else (defaults_fault (settled s.rules h).rows s.rules) (check_fault s (finished s.rules h) false))

-- a command with one such word
one_word : (s : Shape) (word : Text) → is_plain word ≡ true → level_fault s [] nothing_held (word ∷ []) false [] ≡ or_else (or_else (step_fault s 1 nothing_held value) []) (at_end s (behind s word).held)
unfolding walked walk_fault
one_word s word plain =
    ap₂ (λ f (w : Walk). or_else (or_else f []) (at_end s w.held)) (turned s [] 1 word nothing_held refl plain) (passed s.rules [] 1 word nothing_held refl plain)

-- a command with one such word, and others behind it
word_then : (s : Shape) (word : Text) (rest : List Text) → is_plain word ≡ true → level_fault s [] nothing_held (word ∷ rest) false [] ≡ or_else (or_else (step_fault s 1 nothing_held value) (walk_fault s [] (behind s word) rest)) (at_end s (fold (walked s.rules []) (behind s word) rest).held)
unfolding walked walk_fault
word_then s word rest plain =
    ap₂ (λ f (w : Walk). or_else (or_else f (walk_fault s [] w rest)) (at_end s (fold (walked s.rules []) w rest).held)) (turned s [] 1 word nothing_held refl plain) (passed s.rules [] 1 word nothing_held refl plain)

-- the walk stands at a position, and an option waits for a value
abbrev waits : Text → ℕ → Held → Walk
waits id position h = record { held = h; waiting = option id; position = position; is_trailing = false; stopped = None }

-- such a word is the option's value
value_met : (c : List Rule) (names : Names) (id : Text) (position : ℕ) (word : Text) (h : Held) → is_plain word ≡ true → word_met c names false (option id) position word h ≡ plain_word c (option id) word h
value_met c names id position word h plain =
    ap (λ t. if t then (h, trailing position) else long_or_other c (option id) word (long_of word) h) (not_dashes word plain)
    ∙ ap (λ o. long_or_other c (option id) word o h) (not_long word plain)
    ∙ ap (λ o. short_or_plain c (option id) word o h) (not_short word plain)

-- and by itself it is not refused
no_value_fault : (s : Shape) (names : Names) (id word : Text) (h : Held) → is_plain word ≡ true → word_fault s names false (option id) word h ≡ []
no_value_fault s names id word h plain =
    ap (λ t. if t then [] else flag_word_fault s.rules s.args_override_self (long_of word) word h) (not_dashes word plain)
    ∙ ap (λ o. flag_word_fault s.rules s.args_override_self o word h) (not_long word plain)
    ∙ ap (λ o. option_map_or (λ flags. bundle_fault s.rules s.args_override_self flags h) o []) (not_short word plain)

value_turned : (s : Shape) (names : Names) (id : Text) (position : ℕ) (h : Held) (word : Text) → is_plain word ≡ true → turn_fault s names (waits id position h) word ≡ []
value_turned s names id position h word plain =
    ap₂ (λ f (m : Held × Step). or_else f (step_fault s position m.0 m.1)) (no_value_fault s names id word h plain) (value_met s.rules names id position word h plain)

-- where the walk stands behind the value
abbrev behind_value : Shape → Text → ℕ → Held → Text → Walk
behind_value s id position h word =
    after_step s.rules word (waits id position h) (plain_word s.rules (option id) word h).0 (plain_word s.rules (option id) word h).1

value_passed : (s : Shape) (names : Names) (id : Text) (position : ℕ) (h : Held) (word : Text) → is_plain word ≡ true → walked s.rules names (waits id position h) word ≡ behind_value s id position h word
unfolding walked
value_passed s names id position h word plain = ap (λ (m : Held × Step). after_step s.rules word (waits id position h) m.0 m.1) (value_met s.rules names id position word h plain)

-- the last word is such a value
value_last : (s : Shape) (id : Text) (position : ℕ) (h : Held) (word : Text) → is_plain word ≡ true → or_else (walk_fault s [] (waits id position h) (word ∷ [])) (at_end s (walked s.rules [] (waits id position h) word).held) ≡ at_end s (behind_value s id position h word).held
unfolding walked walk_fault
value_last s id position h word plain =
    ap₂ (λ f (w : Walk). or_else (or_else f []) (at_end s w.held)) (value_turned s [] id position h word plain) (value_passed s [] id position h word plain)

-- others stand behind such a value
value_then : (s : Shape) (id : Text) (position : ℕ) (h : Held) (word : Text) (rest : List Text) → is_plain word ≡ true → or_else (walk_fault s [] (waits id position h) (word ∷ rest)) (at_end s (fold (walked s.rules []) (waits id position h) (word ∷ rest)).held) ≡ or_else (walk_fault s [] (behind_value s id position h word) rest) (at_end s (fold (walked s.rules []) (behind_value s id position h word) rest).held)
unfolding walked walk_fault
value_then s id position h word rest plain =
    ap₂ (λ f (w : Walk). or_else (or_else f (walk_fault s [] w rest)) (at_end s (fold (walked s.rules []) w rest).held)) (value_turned s [] id position h word plain) (value_passed s [] id position h word plain)

-- where the walk stands behind a first word, with flags in front of it
abbrev behind_flags : Shape → Held → Text → Walk
behind_flags s h word = to_positional s.rules (arg_by_index s.rules 1) word (at 1 h) h

-- the last word is a first one behind flags
word_last : (s : Shape) (h : Held) (word : Text) → is_plain word ≡ true → or_else (walk_fault s [] (at 1 h) (word ∷ [])) (at_end s (walked s.rules [] (at 1 h) word).held) ≡ or_else (or_else (step_fault s 1 h value) []) (at_end s (behind_flags s h word).held)
unfolding walked walk_fault
word_last s h word plain = ap₂ (λ f (w : Walk). or_else (or_else f []) (at_end s w.held)) (turned s [] 1 word h refl plain) (passed s.rules [] 1 word h refl plain)

-- a subcommand as it is built
abbrev sub : ℕ → Shape
sub i = get_or (built govisd_app).subs i explain_app.top

pub explain_word : (program word : Text) → is_plain word ≡ true → refusals (command_line program (codes "explain" ∷ (word ∷ []))) ≡ []
unfolding clap_on_literals
explain_word program word plain = ap (λ k. or_else k []) (one_word (sub 1) word plain)

pub explain_word_named : (program word : Text) → is_plain word ≡ true → asked_by_subcommand (command_line program (codes "explain" ∷ (word ∷ []))) ≡ ToExplain (Some word) false
unfolding clap_on_literals
explain_word_named program word plain =
    ap (λ (w : Walk). explain_in (finished (sub 1).rules w.held)) (passed (sub 1).rules [] 1 word nothing_held refl plain)

pub explain_word_json : (program word : Text) → is_plain word ≡ true → refusals (command_line program (codes "explain" ∷ (word ∷ (codes "--json" ∷ [])))) ≡ []
unfolding clap_on_literals
explain_word_json program word plain = ap (λ k. or_else k []) (word_then (sub 1) word (codes "--json" ∷ []) plain)

pub explain_word_json_named : (program word : Text) → is_plain word ≡ true → asked_by_subcommand (command_line program (codes "explain" ∷ (word ∷ (codes "--json" ∷ [])))) ≡ ToExplain (Some word) true
unfolding clap_on_literals
explain_word_json_named program word plain =
    ap (λ (w : Walk). explain_in (finished (sub 1).rules (walked (sub 1).rules [] w (codes "--json")).held)) (passed (sub 1).rules [] 1 word nothing_held refl plain)

pub check_folder : (program folder : Text) → is_plain folder ≡ true → refusals (command_line program (codes "check" ∷ (folder ∷ []))) ≡ []
unfolding clap_on_literals
check_folder program folder plain = ap (λ k. or_else k []) (one_word (sub 2) folder plain)

pub check_folder_named : (program folder : Text) → is_plain folder ≡ true → asked_by_subcommand (command_line program (codes "check" ∷ (folder ∷ []))) ≡ ToCheck folder None plain_style None
unfolding clap_on_literals
check_folder_named program folder plain =
    ap (λ (w : Walk). check_in (finished (sub 2).rules w.held)) (passed (sub 2).rules [] 1 folder nothing_held refl plain)

pub check_json : (program folder : Text) → is_plain folder ≡ true → refusals (command_line program (codes "check" ∷ (folder ∷ (codes "--json" ∷ [])))) ≡ []
unfolding clap_on_literals
check_json program folder plain = ap (λ k. or_else k []) (word_then (sub 2) folder (codes "--json" ∷ []) plain)

pub check_json_named : (program folder : Text) → is_plain folder ≡ true → asked_by_subcommand (command_line program (codes "check" ∷ (folder ∷ (codes "--json" ∷ [])))) ≡ ToCheck folder None json_style None
unfolding clap_on_literals
check_json_named program folder plain =
    ap (λ (w : Walk). check_in (finished (sub 2).rules (walked (sub 2).rules [] w (codes "--json")).held)) (passed (sub 2).rules [] 1 folder nothing_held refl plain)

-- what is held where the path of a module is waited for
abbrev held_behind : Text → Held
held_behind folder = (walked (sub 2).rules [] (behind (sub 2) folder) (codes "--module")).held

pub check_module : (program folder path : Text) → is_plain folder ≡ true → is_plain path ≡ true → refusals (command_line program (codes "check" ∷ (folder ∷ (codes "--module" ∷ (path ∷ []))))) ≡ []
unfolding clap_on_literals
check_module program folder path plain plain' =
    ap (λ k. or_else k []) (word_then (sub 2) folder (codes "--module" ∷ (path ∷ [])) plain ∙ value_last (sub 2) (codes "module") 2 (held_behind folder) path plain')

pub check_module_named : (program folder path : Text) → is_plain folder ≡ true → is_plain path ≡ true → asked_by_subcommand (command_line program (codes "check" ∷ (folder ∷ (codes "--module" ∷ (path ∷ []))))) ≡ ToCheck folder (Some path) plain_style None
unfolding clap_on_literals
check_module_named program folder path plain plain' =
    ap (λ (w : Walk). check_in (finished (sub 2).rules (walked (sub 2).rules [] (walked (sub 2).rules [] w (codes "--module")) path).held)) (passed (sub 2).rules [] 1 folder nothing_held refl plain)
    ∙ ap (λ (w : Walk). check_in (finished (sub 2).rules w.held)) (value_passed (sub 2) [] (codes "module") 2 (held_behind folder) path plain')

pub check_module_json : (program folder path : Text) → is_plain folder ≡ true → is_plain path ≡ true → refusals (command_line program (codes "check" ∷ (folder ∷ (codes "--module" ∷ (path ∷ (codes "--json" ∷ [])))))) ≡ []
unfolding clap_on_literals
check_module_json program folder path plain plain' =
    ap (λ k. or_else k []) (word_then (sub 2) folder (codes "--module" ∷ (path ∷ (codes "--json" ∷ []))) plain ∙ value_then (sub 2) (codes "module") 2 (held_behind folder) path (codes "--json" ∷ []) plain')

pub check_module_json_named : (program folder path : Text) → is_plain folder ≡ true → is_plain path ≡ true → asked_by_subcommand (command_line program (codes "check" ∷ (folder ∷ (codes "--module" ∷ (path ∷ (codes "--json" ∷ [])))))) ≡ ToCheck folder (Some path) json_style None
unfolding clap_on_literals
check_module_json_named program folder path plain plain' =
    ap (λ (w : Walk). check_in (finished (sub 2).rules (walked (sub 2).rules [] (walked (sub 2).rules [] (walked (sub 2).rules [] w (codes "--module")) path) (codes "--json")).held)) (passed (sub 2).rules [] 1 folder nothing_held refl plain)
    ∙ ap (λ (w : Walk). check_in (finished (sub 2).rules (walked (sub 2).rules [] w (codes "--json")).held)) (value_passed (sub 2) [] (codes "module") 2 (held_behind folder) path plain')

-- what is held behind a flag that stands first, and where the path of a module is waited for
abbrev held_json : Held
held_json = (walked (sub 2).rules [] (at 1 nothing_held) (codes "--json")).held

abbrev held_module : Held
held_module = (walked (sub 2).rules [] (at 1 nothing_held) (codes "--module")).held

abbrev held_path : Text → Held
held_path path = (behind_value (sub 2) (codes "module") 1 held_module path).held

pub json_check : (program folder : Text) → is_plain folder ≡ true → refusals (command_line program (codes "check" ∷ (codes "--json" ∷ (folder ∷ [])))) ≡ []
unfolding clap_on_literals
json_check program folder plain = ap (λ k. or_else k []) (word_last (sub 2) held_json folder plain)

pub json_check_named : (program folder : Text) → is_plain folder ≡ true → asked_by_subcommand (command_line program (codes "check" ∷ (codes "--json" ∷ (folder ∷ [])))) ≡ ToCheck folder None json_style None
unfolding clap_on_literals
json_check_named program folder plain = ap (λ (w : Walk). check_in (finished (sub 2).rules w.held)) (passed (sub 2).rules [] 1 folder held_json refl plain)

pub module_check : (program folder path : Text) → is_plain folder ≡ true → is_plain path ≡ true → refusals (command_line program (codes "check" ∷ (codes "--module" ∷ (path ∷ (folder ∷ []))))) ≡ []
unfolding clap_on_literals
module_check program folder path plain plain' =
    ap (λ k. or_else k []) (value_then (sub 2) (codes "module") 1 held_module path (folder ∷ []) plain' ∙ word_last (sub 2) (held_path path) folder plain)

pub module_check_named : (program folder path : Text) → is_plain folder ≡ true → is_plain path ≡ true → asked_by_subcommand (command_line program (codes "check" ∷ (codes "--module" ∷ (path ∷ (folder ∷ []))))) ≡ ToCheck folder (Some path) plain_style None
unfolding clap_on_literals
module_check_named program folder path plain plain' =
    ap (λ (w : Walk). check_in (finished (sub 2).rules (walked (sub 2).rules [] w folder).held)) (value_passed (sub 2) [] (codes "module") 1 held_module path plain')
    ∙ ap (λ (w : Walk). check_in (finished (sub 2).rules w.held)) (passed (sub 2).rules [] 1 folder (held_path path) refl plain)

pub help_word : (program word : Text) → is_plain word ≡ true → refusals (command_line program (codes "help" ∷ (word ∷ []))) ≡ []
unfolding clap_on_literals
help_word program word plain = ap (λ k. or_else k []) (one_word (sub 3) word plain)

pub help_word_named : (program word : Text) → is_plain word ≡ true → asked_by_subcommand (command_line program (codes "help" ∷ (word ∷ []))) ≡ ToHelp (Some word)
unfolding clap_on_literals
help_word_named program word plain =
    ap (λ (w : Walk). ToHelp (first_of (codes "command") (finished (sub 3).rules w.held))) (passed (sub 3).rules [] 1 word nothing_held refl plain)

pub resolve_word : (program word : Text) → is_plain word ≡ true → refusals (command_line program (codes "resolve" ∷ (word ∷ []))) ≡ kind.UnknownArgument ∷ []
unfolding clap_on_literals
resolve_word program word plain = ap (λ k. or_else k []) (one_word (sub 0) word plain)

pub lsp_word : (program word : Text) → is_plain word ≡ true → refusals (command_line program (codes "lsp" ∷ (word ∷ []))) ≡ kind.UnknownArgument ∷ []
unfolding clap_on_literals
lsp_word program word plain = ap (λ k. or_else k []) (one_word (sub 7) word plain)

-- what is held where a number of workers is waited for
abbrev held_workers : Held
held_workers = (walked (sub 4).rules [] (at 1 nothing_held) (codes "--workers")).held

pub script_workers : (program count : Text) → is_plain count ≡ true → refusals (command_line program (codes "script" ∷ (codes "--workers" ∷ (count ∷ [])))) ≡ []
unfolding clap_on_literals
script_workers program count plain = ap (λ k. or_else k []) (value_last (sub 4) (codes "workers") 1 held_workers count plain)

pub script_workers_named : (program count : Text) → is_plain count ≡ true → asked_by_subcommand (command_line program (codes "script" ∷ (codes "--workers" ∷ (count ∷ [])))) ≡ script_with (workers_in (Some count))
unfolding clap_on_literals
script_workers_named program count plain = ap (λ (w : Walk). script_in (finished (sub 4).rules w.held)) (value_passed (sub 4) [] (codes "workers") 1 held_workers count plain)

-- what is held where an address is waited for, where a number of workers is behind it, and where one of connections is behind these
abbrev held_listen : Held
held_listen = (walked (sub 5).rules [] (at 1 nothing_held) (codes "--listen")).held

abbrev held_address : Text → Held
held_address address = (walked (sub 5).rules [] (behind_value (sub 5) (codes "listen") 1 held_listen address) (codes "--workers")).held

abbrev held_count : Text → Text → Held
held_count address count = (walked (sub 5).rules [] (behind_value (sub 5) (codes "workers") 1 (held_address address) count) (codes "--connections")).held

pub serve_at : (program address : Text) → is_plain address ≡ true → refusals (command_line program (codes "serve" ∷ (codes "--listen" ∷ (address ∷ [])))) ≡ []
unfolding clap_on_literals
serve_at program address plain = ap (λ k. or_else k []) (value_last (sub 5) (codes "listen") 1 held_listen address plain)

pub serve_at_named : (program address : Text) → is_plain address ≡ true → asked_by_subcommand (command_line program (codes "serve" ∷ (codes "--listen" ∷ (address ∷ [])))) ≡ ToServe address 1 None usual_waits false
unfolding clap_on_literals
serve_at_named program address plain = ap (λ (w : Walk). serve_in (finished (sub 5).rules w.held)) (value_passed (sub 5) [] (codes "listen") 1 held_listen address plain)

pub serve_told : (program address count most : Text) → is_plain address ≡ true → is_plain count ≡ true → is_plain most ≡ true → refusals (command_line program (codes "serve" ∷ (codes "--listen" ∷ (address ∷ (codes "--workers" ∷ (count ∷ (codes "--connections" ∷ (most ∷ [])))))))) ≡ []
unfolding clap_on_literals
serve_told program address count most plain plain' plain'' =
    ap (λ k. or_else k [])
    (value_then (sub 5) (codes "listen") 1 held_listen address (codes "--workers" ∷ (count ∷ (codes "--connections" ∷ (most ∷ [])))) plain
    ∙ (value_then (sub 5) (codes "workers") 1 (held_address address) count (codes "--connections" ∷ (most ∷ [])) plain'
    ∙ value_last (sub 5) (codes "connections") 1 (held_count address count) most plain''))

pub serve_told_named : (program address count most : Text) → is_plain address ≡ true → is_plain count ≡ true → is_plain most ≡ true → asked_by_subcommand (command_line program (codes "serve" ∷ (codes "--listen" ∷ (address ∷ (codes "--workers" ∷ (count ∷ (codes "--connections" ∷ (most ∷ [])))))))) ≡ serve_with address (workers_in (Some count)) (connections_in (Some most)) (Ok usual_waits) false
unfolding clap_on_literals
serve_told_named program address count most plain plain' plain'' =
    ap (λ (w : Walk). serve_in (finished (sub 5).rules (walked (sub 5).rules [] (walked (sub 5).rules [] (walked (sub 5).rules [] (walked (sub 5).rules [] w (codes "--workers")) count) (codes "--connections")) most).held)) (value_passed (sub 5) [] (codes "listen") 1 held_listen address plain)
    ∙ (ap (λ (w : Walk). serve_in (finished (sub 5).rules (walked (sub 5).rules [] (walked (sub 5).rules [] w (codes "--connections")) most).held)) (value_passed (sub 5) [] (codes "workers") 1 (held_address address) count plain')
    ∙ ap (λ (w : Walk). serve_in (finished (sub 5).rules w.held)) (value_passed (sub 5) [] (codes "connections") 1 (held_count address count) most plain''))

pub run_folder : (program folder : Text) → is_plain folder ≡ true → refusals (command_line program (codes "run" ∷ (folder ∷ []))) ≡ []
unfolding clap_on_literals
run_folder program folder plain = ap (λ k. or_else k []) (one_word (sub 6) folder plain)

pub run_folder_named : (program folder : Text) → is_plain folder ≡ true → asked_by_subcommand (command_line program (codes "run" ∷ (folder ∷ []))) ≡ ToRun folder None None 1000000000 None
unfolding clap_on_literals
run_folder_named program folder plain =
    ap (λ (w : Walk). run_in (finished (sub 6).rules w.held)) (passed (sub 6).rules [] 1 folder nothing_held refl plain)

-- what is held where a number of steps is waited for
abbrev held_steps : Text → Held
held_steps folder = (walked (sub 6).rules [] (behind (sub 6) folder) (codes "--steps")).held

pub run_steps : (program folder count : Text) → is_plain folder ≡ true → is_plain count ≡ true → refusals (command_line program (codes "run" ∷ (folder ∷ (codes "--steps" ∷ (count ∷ []))))) ≡ []
unfolding clap_on_literals
run_steps program folder count plain plain' =
    ap (λ k. or_else k []) (word_then (sub 6) folder (codes "--steps" ∷ (count ∷ [])) plain ∙ value_last (sub 6) (codes "steps") 2 (held_steps folder) count plain')

pub run_steps_named : (program folder count : Text) → is_plain folder ≡ true → is_plain count ≡ true → asked_by_subcommand (command_line program (codes "run" ∷ (folder ∷ (codes "--steps" ∷ (count ∷ []))))) ≡ run_with folder None None (steps_in (Some count)) (Some None)
unfolding clap_on_literals
run_steps_named program folder count plain plain' =
    ap (λ (w : Walk). run_in (finished (sub 6).rules (walked (sub 6).rules [] (walked (sub 6).rules [] w (codes "--steps")) count).held)) (passed (sub 6).rules [] 1 folder nothing_held refl plain)
    ∙ ap (λ (w : Walk). run_in (finished (sub 6).rules w.held)) (value_passed (sub 6) [] (codes "steps") 2 (held_steps folder) count plain')

-- what is held where the path of a module is waited for, that of a package behind it, and a number of steps behind these
abbrev held_of_module : Text → Held
held_of_module folder = (walked (sub 6).rules [] (behind (sub 6) folder) (codes "--module")).held

abbrev held_of_main : Text → Text → Held
held_of_main folder path = (walked (sub 6).rules [] (behind_value (sub 6) (codes "module") 2 (held_of_module folder) path) (codes "--main")).held

abbrev held_of_steps : Text → Text → Text → Held
held_of_steps folder path main = (walked (sub 6).rules [] (behind_value (sub 6) (codes "main") 2 (held_of_main folder path) main) (codes "--steps")).held

pub run_told : (program folder path main count : Text) → is_plain folder ≡ true → is_plain path ≡ true → is_plain main ≡ true → is_plain count ≡ true → refusals (command_line program (codes "run" ∷ (folder ∷ (codes "--module" ∷ (path ∷ (codes "--main" ∷ (main ∷ (codes "--steps" ∷ (count ∷ []))))))))) ≡ []
unfolding clap_on_literals
run_told program folder path main count plain of_path of_main of_count =
    ap (λ k. or_else k [])
    (word_then (sub 6) folder (codes "--module" ∷ (path ∷ (codes "--main" ∷ (main ∷ (codes "--steps" ∷ (count ∷ [])))))) plain
    ∙ (value_then (sub 6) (codes "module") 2 (held_of_module folder) path (codes "--main" ∷ (main ∷ (codes "--steps" ∷ (count ∷ [])))) of_path
    ∙ (value_then (sub 6) (codes "main") 2 (held_of_main folder path) main (codes "--steps" ∷ (count ∷ [])) of_main
    ∙ value_last (sub 6) (codes "steps") 2 (held_of_steps folder path main) count of_count)))

pub run_told_named : (program folder path main count : Text) → is_plain folder ≡ true → is_plain path ≡ true → is_plain main ≡ true → is_plain count ≡ true → asked_by_subcommand (command_line program (codes "run" ∷ (folder ∷ (codes "--module" ∷ (path ∷ (codes "--main" ∷ (main ∷ (codes "--steps" ∷ (count ∷ []))))))))) ≡ run_with folder (Some path) (Some main) (steps_in (Some count)) (Some None)
unfolding clap_on_literals
run_told_named program folder path main count plain of_path of_main of_count =
    ap (λ (w : Walk). run_in (finished (sub 6).rules (walked (sub 6).rules [] (walked (sub 6).rules [] (walked (sub 6).rules [] (walked (sub 6).rules [] (walked (sub 6).rules [] (walked (sub 6).rules [] w (codes "--module")) path) (codes "--main")) main) (codes "--steps")) count).held)) (passed (sub 6).rules [] 1 folder nothing_held refl plain)
    ∙ (ap (λ (w : Walk). run_in (finished (sub 6).rules (walked (sub 6).rules [] (walked (sub 6).rules [] (walked (sub 6).rules [] (walked (sub 6).rules [] w (codes "--main")) main) (codes "--steps")) count).held)) (value_passed (sub 6) [] (codes "module") 2 (held_of_module folder) path of_path)
    ∙ (ap (λ (w : Walk). run_in (finished (sub 6).rules (walked (sub 6).rules [] (walked (sub 6).rules [] w (codes "--steps")) count).held)) (value_passed (sub 6) [] (codes "main") 2 (held_of_main folder path) main of_main)
    ∙ ap (λ (w : Walk). run_in (finished (sub 6).rules w.held)) (value_passed (sub 6) [] (codes "steps") 2 (held_of_steps folder path main) count of_count)))
