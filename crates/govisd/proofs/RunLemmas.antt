-- What runs for one form of the words do.
use Rattle.std.proofs.Common.{◌≡◌, ◌∙◌, ◌⊎◌, inl, inr, ℕ, Bool, true, false, List, [], ◌∷◌, Option, Some, None, Result, Ok, Err, refl, subst}
use Rattle.std.specs.Prelude.{codes, option_map}
use Rattle.std.specs.Io.KnownBytes.{Keeps}
use Rattle.clap.specs.Walk.{Text}
use Rattle.clap.specs.Kinds.{IsAmong}
use Rattle.clap.specs.Values.{kind_of}
use Rattle.clap.specs.declared.error.Error.{Error}
use Rattle.clap.specs.declared.error.kind.ErrorKind.TheVariants as kind
use Rattle.clap.proofs.OnLiterals.{clap_on_literals}
use Rattle.go_text_core.specs.Rules.{rule_number}
use Rattle.go_text_core.specs.declared.rule.Rule.{Rule}
use Rattle.go_explain_core.specs.Naming.{rule_of_number}
use Rattle.go_explain_core.specs.Telling.{listed_text, told_text, unknown_text}
use Rattle.go_explain_core.proofs.Everywhere.{everywhere}
use Rattle.go_explain_core.proofs.Numbers.{names_each}
use Rattle.govisd.specs.declared.program.Ran.{Ran}
use Rattle.govisd_words.specs.declared.words.Request.{Request}
use Rattle.govisd_words.specs.declared.words.Request.TheVariants.{Resolve, Explain, Check, Run, Editor, Script, Serve, Help, Version, BadValue}
use Rattle.govisd_words.specs.Asking.{Asks, ToCheck, ToExplain, ToHelp, is_plain, command_line, asked_by_subcommand as asked_by, refusals, said}
use Rattle.go_folder_core.specs.declared.orders.Style.{Style}
use Rattle.govisd_words.specs.Styles.{json_style, plain_style}
use Rattle.govisd.specs.Runs.{Around, ChecksEach, ChecksEachAsJson, ChecksEachModule, ChecksFolder, ChecksHere, Does, Explains, ExplainsEach, ExplainsEachAsJson, ExplainsFound, Helps, HelpsEach, HelpsFound, ListsAll, ListsAllAsJson, Refuses, RefusesName, RefusesOtherCommands, RefusesOthers, Runs, ShowsOrRunsOut}
use Rattle.govisd.specs.Says.{RunsOut}
use Rattle.govisd_words.specs.Texts.{help_of, unknown_command_text}
use Rattle.govisd_words.proofs.PlainWords.{check_folder, check_folder_named, check_module, check_module_json, check_module_json_named, check_module_named, explain_word, explain_word_json, explain_word_json_named, explain_word_named, help_word, help_word_named}

-- words that are not refused ask for what they name
pub asked : (words : List Text) (request : Request) → refusals words ≡ [] → Asks words (Ok request) → said request ≡ asked_by words
asked words request none (inl h) = h.1
asked words request none (inr (inl h)) = absurd (subst (IsAmong kind.DisplayHelp) none h.0)
asked words request none (inr (inr h)) = absurd (subst (IsAmong kind.DisplayVersion) none h.0)

-- and only memory fails
pub failed : (words : List Text) (e : Error) → refusals words ≡ [] → Asks words (Err e) → kind_of e ≡ kind.OutOfMemory
failed words e none (inl h) = h
failed words e none (inr h) = absurd (subst (IsAmong (kind_of e)) none h.0)

same_rule : (a b : Option Text) (i j : Bool) → ToExplain a i ≡ ToExplain b j → a ≡ b
same_rule a b i j e = cc

same_told : (a b : Option Text) (i j : Bool) → ToExplain a i ≡ ToExplain b j → i ≡ j
same_told a b i j e = cc

same_topic : (a b : Option Text) → ToHelp a ≡ ToHelp b → a ≡ b
same_topic a b e = cc

same_folder : (a b : Text) (p q : Option Text) (i j : Style) (v w : Option ℕ) → ToCheck a p i v ≡ ToCheck b q j w → a ≡ b
same_folder a b p q i j v w e = cc

same_path : (a b : Text) (p q : Option Text) (i j : Style) (v w : Option ℕ) → ToCheck a p i v ≡ ToCheck b q j w → p ≡ q
same_path a b p q i j v w e = cc

same_form : (a b : Text) (p q : Option Text) (i j : Style) (v w : Option ℕ) → ToCheck a p i v ≡ ToCheck b q j w → i ≡ j
same_form a b p q i j v w e = cc

-- one run
module _ (among : Around) (ran : Ran) (given left out out' err err' : Option (List ℕ)) where
  explains : (request : Request) (word : Option Text) (json : Bool) → said request ≡ ToExplain word json → Does among (Ok request) ran given left out out' err err' → Explains json word ran out out' err err' × Keeps given left
  explains Resolve word told is h = absurd (cc)
  explains (Explain rule json) word told is h =
      let here = subst (λ w. Explains json w ran out out' err err') (same_rule _ word json told is) h.0 in
      (subst (λ j. Explains j word ran out out' err err') (same_told _ word json told is) here, h.1)
  explains (Run order) word told is h = absurd (cc)
  explains (Check order) word told is h = absurd (cc)
  explains (Help topic) word told is h = absurd (cc)
  explains Version word told is h = absurd (cc)
  explains (Script workers) word told is h = absurd (cc)
  explains Editor word told is h = absurd (cc)
  explains (Serve daemon) word told is h = absurd (cc)
  explains (BadValue option) word told is h = absurd (cc)

  pub helps : (request : Request) (word : Option Text) → said request ≡ ToHelp word → Does among (Ok request) ran given left out out' err err' → Helps word ran out out' err err' × Keeps given left
  helps Resolve word is h = absurd (cc)
  helps (Explain rule json) word is h = absurd (cc)
  helps (Run order) word is h = absurd (cc)
  helps (Check order) word is h = absurd (cc)
  helps (Help topic) word is h = (subst (λ w. Helps w ran out out' err err') (same_topic _ word is) h.0, h.1)
  helps Version word is h = absurd (cc)
  helps (Script workers) word is h = absurd (cc)
  helps Editor word is h = absurd (cc)
  helps (Serve daemon) word is h = absurd (cc)
  helps (BadValue option) word is h = absurd (cc)

  checks : (request : Request) (folder : Text) (path : Option Text) (style : Style) (workers : Option ℕ) → said request ≡ ToCheck folder path style workers → Does among (Ok request) ran given left out out' err err' → ChecksFolder among.answers folder style path ran out out' err err' × Keeps given left
  checks Resolve folder path style workers is h = absurd (cc)
  checks (Explain rule json) folder path style workers is h = absurd (cc)
  checks (Run order) folder path style workers is h = absurd (cc)
  checks (Check order) folder path style workers is h =
      let asked = option_map (λ word. word.now) order.module_path in
      let here = subst (λ f. ChecksFolder among.answers f order.style asked ran out out' err err') (same_folder _ folder _ path _ style _ workers is) h.0 in
      let formed = subst (λ j. ChecksFolder among.answers folder j asked ran out out' err err') (same_form _ folder _ path _ style _ workers is) here in
      (subst (λ p. ChecksFolder among.answers folder style p ran out out' err err') (same_path _ folder _ path _ style _ workers is) formed, h.1)
  checks (Help topic) folder path style workers is h = absurd (cc)
  checks Version folder path style workers is h = absurd (cc)
  checks (Script count) folder path style workers is h = absurd (cc)
  checks Editor folder path style workers is h = absurd (cc)
  checks (Serve daemon) folder path style workers is h = absurd (cc)
  checks (BadValue option) folder path style workers is h = absurd (cc)

  pub ran_out : (e : Error) → kind_of e ≡ kind.OutOfMemory → Refuses (kind_of e) ran err err' → RunsOut ran err err'
  ran_out e is h =
      let r : Refuses kind.OutOfMemory ran err err' = subst (λ k. Refuses k ran err err') is h in
      (r.status, r.says)

  -- a run for words that are not refused does what is done for what they name, or memory ran out
  pub done : (words : List Text) (Happens : Type 0) → ((request : Request) → said request ≡ asked_by words → Does among (Ok request) ran given left out out' err err' → Happens × Keeps given left) → refusals words ≡ [] → Runs among words ran given left out out' err err' → (Happens ⊎ (RunsOut ran err err' × Keeps out out')) × Keeps given left
  done words Happens does none r = by r.asked r.asks r.does
    where
      by : (a : Result Request Error) → Asks words a → Does among a ran given left out out' err err' → (Happens ⊎ (RunsOut ran err err' × Keeps out out')) × Keeps given left
      by (Ok request) asks did =
          let h = does request (asked words request none asks) did in
          (inl h.0, h.1)
      by (Err e) asks did = (inr (ran_out e (failed words e none asks) did.0, did.1), did.2)

  explained : (words : List Text) (word : Option Text) (json : Bool) → refusals words ≡ [] → asked_by words ≡ ToExplain word json → Runs among words ran given left out out' err err' → (Explains json word ran out out' err err' ⊎ (RunsOut ran err err' × Keeps out out')) × Keeps given left
  explained words word json none is r = done words (Explains json word ran out out' err err') (λ request asks did. explains request word json (asks ∙ is) did) none r

  pub helped : (words : List Text) (word : Option Text) → refusals words ≡ [] → asked_by words ≡ ToHelp word → Runs among words ran given left out out' err err' → (Helps word ran out out' err err' ⊎ (RunsOut ran err err' × Keeps out out')) × Keeps given left
  helped words word none is r = done words (Helps word ran out out' err err') (λ request asks did. helps request word (asks ∙ is) did) none r

  checked : (words : List Text) (folder : Text) (path : Option Text) (style : Style) (workers : Option ℕ) → refusals words ≡ [] → asked_by words ≡ ToCheck folder path style workers → Runs among words ran given left out out' err err' → (ChecksFolder among.answers folder style path ran out out' err err' ⊎ (RunsOut ran err err' × Keeps out out')) × Keeps given left
  checked words folder path style workers none is r = done words (ChecksFolder among.answers folder style path ran out out' err err') (λ request asks did. checks request folder path style workers (asks ∙ is) did) none r

  found : (json : Bool) (word : Text) (rule : Rule) → rule_of_number word ≡ Some rule → Explains json (Some word) ran out out' err err' ⊎ (RunsOut ran err err' × Keeps out out') → ShowsOrRunsOut (told_text json rule) ran out out' err err'
  found json word rule is (inl h) = subst (λ f. ExplainsFound json word f ran out out' err err') is h
  found json word rule is (inr h) = inr h

  lost : (word : Text) → rule_of_number word ≡ None → Explains false (Some word) ran out out' err err' ⊎ (RunsOut ran err err' × Keeps out out') → RefusesName (unknown_text word) ran err err' × Keeps out out'
  lost word is (inl h) = subst (λ f. ExplainsFound false word f ran out out' err err') is h
  lost word is (inr h) = (inr h.0, h.1)

  whole : (json : Bool) → Explains json None ran out out' err err' ⊎ (RunsOut ran err err' × Keeps out out') → ShowsOrRunsOut (listed_text json) ran out out' err err'
  whole json (inl h) = h
  whole json (inr h) = inr h

  known : (name text : Text) → help_of name ≡ Some text → Helps (Some name) ran out out' err err' ⊎ (RunsOut ran err err' × Keeps out out') → ShowsOrRunsOut text ran out out' err err'
  known name text is (inl h) = inl (subst (λ f. HelpsFound name f ran out out' err err') is h)
  known name text is (inr h) = inr h

  unknown : (name : Text) → help_of name ≡ None → Helps (Some name) ran out out' err err' ⊎ (RunsOut ran err err' × Keeps out out') → RefusesName (unknown_command_text name) ran err err' × Keeps out out'
  unknown name is (inl h) = subst (λ f. HelpsFound name f ran out out' err err') is h
  unknown name is (inr h) = (inr h.0, h.1)

numbers_plain : (rule : Rule) → is_plain (rule_number rule) ≡ true
numbers_plain = everywhere (λ rule. is_plain (rule_number rule)) refl

pub each_rule : (among : Around) → ExplainsEach among
each_rule among program rule ran given left out out' err err' r =
    let plain = numbers_plain rule in
    let h = explained among ran given left out out' err err' (command_line program (codes "explain" ∷ (rule_number rule ∷ []))) (Some (rule_number rule)) false (explain_word program (rule_number rule) plain) (explain_word_named program (rule_number rule) plain) r in
    (found among ran given left out out' err err' false (rule_number rule) rule (names_each rule) h.0, h.1)

pub each_rule_as_json : (among : Around) → ExplainsEachAsJson among
each_rule_as_json among program rule ran given left out out' err err' r =
    let plain = numbers_plain rule in
    let h = explained among ran given left out out' err err' (command_line program (codes "explain" ∷ (rule_number rule ∷ (codes "--json" ∷ [])))) (Some (rule_number rule)) true (explain_word_json program (rule_number rule) plain) (explain_word_json_named program (rule_number rule) plain) r in
    (found among ran given left out out' err err' true (rule_number rule) rule (names_each rule) h.0, h.1)

pub no_rule : (among : Around) → RefusesOthers among
no_rule among program word plain none ran given left out out' err err' r =
    let h = explained among ran given left out out' err err' (command_line program (codes "explain" ∷ (word ∷ []))) (Some word) false (explain_word program word plain) (explain_word_named program word plain) r in
    (lost among ran given left out out' err err' word none h.0, h.1)

alone : (program : Text) → refusals (command_line program (codes "explain" ∷ [])) ≡ []
unfolding clap_on_literals
alone program = refl

alone_named : (program : Text) → asked_by (command_line program (codes "explain" ∷ [])) ≡ ToExplain None false
unfolding clap_on_literals
alone_named program = refl

pub all_rules : (among : Around) → ListsAll among
all_rules among program ran given left out out' err err' r =
    let h = explained among ran given left out out' err err' (command_line program (codes "explain" ∷ [])) None false (alone program) (alone_named program) r in
    (whole among ran given left out out' err err' false h.0, h.1)

as_json : (program : Text) → refusals (command_line program (codes "explain" ∷ (codes "--json" ∷ []))) ≡ []
unfolding clap_on_literals
as_json program = refl

as_json_named : (program : Text) → asked_by (command_line program (codes "explain" ∷ (codes "--json" ∷ []))) ≡ ToExplain None true
unfolding clap_on_literals
as_json_named program = refl

pub all_rules_as_json : (among : Around) → ListsAllAsJson among
all_rules_as_json among program ran given left out out' err err' r =
    let h = explained among ran given left out out' err err' (command_line program (codes "explain" ∷ (codes "--json" ∷ []))) None true (as_json program) (as_json_named program) r in
    (whole among ran given left out out' err err' true h.0, h.1)

here : (program : Text) → refusals (command_line program (codes "check" ∷ [])) ≡ []
unfolding clap_on_literals
here program = refl

here_named : (program : Text) → asked_by (command_line program (codes "check" ∷ [])) ≡ ToCheck (codes ".") None plain_style None
unfolding clap_on_literals
here_named program = refl

pub no_folder : (among : Around) → ChecksHere among
no_folder among program ran given left out out' err err' r =
    checked among ran given left out out' err err' (command_line program (codes "check" ∷ [])) (codes ".") None plain_style None (here program) (here_named program) r

pub each_folder : (among : Around) → ChecksEach among
each_folder among program folder plain ran given left out out' err err' r =
    checked among ran given left out out' err err' (command_line program (codes "check" ∷ (folder ∷ []))) folder None plain_style None (check_folder program folder plain) (check_folder_named program folder plain) r

pub each_module : (among : Around) → ChecksEachModule among
each_module among program folder path plain plain' ran given left out out' err err' r =
    checked among ran given left out out' err err' (command_line program (codes "check" ∷ (folder ∷ (codes "--module" ∷ (path ∷ []))))) folder (Some path) plain_style None (check_module program folder path plain plain') (check_module_named program folder path plain plain') r

pub each_as_json : (among : Around) → ChecksEachAsJson among
each_as_json among program folder path plain plain' ran given left out out' err err' r =
    checked among ran given left out out' err err' (command_line program (codes "check" ∷ (folder ∷ (codes "--module" ∷ (path ∷ (codes "--json" ∷ [])))))) folder (Some path) json_style None (check_module_json program folder path plain plain') (check_module_json_named program folder path plain plain') r

pub each_command : (among : Around) → HelpsEach among
each_command among program name text plain is ran given left out out' err err' r =
    let h = helped among ran given left out out' err err' (command_line program (codes "help" ∷ (name ∷ []))) (Some name) (help_word program name plain) (help_word_named program name plain) r in
    (known among ran given left out out' err err' name text is h.0, h.1)

pub no_command : (among : Around) → RefusesOtherCommands among
no_command among program name plain none ran given left out out' err err' r =
    let h = helped among ran given left out out' err err' (command_line program (codes "help" ∷ (name ∷ []))) (Some name) (help_word program name plain) (help_word_named program name plain) r in
    (unknown among ran given left out out' err err' name none h.0, h.1)
