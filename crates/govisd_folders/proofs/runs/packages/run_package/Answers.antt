use Rattle.std.proofs.Common.{◌++◌, List, ℕ, map, subst}
use Rattle.std.proofs.lemmas.Result.{IfOk-weaker}
use Rattle.go_path_core.specs.text_core.declared.rule.Rule.TheVariants.{J1}
use Rattle.go_object_core.specs.Objects.{object_shown}
use Rattle.govisd_disk.specs.Finds.{refused_line}
use Rattle.govisd_disk.specs.Notes.{refusal_line}
use Rattle.govisd_folders.specs.runs.Outcomes.{NothingRan}
use Rattle.govisd_folders.specs.runs.Runs.{ItHasNoMain, ItIsBeyond, ItIsStuck, ItRan, program_at}
use Rattle.govisd_folders.proofs.RunsRunLemmas.{beyond_of, cannot_run, no_main_of, stuck_of}
use Rattle.govisd_folders.proofs.runs.packages.run_package.Goals as goal

pub returns-in-Ok : goal.returns-in-Ok
returns-in-Ok c = IfOk-weaker c.answer_of.result _ _ (λ a told. ItRan c.in-Ok.run' c.in-Ok.ensures.ok told) c.answer_of.ensures

pub returns-in-J1 : goal.returns-in-J1
returns-in-J1 c =
    let p = program_at (map object_shown c.args.objects.now) c.args.main.now in
    IfOk-weaker c.refuse.result _ _
    (λ a says. ItHasNoMain (no_main_of p c.args.steps c.in-Err.rule c.in-Err.ensures.err c.in-J1.is) (subst (λ (n : List ℕ). NothingRan (c.args.before.now ++ refusal_line n J1) a) c.as_str.ensures.text says)) c.refuse.ensures

pub refuse_beyond-requires : goal.refuse_beyond-requires
refuse_beyond-requires c = beyond_of (program_at (map object_shown c.args.objects.now) c.args.main.now) c.args.steps c.in-Err.rule c.in-Err.ensures.err c.in-J2.is

pub returns-in-J2 : goal.returns-in-J2
returns-in-J2 c =
    let p = program_at (map object_shown c.args.objects.now) c.args.main.now in
    IfOk-weaker c.refuse_beyond.result _ _ (λ a blamed. ItIsBeyond (beyond_of p c.args.steps c.in-Err.rule c.in-Err.ensures.err c.in-J2.is) blamed) c.refuse_beyond.ensures

pub returns-in-Z1 : goal.returns-in-Z1
returns-in-Z1 c =
    let p = program_at (map object_shown c.args.objects.now) c.args.main.now in
    IfOk-weaker c.refuse_for.result _ _
    (λ a says. ItIsStuck (stuck_of p c.args.steps c.in-Err.rule c.in-Err.ensures.err c.in-Z1.is) (subst (λ (n : List ℕ). NothingRan (c.args.before.now ++ refused_line n cannot_run) a) c.as_str-in-Z1.ensures.text says)) c.refuse_for.ensures
