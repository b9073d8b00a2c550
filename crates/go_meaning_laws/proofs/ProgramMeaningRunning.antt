-- What `run` gives is what the machine gives of the sources' code.
use Rattle.std.proofs.Common.{◌≡◌, ℕ, List, sym, ap, ◌∙◌}
use Rattle.go_machine_core.specs.Machine.{Run, machine}
use Rattle.go_machine_core.specs.link.Linked.{ProgramOf, RunnableOf}
use Rattle.go_machine_core.specs.runs.Laws.{AnswersAreOne}
use Rattle.go_machine_core.specs.runs.Runs.{Gives, comes_to}
use Rattle.go_meaning_laws.specs.source_meaning.Meaning.{SourceOf}
use Rattle.go_meaning_laws.specs.source_meaning.Whole.{code_of_program}
use Rattle.go_meaning_laws.specs.source_meaning.Laws.{MeantCodeMeansTheSource}
use Rattle.go_meaning_laws.specs.program_meaning.Laws.{IsMeant, RunsAsMeant, ProgramsRunAsMeant}

module _ (means : MeantCodeMeansTheSource) (one : AnswersAreOne) (p : ProgramOf) (sources : List SourceOf) (r : RunnableOf) (m : IsMeant p sources r) where
  same : (steps : ℕ) → comes_to r steps ≡ machine (code_of_program sources) r.starts steps
  same steps = ap (λ fs. machine fs r.starts steps) (m.runnable.begun.functions ∙ m.functions)

  gives : (steps : ℕ) (run : Run) → machine (code_of_program sources) r.starts steps ≡ run → Gives p steps run
  gives steps run e = (r, m.runnable, same steps ∙ e)

  given : (steps : ℕ) (run : Run) → Gives p steps run → machine (code_of_program sources) r.starts steps ≡ run
  given steps run g =
      let is : r ≡ g.0 = one.one p r g.0 m.runnable.begun g.1.begun in
      sym (same steps) ∙ ap (λ x. comes_to x steps) is ∙ g.2

  runs : RunsAsMeant p sources r.starts
  runs =
      let does = means sources r.starts m.meant in
      record {
        ends = λ n out e. let x = does.ends n out e in (x.0, gives x.0 _ x.1);
        ends_only = λ steps out g. does.ends_only steps out (given steps _ g);
        panics = λ n value out e. let x = does.panics n value out e in (x.0, gives x.0 _ x.1);
        panics_only = λ steps value out g. does.panics_only steps value out (given steps _ g);
        never_stuck = λ steps g. does.never_stuck steps g.2.0 (given steps _ (g.0, g.1, g.2.1));
        goes_on = λ n out e. let x = does.goes_on n out e in (x.0, x.1, gives x.0 _ x.2);
        goes_on_only = λ steps out g. does.goes_on_only steps out (given steps _ g);
      }

pub programs_run_as_meant : MeantCodeMeansTheSource → AnswersAreOne → ProgramsRunAsMeant
programs_run_as_meant means one p sources r m = runs means one p sources r m
