use Rattle.std.proofs.Common.{List, [], ℕ, map, sym, subst, ◌∙◌}
use Rattle.std.specs.Prelude.{All}
use Rattle.go_package_core.specs.package_part.Parts.{PartModel}
use Rattle.go_parallel_core.specs.Handed.{AreTaken}
use Rattle.go_parallel_core.specs.Seen.{Rests}
use Rattle.go_parallel_core.specs.Told.{AreAllTold, TellsMore, input_of, summary_in}
use Rattle.go_parallel_core.proofs.Handing.{held_cut, taken_cut}
use Rattle.go_parallel_core.proofs.Seeing.{made_more, rest_all}
use Rattle.go_parallel_core.proofs.compiling.compile_level.Goals as goal

pub begin_all-requires-clause-held : goal.begin_all-requires-clause-held
begin_all-requires-clause-held g c = held_cut c.args.batch.now.parts c.args.level.inputs.items c.in_ok-shares.shares.items c.requires.held c.in_ok-shares.ensures

pub begin_all-requires-clause-made : goal.begin_all-requires-clause-made
begin_all-requires-clause-made g c = subst (λ (ps : List PartModel). AreAllTold c.args.batch.now.parts (map summary_in ps)) (sym c.deref-2.ensures.value) c.requires.seers.made

pub begin_all-requires-clause-rests : goal.begin_all-requires-clause-rests
begin_all-requires-clause-rests g c = subst (λ (ps : List PartModel). All (Rests c.args.batch.now.parts ps []) c.args.seers.resting.items) (sym c.deref-2.ensures.value) c.requires.seers.resting

pub end_all-requires-clause-made : goal.end_all-requires-clause-made
end_all-requires-clause-made g c = subst (λ (ps : List PartModel). AreAllTold c.args.batch.now.parts (map summary_in ps)) (sym c.deref-3.ensures.value) c.requires.seers.made

pub end_all-requires-clause-rests : goal.end_all-requires-clause-rests
end_all-requires-clause-rests g c =
    subst (λ (ps : List PartModel). All (Rests c.args.batch.now.parts ps []) c.begin_all.new.resting.items) (c.deref-2.ensures.value ∙ sym c.deref-3.ensures.value) c.in_ok-works.ensures.rests

pub finish_all-requires : goal.finish_all-requires
finish_all-requires g c =
    let taken : AreTaken c.args.batch.now.slots c.args.level.places.items (map input_of c.in_ok-parts.parts.items) =
    taken_cut c.args.batch.now.slots c.args.level.places.items c.args.level.inputs.items c.in_ok-shares.shares.items c.in_ok-works.works.items c.in_ok-parts.parts.items c.requires.taken c.in_ok-shares.ensures c.in_ok-works.ensures.inputs c.in_ok-parts.ensures.parts in
    subst (λ (ns : List ℕ). AreTaken c.args.batch.now.slots ns (map input_of c.deref-5.result.now)) (sym c.deref-4.ensures.value)
    (subst (λ (ps : List PartModel). AreTaken c.args.batch.now.slots c.args.level.places.items (map input_of ps)) (sym c.deref-5.ensures.value) taken)

pub returns-clause-seers : goal.returns-clause-seers
returns-clause-seers g c =
    let made = c.args.seers.made.items in
    let more = c.in_ok-parts.parts.items in
    let old = c.args.batch.now.parts in
    let new = c.finish_all.new.batch.parts in
    let grown = c.in_ok-append.ensures.items in
    let tells : TellsMore old (map summary_in more) new = subst (λ (ps : List PartModel). TellsMore old (map summary_in ps) new) c.deref-5.ensures.value c.in_ok-finish_all.ensures.tells in
    let rests : All (Rests old made (map summary_in more)) c.end_all.new.resting.items = subst (λ (ps : List PartModel). All (Rests old ps (map summary_in more)) c.end_all.new.resting.items) c.deref-3.ensures.value c.in_ok-parts.ensures.rests in
    record {
      made = subst (λ (l : List PartModel). AreAllTold new (map summary_in l)) (sym grown) (made_more old new made more c.requires.seers.made tells);
      resting = subst (λ (l : List PartModel). All (Rests new l []) c.end_all.new.resting.items) (sym grown) (rest_all old new made more tells c.end_all.new.resting.items rests);
    }
