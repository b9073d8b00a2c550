use Rattle.std.proofs.Common.{◌≡◌, ◌<◌, ap, Some, slice_get, get_or, length, sym, subst}
use Rattle.std.proofs.lemmas.Option.{slice_get_within, get_or_from_slice_get}
use Rattle.go_table_core.specs.Tables.{AreOthers}
use Rattle.go_summary_core.specs.Summaries.{SummaryModel, path_of}
use Rattle.go_summary_core.proofs.Viewed.{before, of_one_more, types_apart, types_more}
use Rattle.go_summary_core.proofs.reached.ReachedSummaries.types.Goals as goal

pub add_types-requires : goal.add_types-requires
add_types-requires c =
    let ss = c.args.self.now in
    let i = c.loop-index.index in
    let s = c.in-Some.summary.now in
    let at : slice_get ss i ≡ Some s = sym c.in-Some.ensures in
    let lt : i < length ss = slice_get_within ss i s at in
    let is : s ≡ get_or ss i s = sym (get_or_from_slice_get ss i s s at) in
    subst (AreOthers (path_of s)) (sym c.loop-index.invariant.0) (types_apart _ (path_of s) c.loop-index.invariant.1 (before ss i s c.requires lt is))

pub loop-index-preserved : goal.loop-index-preserved
loop-index-preserved c =
    let ss = c.args.self.now in
    let i = c.loop-index.index in
    let s = c.in-Some.summary.now in
    let at : slice_get ss i ≡ Some s = sym c.in-Some.ensures in
    let lt : i < length ss = slice_get_within ss i s at in
    let is : s ≡ get_or ss i s = sym (get_or_from_slice_get ss i s s at) in (
      types_more ss i s c.loop-index.types _ lt is c.in_ok-add_types-in-Some.ensures.types c.loop-index.invariant.0,
      of_one_more ss i s lt is c.in_ok-add_types-in-Some.ensures.own c.loop-index.invariant.1,
    )
