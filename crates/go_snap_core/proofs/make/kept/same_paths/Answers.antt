use Rattle.std.proofs.Common.{◌≡◌, true, false, map, slice_get, sym, ap, ◌∙◌}
use Rattle.std.specs.Option.{option_map}
use Rattle.std.proofs.lemmas.Option.{slice_get-map}
use Rattle.go_report_core.specs.summary_core.Summaries.{path_of}
use Rattle.go_snap_core.proofs.MakeMarking.{alike_more}
use Rattle.go_snap_core.proofs.make.kept.same_paths.Goals as goal

pub returns-then-not-is_same_path : goal.returns-then-not-is_same_path
returns-then-not-is_same_path c =
    let xs = c.args.one.now in
    let ys = c.args.other.now in
    let i = c.loop-number.number in (
      λ yes. absurd (let no : false ≡ true = yes in cc),
      λ same. (let at : option_map path_of (slice_get xs i) ≡ option_map path_of (slice_get ys i) = sym (slice_get-map path_of xs i) ∙ (ap (λ l. slice_get l i) same ∙ slice_get-map path_of ys i) in
          sym c.if-not-is_same_path.true ∙ c.is_same_path.ensures.1 at),
    )

pub loop-number-preserved : goal.loop-number-preserved
loop-number-preserved c =
    let xs = c.args.one.now in
    let ys = c.args.other.now in
    let i = c.loop-number.number in
    alike_more (map path_of xs) (map path_of ys) i c.loop-number.invariant (slice_get-map path_of xs i ∙ (c.is_same_path.ensures.0 c.if-not-is_same_path.false ∙ sym (slice_get-map path_of ys i)))
