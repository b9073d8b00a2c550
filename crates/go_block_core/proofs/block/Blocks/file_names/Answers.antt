use Rattle.std.proofs.Common.{◌≡◌, Some, None, option_map, slice_get, map, length, refl, sym, ap, ◌∙◌}
use Rattle.std.proofs.lemmas.Option.{slice_get_read, slice_get_past, slice_get-map}
use Rattle.std.proofs.lemmas.Result.{IfOk-weaker}
use Rattle.go_block_core.specs.Tables.{block_of, names_in, without}
use Rattle.go_block_core.specs.Blocks.{if_block, held_in}
use Rattle.go_block_core.proofs.block.Blocks.file_names.Goals as goal

pub returns-in-Some : goal.returns-in-Some
returns-in-Some c =
    let b = c.self.inside in
    let read = slice_get_read c.deref.result.now (length c.deref.result.now) c.args.file c.in-Some.table.now refl c.in-Some.ensures.lookup.3.0 c.in-Some.ensures.lookup.1 in
    let at : slice_get (map block_of b.files.items) c.args.file ≡ Some (block_of c.in-Some.table.now) = slice_get-map block_of b.files.items c.args.file ∙ ap (option_map block_of) (ap (λ fs. slice_get fs c.args.file) (sym c.deref.ensures.value) ∙ read) in
    let held = ap (λ o. names_in (without (block_of b.package) (if_block o))) (sym at) ∙ ap (λ m. names_in (held_in m c.args.file)) c.self.view_is in
    IfOk-weaker c.names_without.result _ _ (λ names listed. listed ∙ held) c.names_without.ensures

pub returns-in-None : goal.returns-in-None
returns-in-None c =
    let b = c.self.inside in
    let past = slice_get_past c.deref.result.now c.args.file c.in-None.ensures.lookup.3 in
    let at : slice_get (map block_of b.files.items) c.args.file ≡ None = slice_get-map block_of b.files.items c.args.file ∙ ap (option_map block_of) (ap (λ fs. slice_get fs c.args.file) (sym c.deref.ensures.value) ∙ past) in
    ap (map (λ n. n.now)) c.new.ensures.items
    ∙ (ap (λ o. names_in (without (block_of b.package) (if_block o))) (sym at) ∙ ap (λ m. names_in (held_in m c.args.file)) c.self.view_is)
