use Rattle.std.proofs.Common.{[], List, ℕ, Vec, Some, None, sym, ap, ◌∙◌}
use Rattle.std.specs.Global.{Global}
use Rattle.std.specs.Prelude.{Option, unwrap_or}
use Rattle.std.proofs.lemmas.Option.{slice_get-get_or, slice_get_past}
use Rattle.go_reference_core.proofs.RenameKept.{shown_there}
use Rattle.go_reference_core.proofs.rename.names.file_offsets.Goals as goal

pub returns-in-Some : goal.returns-in-Some
returns-in-Some c =
    let x = c.in-Some.offsets.now in
    let look = c.in-Some.ensures.lookup in
    let at = slice_get-get_or c.args.files.now c.args.file x look.3.0 ∙ ap Some (sym look.1) in
    c.as_slice.ensures.value ∙ sym (ap (λ (o : Option (List ℕ)). unwrap_or o []) (shown_there (λ (w : Vec ℕ Global). w.items) c.args.files.now c.args.file (Some x) at))

pub returns-in-None : goal.returns-in-None
returns-in-None c =
    let at = slice_get_past c.args.files.now c.args.file c.in-None.ensures.lookup.3 in
    sym (ap (λ (o : Option (List ℕ)). unwrap_or o []) (shown_there (λ (w : Vec ℕ Global). w.items) c.args.files.now c.args.file None at))
