use Rattle.std.proofs.Common.{[], List, ℕ, Vec, Some, None, map, sym, ap, ◌∙◌}
use Rattle.std.specs.Global.{Global}
use Rattle.std.specs.Prelude.{Option, slice_get, unwrap_or}
use Rattle.std.proofs.lemmas.Option.{slice_get-get_or, slice_get_past}
use Rattle.go_reference_core.specs.rename.Moving.{offsets_of}
use Rattle.go_reference_core.proofs.RenameKept.{shown_there}
use Rattle.go_reference_core.proofs.rename.names.offsets_in.Goals as goal

pub returns-in-Some : goal.returns-in-Some
returns-in-Some c =
    let all = c.args.names.now.offsets.items in
    let i = c.args.«package» in
    let x = c.in-Some.files.now in
    let look = c.in-Some.ensures.lookup in
    let at = ap (λ l. slice_get l i) (sym c.deref.ensures.value) ∙ (slice_get-get_or c.deref.result.now i x look.3.0 ∙ ap Some (sym look.1)) in
    c.file_offsets.ensures
    ∙ (ap (λ l. unwrap_or (slice_get (map (λ (w : Vec ℕ Global). w.items) l) c.args.file) []) c.as_slice.ensures.value
    ∙ sym (ap (λ (o : Option (List (List ℕ))). offsets_of o c.args.file) (shown_there (λ (v : Vec (Vec ℕ Global) Global). map (λ (w : Vec ℕ Global). w.items) v.items) all i (Some x) at)))

pub returns-in-None : goal.returns-in-None
returns-in-None c =
    let all = c.args.names.now.offsets.items in
    let at = ap (λ l. slice_get l c.args.«package») (sym c.deref.ensures.value) ∙ slice_get_past c.deref.result.now c.args.«package» c.in-None.ensures.lookup.3 in
    sym (ap (λ (o : Option (List (List ℕ))). offsets_of o c.args.file) (shown_there (λ (v : Vec (Vec ℕ Global) Global). map (λ (w : Vec ℕ Global). w.items) v.items) all c.args.«package» None at))
