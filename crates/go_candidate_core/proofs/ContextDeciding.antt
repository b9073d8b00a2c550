-- What a name stands for decides whether it has a declaration.
use Rattle.std.proofs.Common.{◌≡◌, Bool, true, false, ◌&&◌, not, refl}
use Rattle.std.specs.Prelude.{if◌then◌else◌}
use Rattle.go_tree_nodes.specs.text_core.Text.{is_blank}
use Rattle.go_tree_nodes.specs.text_core.declared.rule.Rule.TheVariants.{N8}
use Rattle.go_expr_core.specs.denote_core.declared.things.Stand.{Stand}
use Rattle.go_expr_core.specs.denote_core.declared.things.Stand.TheVariants as stands
use Rattle.go_expr_core.specs.denote_core.declared.things.Found.{Found}
use Rattle.go_expr_core.specs.denote_core.declared.things.Found.TheVariants as founds
use Rattle.go_expr_core.specs.denote_core.Answers.{found_answer, refused}
use Rattle.go_candidate_core.specs.context.Alone.{fits_some}
use Rattle.go_candidate_core.specs.context.Laws.{is_declared, thing_found_as, ThingsDecide}

module _ {T S D : Type 0} (P : Type 0) where
  decided : (p : Stand) (f : Found T S D) → is_declared (found_answer {P = P} p f).outcome ≡ fits_some p (thing_found_as f)
  decided p founds.Missing = refl
  decided p founds.BadImport = refl
  decided p founds.Outside = refl
  decided stands.«Type» (founds.«Package» d) = refl
  decided stands.TypeDot (founds.«Package» d) = refl
  decided stands.«Value» (founds.«Package» d) = refl
  decided stands.Callee (founds.«Package» d) = refl
  decided stands.BeforeDot (founds.«Package» d) = refl
  decided stands.«Type» (founds.«Type» d t) = refl
  decided stands.TypeDot (founds.«Type» d t) = refl
  decided stands.«Value» (founds.«Type» d t) = refl
  decided stands.Callee (founds.«Type» d t) = refl
  decided stands.BeforeDot (founds.«Type» d t) = refl
  decided stands.«Type» (founds.Func d s) = refl
  decided stands.TypeDot (founds.Func d s) = refl
  decided stands.«Value» (founds.Func d s) = refl
  decided stands.Callee (founds.Func d s) = refl
  decided stands.BeforeDot (founds.Func d s) = refl
  decided stands.«Type» (founds.Builtin d b) = refl
  decided stands.TypeDot (founds.Builtin d b) = refl
  decided stands.«Value» (founds.Builtin d b) = refl
  decided stands.Callee (founds.Builtin d b) = refl
  decided stands.BeforeDot (founds.Builtin d b) = refl
  decided stands.«Type» (founds.«Value» d value) = refl
  decided stands.TypeDot (founds.«Value» d value) = refl
  decided stands.«Value» (founds.«Value» d value) = refl
  decided stands.Callee (founds.«Value» d value) = refl
  decided stands.BeforeDot (founds.«Value» d value) = refl

pub things_decide : (T S D P : Type 0) → ThingsDecide T S D P
things_decide T S D P look p name = by (is_blank name)
  where
    by : (b : Bool) → is_declared (if b then refused {T = T} {S = S} {D = D} {P = P} N8 else found_answer p (look.names.find name)).outcome ≡ (not b && fits_some p (thing_found_as (look.names.find name)))
    by true = refl
    by false = decided P p (look.names.find name)
