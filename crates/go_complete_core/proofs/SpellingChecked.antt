-- What is noted of a checked function is what its pieces have.
use Rattle.std.proofs.Common.{◌≡◌, ℕ, Bool, List, [], ◌∷◌, ◌++◌, refl, sym, ap, subst, ◌∙◌, append_assoc}
use Rattle.std.specs.Prelude.{Option}
use Rattle.go_tree_nodes.specs.Trees.{FuncTree}
use Rattle.go_names_core.specs.local_core.Outline.{func_steps, func_opens, func_closes}
use Rattle.go_names_core.specs.local_core.Steps.{Steps, Done, Check, Declare, Inner}
use Rattle.go_names_core.specs.local_core.mirrors.Walk.{Names, look_in, with_names, news, names_of, walk_out}
use Rattle.go_term_core.specs.Terms.{Term, Sign}
use Rattle.go_candidate_core.specs.handle_core.Declarations.{Declaration}
use Rattle.go_stmt_core.specs.piece.Headers.{returned_types, returned_names}
use Rattle.go_stmt_core.specs.piece.Pieces.{piece_uses, piece_values}
use Rattle.go_package_core.specs.env_core.declared.meaning.Meaning.{Meaning}
use Rattle.go_package_core.specs.body_core.Notes.{NoteOf, all_uses}
use Rattle.go_package_core.specs.body_core.Rules.{local_at}
use Rattle.go_package_core.specs.body_core.FunctionStands.{FileStand, looks_where, outer_meanings, outer_looks}
use Rattle.go_package_core.specs.body_core.FunctionFunctions.{own_rules, checked_func}
use Rattle.go_complete_core.specs.spelling.Contexts.{ContextStays}
use Rattle.go_complete_core.specs.spelling.PieceContexts.{use_rules}
use Rattle.go_complete_core.proofs.SpellingWalks.{functions_stay}
use Rattle.go_complete_core.specs.spelling.Functions.{func_spots, names_before, CheckedFunctionsStay}

all_both : (ns ms : List NoteOf) → all_uses (ns ++ ms) ≡ all_uses ns ++ all_uses ms
all_both [] ms = refl
all_both (n ∷ ns) ms = ap (λ l. n.uses ++ l) (all_both ns ms) ∙ sym (append_assoc n.uses (all_uses ns) (all_uses ms))

module _ (st : FileStand) (results : List (Option Term)) (has_names : Bool) where
  noted : (s : Steps) (outer block : Names Meaning) (o c : ℕ)
      → all_uses (walk_out (own_rules st results has_names) (outer_meanings st) outer block o c s).notes ≡ (walk_out (use_rules (looks_where st) local_at) (outer_meanings st) outer block o c s).notes
  noted Done outer block o c = refl
  noted (Check p rest) outer block o c = ap (λ l. piece_uses (looks_where st (look_in (outer_meanings st) (outer ++ block))) p ++ l) (noted rest outer block o c)
  noted (Declare m from p xs rest) outer block o c =
      let looks = looks_where st (look_in (outer_meanings st) (outer ++ block)) in
      ap (λ l. piece_uses looks p ++ l) (noted rest outer (with_names block (local_at p (piece_values looks (news (names_of block) xs) p)) 0 xs) o c)
  noted (Inner a b inner rest) outer block o c =
      all_both (walk_out (own_rules st results has_names) (outer_meanings st) (outer ++ block) [] a b inner).notes (walk_out (own_rules st results has_names) (outer_meanings st) outer block o c rest).notes
      ∙ (ap (λ l. l ++ all_uses (walk_out (own_rules st results has_names) (outer_meanings st) outer block o c rest).notes) (noted inner (outer ++ block) [] a b)
      ∙ ap (λ l. (walk_out (use_rules (looks_where st) local_at) (outer_meanings st) (outer ++ block) [] a b inner).notes ++ l) (noted rest outer block o c))

pub func_noted : (st : FileStand) (f : FuncTree) → (checked_func st f).uses ≡ (walk_out (use_rules (looks_where st) local_at) (outer_meanings st) [] [] (func_opens f) (func_closes f) (func_steps f)).notes
func_noted st f = noted st (returned_types (outer_looks st) f.signature) (returned_names f.signature) (func_steps f) [] [] (func_opens f) (func_closes f)

pub checked_stay : CheckedFunctionsStay
checked_stay st x name f g r =
    let s = functions_stay Meaning Term Sign Declaration (List ℕ) (looks_where st) local_at (outer_meanings st) x name f g r in
    record {
      respells = s.respells;
      stays =
          subst (λ us. ContextStays Term Sign Declaration (List ℕ) (looks_where st (names_before st x name f g s.respells)) x name (func_spots st f) us) (sym (func_noted st g))
          s.stays;
    }
