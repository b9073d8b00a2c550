-- What a selector chooses is what it denotes.
use Rattle.std.proofs.Common.{◌≡◌, ℕ, Bool, List, Ok, Err, ap}
use Rattle.go_denote_core.specs.text_core.declared.rule.Rule.{Rule}
use Rattle.go_term_core.specs.Terms.{Term}
use Rattle.go_table_core.specs.Entries.{Entry, find_entry}
use Rattle.go_mset_core.specs.embed_core.Owners.{Found, AFieldOf, AMethodOf, AnInterfaces, TheErrorMethod}
use Rattle.go_mset_core.specs.select_core.LevelsSelectors.{IsDenoted, IsRule}
use Rattle.go_handle_core.specs.deciding.Selecting.{choice, selected_of}
use Rattle.go_handle_core.specs.deciding.Rules.{selection_of}
use Rattle.go_handle_core.specs.deciding.Laws.{SelectionsAreDecided}
use Rattle.go_handle_core.proofs.DecidingChoosing.{denoted_decided, refused_decided}

module _ {D P : Type 0} (decl : Found → D) (path_of : List ℕ → P) (es : List Entry) (t : Term) (name from : List ℕ) where
  handed : (path : List ℕ) (passes : Bool) (f : Found) → IsDenoted (find_entry es) t name from path passes f
      → selection_of decl path_of (find_entry es) (selected_of es t name from) ≡ selection_of decl path_of (find_entry es) (Ok (choice path passes f))
  handed path passes f d = ap (λ r. selection_of decl path_of (find_entry es) r) ((denoted_decided es t name from path passes f).1 d)

  refused : (rule : Rule) → IsRule (find_entry es) t name from rule → selection_of decl path_of (find_entry es) (selected_of es t name from) ≡ selection_of decl path_of (find_entry es) (Err rule)
  refused rule d = ap (λ r. selection_of decl path_of (find_entry es) r) ((refused_decided es t name from rule).1 d)

pub selections_decided : (D P : Type 0) → SelectionsAreDecided D P
selections_decided D P =
    record {
      field = λ decl path_of es t name from path passes home place u d. handed decl path_of es t name from path passes (AFieldOf home place u) d;
      declared_method = λ decl path_of es t name from path passes home place pointer g d. handed decl path_of es t name from path passes (AMethodOf home place pointer g) d;
      interface_method = λ decl path_of es t name from path passes home place g d. handed decl path_of es t name from path passes (AnInterfaces home place g) d;
      error_method = λ decl path_of es t name from path passes d. handed decl path_of es t name from path passes TheErrorMethod d;
      missing = λ decl path_of es t name from rule d. refused decl path_of es t name from rule d;
    }
