-- The locals that the functions of a file declare stand one behind another.
use Rattle.std.proofs.Common.{◌≡◌, ℕ, suc, ◌+◌, ◌≤◌, Bool, true, false, List, [], ◌∷◌, ◌++◌, map, Option, refl, sym, ap, subst, arith}
use Rattle.std.proofs.lemmas.Grind.{flat_map-append}
use Rattle.go_tree_nodes.specs.token_core.declared.kind.Operator.TheVariants as operator
use Rattle.go_tree_nodes.specs.declared.names.Ident.{Ident}
use Rattle.go_tree_nodes.specs.Terminals.{InOrder}
use Rattle.go_tree_nodes.specs.Trees.{FuncTree, FileTree, DeclTree, Value, Types, Func, TopTree}
use Rattle.go_tree_nodes.specs.Spelling.{mark, spell_decl, spell_func, spell_ident, spell_imports, spell_lines, spell_receiver, spell_signature, spell_tops, IsPlaced}
use Rattle.go_tree_nodes.proofs.InOrder.{in_order_split, in_order_ends, AreInTurn, turn_ends}
use Rattle.go_names_core.specs.local_core.Binding.{Local, bound, is_first}
use Rattle.go_names_core.specs.local_core.Law.{law_out}
use Rattle.go_names_core.specs.local_core.Outline.{func_closes, func_opens, func_steps}
use Rattle.go_names_core.specs.local_core.Steps.{Steps, Done, Check, Declare, Inner, spell_piece}
use Rattle.go_names_core.specs.local_core.Pieces.{ident_place, piece_declares}
use Rattle.go_names_core.specs.local_core.Tables.{IsFuncPlaced}
use Rattle.go_names_core.specs.local_core.Placed.{Placed, func_placed}
use Rattle.go_term_core.specs.Terms.{Term}
use Rattle.go_names_core.specs.Body.{each_means}
use Rattle.go_stmt_core.specs.piece.Headers.{returned_names, returned_types}
use Rattle.go_stmt_core.specs.piece.Pieces.{piece_values}
use Rattle.go_package_core.specs.env_core.declared.meaning.Meaning.{Meaning}
use Rattle.go_package_core.specs.env_core.declared.meaning.Meaning.TheVariants as meanings
use Rattle.go_package_core.specs.body_core.Body.{BodyOf}
use Rattle.go_package_core.specs.body_core.Notes.{NoteOf, TheLocal, TheValue, all_locals}
use Rattle.go_package_core.specs.body_core.Rules.{declared_among, value_at}
use Rattle.go_package_core.specs.body_core.FunctionFunctions.{checked_func, own_rules, walked_func}
use Rattle.go_package_core.specs.body_core.FunctionLaws.{FunctionsHaveOneTable}
use Rattle.go_package_core.specs.body_core.FunctionStands.{FileStand, looks_where, outer_looks, outer_meanings}
use Rattle.go_package_core.specs.body_core.FunctionNamed.{AreNamed, steps_are_named}
use Rattle.go_package_core.specs.body_core.FileFiles.{decl_locals, file_locals, tops_locals}

-- locals that stand one behind another between two places
abbrev pub Within : ℕ → List TheLocal → ℕ → Type 0
Within lo [] hi = lo ≤ hi
Within lo (l ∷ ls) hi = (lo ≤ l.offset) × Within (l.offset + 1) ls hi

lower : (ls : List TheLocal) (a b hi : ℕ) → a ≤ b → Within b ls hi → Within a ls hi
lower [] a b hi h k = omega (arith, h, k)
lower (l ∷ ls) a b hi h k = (let up = k.0 in omega (arith, h, up), k.1)

higher : (ls : List TheLocal) (lo a b : ℕ) → a ≤ b → Within lo ls a → Within lo ls b
higher [] lo a b h k = omega (arith, h, k)
higher (l ∷ ls) lo a b h k = (k.0, higher ls (l.offset + 1) a b h k.1)

join : (ls ms : List TheLocal) (lo mid hi : ℕ) → Within lo ls mid → Within mid ms hi → Within lo (ls ++ ms) hi
join [] ms lo mid hi h k = lower ms lo mid hi h k
join (l ∷ ls) ms lo mid hi h k = (h.0, join ls ms (l.offset + 1) mid hi h.1 k)

-- the locals of a piece

further : (means : ℕ → Meaning) (n : ℕ) (xs : List Ident) → each_means means (suc n) xs ≡ each_means (λ k. means (suc k)) n xs
further means n [] = refl
further means n (x ∷ xs) = ap (λ l. means (suc n) ∷ l) (further means (suc n) xs)

among : (firsts : List Bool) (xs : List Ident) (values : ℕ → TheValue) (lo hi : ℕ) → AreInTurn lo xs hi → Within lo (declared_among firsts (each_means (λ n. meanings.Local (ident_place xs n) (values n)) 0 xs)) hi
among [] xs values lo hi h = turn_ends xs lo hi h
among (b ∷ firsts) [] values lo hi h = h
among (b ∷ firsts) (x ∷ xs) values lo hi h = by b
    (subst (λ ms. Within (x.span.start + 1) (declared_among firsts ms) hi) (sym (further (λ n. meanings.Local (ident_place (x ∷ xs) n) (values n)) 0 xs)) (among firsts xs (λ n. values (suc n)) (x.span.start + 1) hi h.1))
  where
    by : (b : Bool) → Within (x.span.start + 1) (declared_among firsts (each_means (λ n. meanings.Local (ident_place (x ∷ xs) n) (values n)) 1 xs)) hi
        → Within lo (declared_among (b ∷ firsts) (each_means (λ n. meanings.Local (ident_place (x ∷ xs) n) (values n)) 0 (x ∷ xs))) hi
    by true rest = (h.0, rest)
    by false rest = (let up = h.0 in lower (declared_among firsts (each_means (λ n. meanings.Local (ident_place (x ∷ xs) n) (values n)) 1 xs)) lo (x.span.start + 1) hi (omega (arith, up)) rest)

-- the locals of a function

module _ (st : FileStand) (results : List (Option Term)) (has_names : Bool) (beyond : List ℕ → Option Meaning) (all : List (Local Meaning)) where
  abbrev notes_of : ℕ → ℕ → Steps → List NoteOf
  notes_of o c steps = (law_out (own_rules st results has_names) beyond all o c steps).notes

  steps_within : (steps : Steps) (o c lo hi : ℕ) → Placed lo hi steps → AreNamed steps → Within lo (all_locals (notes_of o c steps)) hi
  steps_within Done o c lo hi h named = h
  steps_within (Check p rest) o c lo hi h named =
      lower (all_locals (notes_of o c rest)) lo h.0 hi (in_order_ends (spell_piece p) lo h.0 h.1.0) (steps_within rest o c h.0 hi h.1.1 named)
  steps_within (Declare m from p xs rest) o c lo hi h named =
      let firsts : List Bool = map (is_first all o) xs in
      let look = bound beyond all in
      let values : ℕ → TheValue = value_at (piece_values (looks_where st look) firsts p) in
      let own : List TheLocal = declared_among firsts (each_means (λ n. meanings.Local (ident_place (piece_declares p) n) (values n)) 0 (piece_declares p)) in
      let here : Within lo own from = among firsts (piece_declares p) values lo from (subst (λ ys. AreInTurn lo ys from) named.0 h.1) in
      join own (all_locals (notes_of o c rest)) lo from hi here (steps_within rest o c from hi h.2 named.1)
  steps_within (Inner o' c' steps rest) o c lo hi h named =
      let up = h.0 in
      let inside = lower (all_locals (notes_of o' c' steps)) lo (o' + 1) c' (omega (arith, up)) (steps_within steps o' c' (o' + 1) c' h.1 named.0) in
      subst (λ ls. Within lo ls hi) (sym (flat_map-append (λ (n : NoteOf). n.locals) (notes_of o' c' steps) (notes_of o c rest)))
      (join (all_locals (notes_of o' c' steps)) (all_locals (notes_of o c rest)) lo c' hi inside (steps_within rest o c c' hi h.2 named.1))

module _ (one : FunctionsHaveOneTable) (st : FileStand) where
  func_within : (g : FuncTree) (lo hi : ℕ) → InOrder lo (spell_func g) hi → Within lo (checked_func st g).locals hi
  func_within g lo hi h =
      let all : List (Local Meaning) = (walked_func st g).declares in
      let placed : IsFuncPlaced g = (lo, (hi, h)) in
      let regions = one.regions st g placed all ((one.table st g placed all).1 refl) in
      let a = in_order_split (spell_receiver g.receiver) (spell_ident g.name ∷ (spell_signature g.signature ++ (mark operator.OpenBrace g.open_brace ∷ (spell_lines g.body ++ mark operator.CloseBrace g.close_brace ∷ [])))) g.func.end hi h.2 in
      let b = in_order_split (spell_signature g.signature) (mark operator.OpenBrace g.open_brace ∷ (spell_lines g.body ++ mark operator.CloseBrace g.close_brace ∷ [])) g.name.span.end hi a.1.1.2 in
      let d = in_order_split (spell_lines g.body) (mark operator.CloseBrace g.close_brace ∷ []) g.open_brace.end hi b.1.1.2 in
      let start : lo ≤ g.func.start = h.0 in
      let long = d.1.1.1 in
      let end = d.1.1.2 in
      let last : g.close_brace.start ≤ hi = omega (arith, long, end) in
      let inside = steps_within st (returned_types (outer_looks st) g.signature) (returned_names g.signature) (outer_meanings st) all (func_steps g) (func_opens g) (func_closes g) (g.func.start + 1) g.close_brace.start (func_placed g lo hi h) (steps_are_named g) in
      subst (λ (o : BodyOf). Within lo o.locals hi) regions
      (higher _ lo g.close_brace.start hi last (lower _ lo (g.func.start + 1) g.close_brace.start (omega (arith, start)) inside))

  decl_within : (d : DeclTree) (lo hi : ℕ) → InOrder lo (spell_decl d) hi → Within lo (decl_locals st d) hi
  decl_within (Value v) lo hi h = in_order_ends (spell_decl (Value v)) lo hi h
  decl_within (Types t) lo hi h = in_order_ends (spell_decl (Types t)) lo hi h
  decl_within (Func g) lo hi h = func_within g lo hi h

  tops_within : (ds : List TopTree) (lo hi : ℕ) → InOrder lo (spell_tops ds) hi → Within lo (tops_locals st ds) hi
  tops_within [] lo hi h = h
  tops_within (d ∷ ds) lo hi h =
      let parts = in_order_split (spell_decl d.decl) (mark operator.Semicolon d.semicolon ∷ spell_tops ds) lo hi h in
      let start = parts.1.1.0 in
      let long = parts.1.1.1 in
      join (decl_locals st d.decl) (tops_locals st ds) lo parts.0 hi (decl_within d.decl lo parts.0 parts.1.0)
      (lower (tops_locals st ds) parts.0 d.semicolon.end hi (omega (arith, start, long)) (tops_within ds d.semicolon.end hi parts.1.1.2))

  pub file_within : (t : FileTree) → IsPlaced t → (lo : ℕ) × ((hi : ℕ) × Within lo (file_locals st t) hi)
  file_within t h =
      let split = in_order_split (spell_imports t.imports) (spell_tops t.decls) t.semicolon.end h.0 h.1.2.2.2 in
      (split.0, (h.0, tops_within t.decls split.0 h.0 split.1.1))
