-- The functions of objects stand beside their sources, and those that begin a program take and give nothing.
use Rattle.std.proofs.Common.{◌≡◌, ◌⊎◌, inl, inr, ℕ, zero, suc, ◌+◌, ◌&&◌, ◌||◌, Bool, true, false, not, List, [], ◌∷◌, ◌++◌, length, Option, Some, None, codes, is_some, refl, sym, ap, ap₂, subst, arith}
use Rattle.std.specs.Prelude.{slice_get}
use Rattle.std.specs.Str.{bytes_eq}
use Rattle.std.proofs.lemmas.Bool.{and_parts}
use Rattle.std.proofs.lemmas.Option.{none-some}
use Rattle.go_tree_nodes.specs.declared.files.Receiver.{Receiver}
use Rattle.go_tree_nodes.specs.Trees.{NoParams, NoResult, OneResult, Param, ParamTrees, ResultTree, Results, SignatureTree, Signed}
use Rattle.go_term_core.specs.decl_core.TopDecls.{FormTree, FuncForm, TopDeclTree, TypeForm, ValueForm}
use Rattle.go_names_core.specs.block_core.Declarations.{has_receiver, is_procedure, without_params, without_results}
use Rattle.go_code_core.specs.declared.fragments.names.Gives.TheVariants as gives
use Rattle.go_code_core.specs.fragments.Names.{CodeLooks}
use Rattle.go_meaning_laws.specs.source_meaning.Meaning.{SourceOf}
use Rattle.go_meaning_laws.specs.fitting_sources.Fitting.{given_by, listed_gives, params_over, receiver_over, result_gives, signature_gives, signature_over, taken_by}
use Rattle.go_object_core.specs.Objects.{FunctionOf}
use Rattle.go_machine_core.specs.link.Functions.{is_called, number_if, numbers_called}
use Rattle.go_meaning_laws.specs.handle_core.Declarations.{Declaration}
use Rattle.go_body_core.specs.Notes.{TheUse}
use Rattle.go_emit_core.specs.Emitted.{form_function, functions_of}
use Rattle.go_workspace_laws.proofs.ConstantLists.{HasItem, has_either}
use Rattle.go_meaning_laws.specs.object_sources.Sources.{form_source, source_in, sources_in}
use Rattle.go_program_laws.proofs.CallsProcedures.{IsRightDecl}

-- a function without parameters and results

abbrev pub TakesNothing : SourceOf → Type 0
TakesNothing s = (given_by s ≡ gives.Nothing) × (taken_by s ≡ [])

no_params : (looks : CodeLooks) (ps : ParamTrees) → without_params ps ≡ true → (params_over looks ps ≡ []) × (listed_gives looks ps ≡ gives.Nothing)
no_params looks NoParams e = (refl, refl)
no_params looks (Param xs t comma rest) e = absurd (cc e)

no_results : (looks : CodeLooks) (r : ResultTree) → without_results r ≡ true → result_gives looks r ≡ gives.Nothing
no_results looks NoResult e = refl
no_results looks (OneResult t) e = absurd (cc e)
no_results looks (Results first ps last) e = (no_params looks ps e).1

no_signature : (looks : CodeLooks) (s : SignatureTree) → is_procedure s ≡ true → (signature_gives looks s ≡ gives.Nothing) × (signature_over looks s ≡ [])
no_signature looks (Signed first ps last r) e = (let both = and_parts (without_params ps) (without_results r) e in (no_results looks r both.1, (no_params looks ps both.0).0))

no_receiver : (looks : CodeLooks) (r : Option Receiver) → has_receiver r ≡ false → receiver_over looks r ≡ []
no_receiver looks None e = refl
no_receiver looks (Some r) e = absurd (cc e)

receiver_same : (r : Option Receiver) → not (is_some r) ≡ true → has_receiver r ≡ false
receiver_same None e = refl
receiver_same (Some r) e = absurd (cc e)

takes_nothing : (s : SourceOf) → has_receiver s.tree.receiver ≡ false → is_procedure s.tree.signature ≡ true → TakesNothing s
takes_nothing s none e =
    let both = no_signature s.looks s.tree.signature e in
    (both.0, ap₂ ◌++◌ (no_receiver s.looks s.tree.receiver none) both.1)

-- functions and sources of one list each

-- a function and its source, where the package is called `main`, or is not
pub record IsPaired (is_main : Bool) (f : FunctionOf Declaration) (s : SourceOf) : Type 0 where
  pub inits : is_called (codes "init") f ≡ true → TakesNothing s
  pub mains : is_main ≡ true → is_called (codes "main") f ≡ true → TakesNothing s

module _ (is_main : Bool) where
  abbrev pub ArePaired : List (FunctionOf Declaration) → List SourceOf → Type 0
  ArePaired [] [] = Unit {0}
  ArePaired [] (s ∷ ss) = ⊥
  ArePaired (f ∷ fs) [] = ⊥
  ArePaired (f ∷ fs) (s ∷ ss) = IsPaired is_main f s × ArePaired fs ss

  pub joined : (fs gs : List (FunctionOf Declaration)) (ss ts : List SourceOf) → ArePaired fs ss → ArePaired gs ts → ArePaired (fs ++ gs) (ss ++ ts)
  joined [] gs [] ts h k = k
  joined [] gs (s ∷ ss) ts h k = absurd h
  joined (f ∷ fs) gs [] ts h k = absurd h
  joined (f ∷ fs) gs (s ∷ ss) ts h k = (h.0, joined fs gs ss ts h.1 k)

  pub as_long : (fs : List (FunctionOf Declaration)) (ss : List SourceOf) → ArePaired fs ss → length fs ≡ length ss
  as_long [] [] h = refl
  as_long [] (s ∷ ss) h = absurd h
  as_long (f ∷ fs) [] h = absurd h
  as_long (f ∷ fs) (s ∷ ss) h = ap suc (as_long fs ss h.1)

  either_fixed : (a b c : Bool) → (a ≡ true) ⊎ ((b ≡ true) × (c ≡ true)) → (a || (b && c)) ≡ true
  either_fixed true b c h = refl
  either_fixed false b c (inl e) = absurd (cc e)
  either_fixed false b c (inr e) = ap₂ (λ (x y : Bool). x && y) e.0 e.1

  module _ (number : Declaration → Option ℕ) (path : List ℕ) (file : ℕ) (uses : List TheUse) (looking : ℕ → CodeLooks) where
    form_paired : (d : TopDeclTree) (t : FormTree) → d.form ≡ t → IsRightDecl is_main d → ArePaired (form_function path file uses looking d t) (form_source number uses looking t)
    form_paired d (ValueForm k v at) e right = tt
    form_paired d (TypeForm t) e right = tt
    form_paired d (FuncForm g) e right = (
      record {
        inits = λ called.
            let both = and_parts (bytes_eq d.ident.name (codes "init")) (not (is_some g.receiver)) called in
            let none = receiver_same g.receiver both.1 in
            takes_nothing (source_in number uses looking g) none (right g e none (either_fixed (bytes_eq d.ident.name (codes "init")) is_main (bytes_eq d.ident.name (codes "main")) (inl both.0)));
        mains = λ main called.
            let both = and_parts (bytes_eq d.ident.name (codes "main")) (not (is_some g.receiver)) called in
            let none = receiver_same g.receiver both.1 in
            takes_nothing (source_in number uses looking g) none (right g e none (either_fixed (bytes_eq d.ident.name (codes "init")) is_main (bytes_eq d.ident.name (codes "main")) (inr (main, both.0))));
      },
      tt,
    )

    pub decls_paired : (ds : List TopDeclTree) → ((d : TopDeclTree) → HasItem ds d → IsRightDecl is_main d) → ArePaired (functions_of path file uses looking ds) (sources_in number uses looking ds)
    decls_paired [] right = tt
    decls_paired (d ∷ ds) right =
        joined (form_function path file uses looking d d.form) (functions_of path file uses looking ds) (form_source number uses looking d.form) (sources_in number uses looking ds)
        (form_paired d d.form refl (right d (inl refl))) (decls_paired ds (λ x h. right x (inr h)))

-- numbers of functions

-- the source of a number, where the first has another number, takes and gives nothing
pub record StandsAt (ss : List SourceOf) (first number : ℕ) : Type 0 where
  pub place : ℕ
  pub sum : number ≡ first + place
  pub source : SourceOf
  pub there : slice_get ss place ≡ Some source
  pub takes : TakesNothing source

get_left : {A : Type 0} (xs ys : List A) (n : ℕ) (x : A) → slice_get xs n ≡ Some x → slice_get (xs ++ ys) n ≡ Some x
get_left [] ys n x e = absurd (none-some x e)
get_left (y ∷ xs) ys zero x e = e
get_left (y ∷ xs) ys (suc n) x e = get_left xs ys n x e

get_right : {A : Type 0} (xs ys : List A) (n : ℕ) (x : A) → slice_get ys n ≡ Some x → slice_get (xs ++ ys) (length xs + n) ≡ Some x
get_right [] ys n x e = (let sum : 0 + n ≡ n = omega arith in subst (λ m. slice_get ys m ≡ Some x) (sym sum) e)
get_right (y ∷ xs) ys n x e = (let sum : suc (length xs) + n ≡ suc (length xs + n) = omega arith in subst (λ m. slice_get (y ∷ (xs ++ ys)) m ≡ Some x) (sym sum) (get_right xs ys n x e))

pub before_others : (ss ts : List SourceOf) (first number : ℕ) → StandsAt ss first number → StandsAt (ss ++ ts) first number
before_others ss ts first number at = record { place = at.place; sum = at.sum; source = at.source; there = get_left ss ts at.place at.source at.there; takes = at.takes }

pub behind_others : (ss ts : List SourceOf) (first number : ℕ) → StandsAt ts (first + length ss) number → StandsAt (ss ++ ts) first number
behind_others ss ts first number at =
    let sum = at.sum in
    record { place = length ss + at.place; sum = omega (arith, sum); source = at.source; there = get_right ss ts at.place at.source at.there; takes = at.takes }

next_number : (s : SourceOf) (ss : List SourceOf) (first number : ℕ) → StandsAt ss (first + 1) number → StandsAt (s ∷ ss) first number
next_number s ss first number at = (let sum = at.sum in record { place = suc at.place; sum = omega (arith, sum); source = at.source; there = at.there; takes = at.takes })

module _ (is_main : Bool) (name : List ℕ) (wanted : (f : FunctionOf Declaration) (s : SourceOf) → IsPaired is_main f s → is_called name f ≡ true → TakesNothing s) where
  first_called : (b : Bool) (first number : ℕ) (f : FunctionOf Declaration) (s : SourceOf) (ss : List SourceOf) → IsPaired is_main f s → is_called name f ≡ b → HasItem (number_if b first) number → StandsAt (s ∷ ss) first number
  first_called true first number f s ss pair e (inl same) = (let sum : number ≡ first + 0 = omega (arith, same) in record { place = 0; sum = sum; source = s; there = refl; takes = wanted f s pair e })
  first_called true first number f s ss pair e (inr none) = absurd none
  first_called false first number f s ss pair e none = absurd none

  pub called_stands : (first : ℕ) (fs : List (FunctionOf Declaration)) (ss : List SourceOf) → ArePaired is_main fs ss → (number : ℕ) → HasItem (numbers_called name first fs) number → StandsAt ss first number
  called_stands first [] ss h number k = absurd k
  called_stands first (f ∷ fs) [] h number k = absurd h
  called_stands first (f ∷ fs) (s ∷ ss) h number k = elim (has_either (number_if (is_called name f) first) (numbers_called name (first + 1) fs) number k) [
    | inl here ↦ first_called (is_called name f) first number f s ss h.0 refl here
    | inr later ↦ next_number s ss first number (called_stands (first + 1) fs ss h.1 number later)
  ]
