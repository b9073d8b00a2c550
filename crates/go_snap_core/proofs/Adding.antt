-- The faults of one file more.
use Rattle.std.proofs.Common.{◌≡◌, ℕ, zero, suc, ◌+◌, ◌<◌, List, [], ◌∷◌, ◌++◌, length, map, take, get_or, refl, sym, ap, subst, ◌∙◌, arith, append_assoc, append-nil}
use Rattle.std.proofs.lemmas.List.{take_more, length-take}
use Rattle.go_graph_core.specs.Sources.{SourceModel}
use Rattle.go_emit_core.specs.package_core.PackagePartParts.{FileOf}
use Rattle.go_snap_core.specs.declared.fault.PlacedFault.{PlacedFault}
use Rattle.go_snap_core.specs.mirrors.Reports.{part_faults, placed, text_fault, text_faults}

part_push : (number k : ℕ) (fs : List FileOf) (f : FileOf) → part_faults number k (fs ++ f ∷ []) ≡ part_faults number k fs ++ map (placed number (k + length fs)) f.report
part_push number k [] f = (let e : k ≡ k + 0 = omega arith in append-nil (map (placed number k) f.report) ∙ ap (λ (n : ℕ). map (placed number n) f.report) e)
part_push number k (x ∷ fs) f =
    let e : suc k + length fs ≡ k + suc (length fs) = omega arith in
    ap (λ l. map (placed number k) x.report ++ l) (part_push number (suc k) fs f ∙ ap (λ (n : ℕ). part_faults number (suc k) fs ++ map (placed number n) f.report) e)
    ∙ sym (append_assoc (map (placed number k) x.report) (part_faults number (suc k) fs) (map (placed number (k + suc (length fs))) f.report))

pub part_more : (number i : ℕ) (fs : List FileOf) (f : FileOf) (start old new : List PlacedFault) → i < length fs → f ≡ get_or fs i f → old ≡ start ++ part_faults number 0 (take i fs) → new ≡ old ++ map (placed number i) f.report → new ≡ start ++ part_faults number 0 (take (i + 1) fs)
part_more number i fs f start old new lt at before added =
    let n : 0 + length (take i fs) ≡ i = omega (arith, length-take i fs, lt) in
    let more : take (i + 1) fs ≡ take i fs ++ f ∷ [] = take_more fs i f lt ∙ ap (λ (x : FileOf). take i fs ++ x ∷ []) (sym at) in
    let pushed : part_faults number 0 (take (i + 1) fs) ≡ part_faults number 0 (take i fs) ++ map (placed number i) f.report
    = ap (part_faults number 0) more ∙ (part_push number 0 (take i fs) f ∙ ap (λ (m : ℕ). part_faults number 0 (take i fs) ++ map (placed number m) f.report) n) in
    added ∙ (ap (λ l. l ++ map (placed number i) f.report) before ∙ (append_assoc start (part_faults number 0 (take i fs)) (map (placed number i) f.report) ∙ ap (λ l. start ++ l) (sym pushed)))

text_push : (number k : ℕ) (ss : List SourceModel) (s : SourceModel) → text_faults number k (ss ++ s ∷ []) ≡ text_faults number k ss ++ text_fault number (k + length ss) s.content
text_push number k [] s = (let e : k ≡ k + 0 = omega arith in append-nil (text_fault number k s.content) ∙ ap (λ (n : ℕ). text_fault number n s.content) e)
text_push number k (x ∷ ss) s =
    let e : suc k + length ss ≡ k + suc (length ss) = omega arith in
    ap (λ l. text_fault number k x.content ++ l) (text_push number (suc k) ss s ∙ ap (λ (n : ℕ). text_faults number (suc k) ss ++ text_fault number n s.content) e)
    ∙ sym (append_assoc (text_fault number k x.content) (text_faults number (suc k) ss) (text_fault number (k + suc (length ss)) s.content))

pub text_more : (number i : ℕ) (ss : List SourceModel) (s : SourceModel) (start old new : List PlacedFault) → i < length ss → s ≡ get_or ss i s → old ≡ start ++ text_faults number 0 (take i ss) → new ≡ old ++ text_fault number i s.content → new ≡ start ++ text_faults number 0 (take (i + 1) ss)
text_more number i ss s start old new lt at before added =
    let n : 0 + length (take i ss) ≡ i = omega (arith, length-take i ss, lt) in
    let more : take (i + 1) ss ≡ take i ss ++ s ∷ [] = take_more ss i s lt ∙ ap (λ (x : SourceModel). take i ss ++ x ∷ []) (sym at) in
    let pushed : text_faults number 0 (take (i + 1) ss) ≡ text_faults number 0 (take i ss) ++ text_fault number i s.content
    = ap (text_faults number 0) more ∙ (text_push number 0 (take i ss) s ∙ ap (λ (m : ℕ). text_faults number 0 (take i ss) ++ text_fault number m s.content) n) in
    added ∙ (ap (λ l. l ++ text_fault number i s.content) before ∙ (append_assoc start (text_faults number 0 (take i ss)) (text_fault number i s.content) ∙ ap (λ l. start ++ l) (sym pushed)))
